-- Which functions the numbers of a store are, and when two pieces of a scan are alike.
use Rattle.std.specs.Prelude.{◌≡◌, ℕ, ◌+◌, ◌≤◌, ℤ, List, ◌++◌, Some, length, slice_get, slice_index_or}
use Rattle.std.specs.List.{fold}
use Rattle.plcx_types.specs.Name.{in_lower_case}
use Rattle.plcx_types.specs.Value.{Value}
use Rattle.plcx_meaning.specs.Base.{Path, Memory, AtEdge, AtOutput, Outcome, Ended, Stopped}
use Rattle.plcx_meaning.specs.Evaluate.{Heard, DiagramState, Wires}
use Rattle.plcx_steps.specs.declared.program.Instance.{Instance}
use Rattle.plcx_steps.specs.Numbered.{Numbered, number_at}

-- the numbers are the values of a function, each at the key of its place
pub record Holds {K : Type 0} (plain : K → K) (keys : List K) (f : K → ℤ) (xs : List Value) : Type 0 where
  pub long : length keys ≤ length xs
  pub each : (i : ℕ) (k : K) → slice_get keys i ≡ Some (plain k) → f k ≡ number_at xs i

-- no key stands twice
pub record AreApart {K : Type 0} (keys : List K) : Type 0 where
  pub apart : (i j : ℕ) (k : K) → slice_get keys i ≡ Some k → slice_get keys j ≡ Some k → i ≡ j

-- a memory of an instance, and an output of an element by its pin
abbrev pub Cell : Type 0
Cell = Path × Memory

abbrev pub Pin : Type 0
Pin = ℕ × List ℕ

-- keys without case; a path has none
abbrev pub plain_path : Path → Path
plain_path p = p

abbrev pub plain_memory : Memory → Memory
plain_memory (AtEdge i) = AtEdge i
plain_memory (AtOutput i pin) = AtOutput i (in_lower_case pin)

abbrev pub plain_cell : Cell → Cell
plain_cell c = (c.0, plain_memory c.1)

abbrev pub plain_pin : Pin → Pin
plain_pin p = (p.0, in_lower_case p.1)

-- the leaves and the memories of an instance, by their numbers, with paths within it
pub record Shape : Type 0 where
  pub paths : List Path
  pub cells : List Cell

-- no leaf and no memory stands twice
pub record IsApart (s : Shape) : Type 0 where
  pub paths : AreApart s.paths
  pub cells : AreApart s.cells

-- an instance of one shape lies within another from here on
pub record Lies (whole part : Shape) (p : Path) (at : Instance) : Type 0 where
  pub paths : (i : ℕ) (x : Path) → slice_get part.paths i ≡ Some x → slice_get whole.paths (at.leaves + i) ≡ Some (x ++ p)
  pub cells : (i : ℕ) (x : Path) (k : Memory) → slice_get part.cells i ≡ Some (x, k) → slice_get whole.cells (at.memories + i) ≡ Some (x ++ p, k)

-- The numbers are the diagram's state, at the shape of its program; and a watch that had heard this much has heard all that was heard since.
pub record Agree {M : Type 0} (whole : Shape) (tell : M → Heard → M) (begun : M) (d : DiagramState) (n : Numbered M) : Type 0 where
  pub store : Holds plain_path whole.paths d.store n.values
  pub memories : Holds plain_cell whole.cells (λ c. d.memories c.0 c.1) n.memories
  pub left : d.left ≡ n.left
  pub heard : n.watch ≡ fold tell begun d.heard

-- the leaves of a body's in-outs are those that these are bound to
pub record SameInOuts (whole : Shape) (names : List (List ℕ)) (bound : List ℕ → Path) (in_outs : List ℕ) : Type 0 where
  pub each : (j : ℕ) (x : List ℕ) → slice_get names j ≡ Some x → slice_get whole.paths (slice_index_or in_outs j 0) ≡ Some (bound x)

-- the wires of a network
abbrev pub SameWires : List Pin → Wires → List Value → Type 0
SameWires pins ws own = Holds plain_pin pins (λ p. ws p.0 p.1) own

abbrev pub AlikeAt : {M L K : Type 0} → Shape → (M → Heard → M) → M → (L → K → Type 0) → Outcome DiagramState L → Outcome (Numbered M) K → Type 0
AlikeAt whole tell begun R (Ended d l) (Ended n k) = Agree whole tell begun d n × R l k
AlikeAt whole tell begun R (Stopped s d) (Stopped r n) = (s ≡ r) × Agree whole tell begun d n
AlikeAt whole tell begun R _ _ = ⊥

-- both end, or both stop for the same cause, and then agree
pub record Alike {M L K : Type 0} (whole : Shape) (tell : M → Heard → M) (begun : M) (R : L → K → Type 0) (o : Outcome DiagramState L) (q : Outcome (Numbered M) K) : Type 0 where
  pub is : AlikeAt whole tell begun R o q

abbrev pub Nothing : {K : Type 0} → Unit {0} → K → Type 0
Nothing u k = Unit {0}
