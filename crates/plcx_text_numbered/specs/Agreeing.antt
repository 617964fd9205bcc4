-- Which functions the numbers of a store and of wires are, and when two pieces of a scan are alike.
use Rattle.std.specs.Prelude.{◌≡◌, ℕ, ◌+◌, ◌<◌, List, ◌++◌, Some, length, slice_get, slice_index_or}
use Rattle.plcx_types.specs.declared.ty.Ty.{Ty}
use Rattle.plcx_types.specs.Value.{Value}
use Rattle.plcx_meaning.specs.Base.{Path, Faulted, Outcome, Ended, Stopped}
use Rattle.plcx_meaning.specs.Functions.{Answer, Given, Faulty}
use Rattle.plcx_meaning.specs.Execute.{TextState, Frame}
use Rattle.plcx_steps.specs.declared.program.Source.{Source}
use Rattle.plcx_steps.specs.Numbered.{Here, value_at, read}
use Rattle.plcx_text_steps.specs.Numbered.{Numbers, cells_of}
use Rattle.plcx_numbered.specs.Agreeing.{Holds, plain_path}

-- the leaves of an instance lie among those of a program from this number on
pub record Lies (whole part : List Path) (p : Path) (first : ℕ) : Type 0 where
  pub paths : (i : ℕ) (x : Path) → slice_get part i ≡ Some x → slice_get whole (first + i) ≡ Some (x ++ p)

-- the leaves of a body's in-outs are those that these are bound to
pub record SameInOuts (whole : List Path) (names : List (List ℕ)) (bound : List ℕ → Path) (in_outs : List ℕ) : Type 0 where
  pub each : (j : ℕ) (x : List ℕ) → slice_get names j ≡ Some x → slice_get whole (slice_index_or in_outs j 0) ≡ Some (bound x)

-- the numbers are the state of the text, at the leaves of its program
pub record Agree (paths : List Path) (g : TextState) (n : Numbers) : Type 0 where
  pub store : Holds plain_path paths g.store n.values
  pub left : g.left ≡ n.left

-- names of temporaries are without case already
abbrev pub plain_name : List ℕ → List ℕ
plain_name x = x

-- the first wires are the temporaries of a call, by their names without case
abbrev pub SameFrame : List (List ℕ) → Frame → List Value → Type 0
SameFrame names f ws = Holds plain_name names f ws

abbrev pub AlikeAt : {L K : Type 0} → List Path → (L → K → Type 0) → Outcome TextState L → Outcome Numbers K → Type 0
AlikeAt paths R (Ended g l) (Ended n k) = Agree paths g n × R l k
AlikeAt paths R (Stopped s g) (Stopped r n) = (s ≡ r) × Agree paths g n
AlikeAt paths R _ _ = ⊥

-- both end, or both stop for the same cause, and then agree
pub record Alike {L K : Type 0} (paths : List Path) (R : L → K → Type 0) (o : Outcome TextState L) (q : Outcome Numbers K) : Type 0 where
  pub is : AlikeAt paths R o q

-- the wires below this one are as they were, and there are as many
pub record IsBelow (w : ℕ) (old new : List Value) : Type 0 where
  pub count : length new ≡ length old
  pub same : (i : ℕ) → i < w → value_at new i ≡ value_at old i

-- A source has the value of an expression, which has this type, where the wires were these before; and wires below this one are as they were.
pub record Reads (here : Here) (n : Numbers) (w : ℕ) (old : List Value) (t : Ty) (source : Source) (v : Value) (new : List Value) : Type 0 where
  pub number : v.n ≡ read here (cells_of n new) source
  pub typed : v.ty ≡ t
  pub below : IsBelow w old new

abbrev pub RunsAt : {A : Type 0} → Numbers → (A → List Value → Type 0) → Answer A → Outcome Numbers (List Value) → Type 0
RunsAt n R (Given x) (Ended m ws) = (m ≡ n) × R x ws
RunsAt n R (Faulty fault) (Stopped s m) = (s ≡ Faulted fault) × (m ≡ n)
RunsAt n R _ _ = ⊥

-- Lines compute an answer: they end behind a value, with the wires that are said, and stop at a fault. Only wires change.
pub record Runs {A : Type 0} (n : Numbers) (R : A → List Value → Type 0) (a : Answer A) (q : Outcome Numbers (List Value)) : Type 0 where
  pub is : RunsAt n R a q

-- nothing is local to a body
abbrev pub Nothing : {K : Type 0} → Unit {0} → K → Type 0
Nothing u k = Unit {0}
