-- The elements of the ring: which stand where, and which outputs their connections name.
use Rattle.std.proofs.Common.{◌≡◌, ℕ, zero, suc, ◌+◌, ◌*◌, ◌≤◌, ◌<◌, Bool, false, nat_eq, List, [], ◌∷◌, length, get_or, take, Some, None, flat_map, slice_get, codes, refl, ap, ◌∙◌, arith, inl, inr, ◌⊎◌, eq-eqb, ne_eqb}
use Rattle.std.proofs.lemmas.Bool.{cases_eq, cond-true, cond-false, or_from}
use Rattle.std.proofs.lemmas.Option.{slice_get-get_or}
use Rattle.std.specs.List.{list_any, position_from, range_with_len}
use Rattle.plcx_model.specs.declared.body.Connection.{Connection}
use Rattle.plcx_model.specs.declared.body.Kind.TheVariants as kind
use Rattle.plcx_model.specs.declared.body.BodyElement.{BodyElement}
use Rattle.plcx_rules.specs.Sources.{source, place_of_id, output_place, source_of}
use Rattle.plcx_bench_project.specs.Bench.{variable_name, next_name, id_in, plain, element_in, to, term, network, ring_elements}
use Rattle.plcx_bench_rules.proofs.Blocks.{blocks_length, at_block}

-- ---- the four elements of a network

-- reads the variable of the network
abbrev pub reads : ℕ → BodyElement
reads i = element_in i 1 (kind.In (variable_name i) plain)

-- reads 1
abbrev pub one : ℕ → BodyElement
one i = element_in i 2 (kind.In (codes "DINT#1") plain)

-- adds both
abbrev pub adds : ℕ → BodyElement
adds i = element_in i 3 (kind.Block (codes "ADD") None (term (codes "IN1") (id_in i 1) ∷ term (codes "IN2") (id_in i 2) ∷ []) [] (record { formal = codes "OUT"; mods = plain } ∷ []))

-- writes the sum to the next variable
abbrev pub writes : ℕ → ℕ → BodyElement
writes n i = element_in i 4 (kind.Out (to (id_in i 3) (codes "OUT")) (next_name n i) plain)

-- the networks from a on, m of them
abbrev pub networks : ℕ → ℕ → ℕ → List BodyElement
networks n a m = flat_map (network n) (range_with_len a m)

-- ---- by place

four : (n i : ℕ) → length (network n i) ≡ 4
four n i = refl

pub count : (n : ℕ) → length (ring_elements n) ≡ 4 * n
count n = blocks_length (network n) 4 (four n) 0 n

at_place : (n i k p : ℕ) (e : BodyElement) → i < n → k < 4 → p ≡ 4 * i + k → get_or (network n i) k e ≡ e → slice_get (ring_elements n) p ≡ Some e
at_place n i k p e below within at is =
    let inside : p < length (ring_elements n) = omega (arith, count n) in
    slice_get-get_or (ring_elements n) p e inside ∙ ap Some (at_block (network n) 4 (four n) 0 n i k p i e below within at (omega arith) ∙ is)

pub reads_at : (n i p : ℕ) → i < n → p ≡ 4 * i → slice_get (ring_elements n) p ≡ Some (reads i)
reads_at n i p below at = at_place n i 0 p (reads i) below (omega arith) (omega arith) refl

pub one_at : (n i p : ℕ) → i < n → p ≡ 4 * i + 1 → slice_get (ring_elements n) p ≡ Some (one i)
one_at n i p below at = at_place n i 1 p (one i) below (omega arith) (omega arith) refl

pub adds_at : (n i p : ℕ) → i < n → p ≡ 4 * i + 2 → slice_get (ring_elements n) p ≡ Some (adds i)
adds_at n i p below at = at_place n i 2 p (adds i) below (omega arith) (omega arith) refl

-- ---- by number

-- each has the number after its place, which is counted from p on
abbrev pub IsNumbered : ℕ → List BodyElement → Type 0
IsNumbered p [] = Unit {0}
IsNumbered p (e ∷ es) = (e.local_id ≡ p + 1) × IsNumbered (p + 1) es

numbered_from : (n p a m : ℕ) → p ≡ 4 * a → IsNumbered p (networks n a m)
numbered_from n p a zero at = tt
numbered_from n p a (suc m) at = (omega arith, (omega arith, (omega arith, (omega arith, numbered_from n (p + 1 + 1 + 1 + 1) (a + 1) m (omega arith)))))

pub numbered : (n : ℕ) → IsNumbered 0 (ring_elements n)
numbered n = numbered_from n 0 0 n (omega arith)

-- the element has that number
abbrev has_number : ℕ → BodyElement → Bool
has_number id e = nat_eq e.local_id id

-- none of the first k has a number that comes later
pub none_before : (id p k : ℕ) (es : List BodyElement) → IsNumbered p es → p + k < id → list_any (λ (e : BodyElement). nat_eq e.local_id id) (take k es) ≡ false
none_before id p zero es is later = refl
none_before id p (suc k) [] is later = refl
none_before id p (suc k) (e ∷ es) is later =
    let own = is.0 in
    or_from _ _ (ne_eqb e.local_id id (λ same. omega arith)) (none_before id (p + 1) k es is.1 (omega arith))

-- the place of a number
place_from : (id p at : ℕ) (es : List BodyElement) → IsNumbered p es → id ≡ at + 1 → p ≤ at → at < p + length es → position_from (has_number id) p es ≡ Some at
place_from id p at [] is number from to = absurd (omega arith)
place_from id p at (e ∷ es) is number from to = by (cases_eq p at) (λ more. place_from id (p + 1) at es is.1 number more (omega arith))
  where
    by : (p ≡ at) ⊎ (p ≡ at → ⊥) → (p + 1 ≤ at → position_from (has_number id) (p + 1) es ≡ Some at) → position_from (has_number id) p (e ∷ es) ≡ Some at
    by (inl same) later = let own = is.0 in cond-true _ _ _ (eq-eqb e.local_id id (omega arith)) ∙ ap Some same
    by (inr differ) later = let own = is.0 in cond-false _ _ _ (ne_eqb e.local_id id (λ k. differ (omega arith))) ∙ later (omega arith)

pub place_of : (n id at : ℕ) → id ≡ at + 1 → at < 4 * n → place_of_id (ring_elements n) id ≡ Some at
unfolding place_of_id
place_of n id at number below = place_from id 0 at (ring_elements n) (numbered n) number (omega arith) (omega (arith, count n))

-- ---- connections

-- the source of a connection, by the element that it names
source_found : (es : List BodyElement) (c : Connection) (p pin : ℕ) (e : BodyElement)
    → place_of_id es c.element ≡ Some p → slice_get es p ≡ Some e → output_place e.kind c.formal ≡ Some pin → source_of es c ≡ Some (source p pin)
unfolding source_of
source_found es c p pin e at is named = rw (at, is, named) refl

-- to what the network reads
abbrev pub to_reads : ℕ → Connection
to_reads i = record { element = id_in i 1; formal = [] }

-- to its 1
abbrev pub to_one : ℕ → Connection
to_one i = record { element = id_in i 2; formal = [] }

-- to its sum
abbrev pub to_adds : ℕ → Connection
to_adds i = record { element = id_in i 3; formal = codes "OUT" }

output_of_reads : (i : ℕ) → output_place (reads i).kind [] ≡ Some 0
unfolding output_place
output_of_reads i = refl

output_of_one : (i : ℕ) → output_place (one i).kind [] ≡ Some 0
unfolding output_place
output_of_one i = refl

output_of_adds : (i : ℕ) → output_place (adds i).kind (codes "OUT") ≡ Some 0
unfolding output_place
output_of_adds i = refl

pub reads_found : (n i : ℕ) → i < n → source_of (ring_elements n) (to_reads i) ≡ Some (source (4 * i) 0)
reads_found n i below =
    source_found (ring_elements n) (to_reads i) (4 * i) 0 (reads i)
    (place_of n (id_in i 1) (4 * i) refl (omega arith)) (reads_at n i (4 * i) below refl) (output_of_reads i)

pub one_found : (n i : ℕ) → i < n → source_of (ring_elements n) (to_one i) ≡ Some (source (4 * i + 1) 0)
one_found n i below =
    source_found (ring_elements n) (to_one i) (4 * i + 1) 0 (one i)
    (place_of n (id_in i 2) (4 * i + 1) (omega arith) (omega arith)) (one_at n i (4 * i + 1) below refl) (output_of_one i)

pub adds_found : (n i : ℕ) → i < n → source_of (ring_elements n) (to_adds i) ≡ Some (source (4 * i + 2) 0)
adds_found n i below =
    source_found (ring_elements n) (to_adds i) (4 * i + 2) 0 (adds i)
    (place_of n (id_in i 3) (4 * i + 2) (omega arith) (omega arith)) (adds_at n i (4 * i + 2) below refl) (output_of_adds i)
