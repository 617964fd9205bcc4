-- What feeds back of an element: ports of it, each once.
use Rattle.std.proofs.Common.{◌≡◌, ℕ, Bool, true, false, List, [], ◌∷◌, map, filter, refl, sym, ap, ◌∙◌, subst, if◌then◌else◌}
use Rattle.std.specs.List.{list_any, Contains}
use Rattle.std.specs.Str.{bytes_eq}
use Rattle.std.proofs.lemmas.Bool.{or_parts, or_from}
use Rattle.plcx_types.specs.Name.{in_lower_case}
use Rattle.plcx_types.specs.Lists.{Each}
use Rattle.plcx_meaning.specs.Base.{are_distinct}
use Rattle.plcx_meaning.specs.Diagram.{Port, ports, is_fed, DiagramElement, Pou}
use Rattle.plcx_meaning.specs.Fits.{PortsFit}
use Rattle.plcx_meaning.proofs.Lists.{contains_first, contains_later, each_weaker, IsNew, distinct_parts, distinct_from}

-- what passes a test is among what is tested
pub passing_among : {A : Type 0} (test : A → Bool) (xs : List A) → Each (Contains xs) (filter test xs)
passing_among test [] = tt
passing_among {A} test (x ∷ xs) = by (test x) (each_weaker (Contains xs) (Contains (x ∷ xs)) (filter test xs) (λ y. contains_later x xs y) (passing_among test xs))
  where
    by : (b : Bool) → Each (Contains (x ∷ xs)) (filter test xs) → Each (Contains (x ∷ xs)) (if b then x ∷ filter test xs else filter test xs)
    by true rest = (contains_first x xs, rest)
    by false rest = rest

abbrev names : List Port → List (List ℕ)
names os = map (λ (o : Port). in_lower_case o.pin) os

new_passing : (test : Port → Bool) (x : List ℕ) (os : List Port) → IsNew x (names os) → IsNew x (names (filter test os))
new_passing test x [] h = refl
new_passing test x (o ∷ os) h =
    let parts = or_parts (bytes_eq x (in_lower_case o.pin)) (list_any (bytes_eq x) (names os)) h in
    by (test o) parts.0 (new_passing test x os parts.1)
  where
    by : (b : Bool) → bytes_eq x (in_lower_case o.pin) ≡ false → IsNew x (names (filter test os)) → IsNew x (names (if b then o ∷ filter test os else filter test os))
    by true other rest = or_from (bytes_eq x (in_lower_case o.pin)) (list_any (bytes_eq x) (names (filter test os))) other rest
    by false other rest = rest

distinct_passing : (test : Port → Bool) (os : List Port) → are_distinct (names os) ≡ true → are_distinct (names (filter test os)) ≡ true
distinct_passing test [] h = refl
distinct_passing test (o ∷ os) h =
    let parts = distinct_parts (in_lower_case o.pin) (names os) h in
    by (test o) (new_passing test (in_lower_case o.pin) os parts.0) (distinct_passing test os parts.1)
  where
    by : (b : Bool) → IsNew (in_lower_case o.pin) (names (filter test os)) → are_distinct (names (filter test os)) ≡ true → are_distinct (names (if b then o ∷ filter test os else filter test os)) ≡ true
    by true new rest = distinct_from (in_lower_case o.pin) (names (filter test os)) new rest
    by false new rest = rest

pub fed_ports : (p : Pou) (e : DiagramElement) → PortsFit p e → Each (Contains (ports e.kind)) e.fed
fed_ports p e fit = subst (Each (Contains (ports e.kind))) (sym fit.fed) (passing_among (is_fed p e.id) (ports e.kind))

pub fed_distinct : (p : Pou) (e : DiagramElement) → PortsFit p e → are_distinct (map (λ (o : Port). in_lower_case o.pin) e.fed) ≡ true
fed_distinct p e fit = ap (λ os. are_distinct (names os)) fit.fed ∙ distinct_passing (is_fed p e.id) (ports e.kind) fit.pins
