-- Names that come once: one after another, or none among the rest.
use Rattle.std.proofs.Common.{◌≡◌, ◌<◌, ◌+◌, ◌∙◌, Bool, true, false, true≢false, List, [], ◌∷◌, ℕ, map, drop, length, slice_index_or, refl, sym, ap}
use Rattle.std.specs.Prelude.{not, ◌&&◌}
use Rattle.std.specs.List.{list_any}
use Rattle.std.specs.Str.{bytes_eq}
use Rattle.std.proofs.lemmas.Bool.{and_parts, and_from, or_parts, or_from, not-true, not_from_false, false_from_ne_true}
use Rattle.std.proofs.lemmas.Slice.Eq.{bytes_eq-Decides}
use Rattle.std.proofs.lemmas.List.{drop_more}
use Rattle.plcx_types.specs.Lists.{Each}
use Rattle.plcx_types.specs.Name.{in_lower_case}
use Rattle.plcx_meaning.specs.Base.{are_distinct}
use Rattle.plcx_meaning.proofs.Lists.{IsNew, distinct_parts, distinct_from}
use Rattle.plcx_scan.specs.Files.{Record}
use Rattle.plcx_ticks.specs.ReadTicks.{are_new}

other_way : (x y : List ℕ) → bytes_eq x y ≡ false → bytes_eq y x ≡ false
other_way x y h = false_from_ne_true (bytes_eq y x) (λ e. true≢false (sym ((bytes_eq-Decides x y).1 (sym ((bytes_eq-Decides y x).0 e))) ∙ h))

-- none of these is among the others
abbrev AreOthers : List (List ℕ) → List (List ℕ) → Type 0
AreOthers before keys = Each (λ (k : List ℕ). IsNew k before) keys

-- none of them is the one in front
later_new : (x : List ℕ) (before keys : List (List ℕ)) → AreOthers (x ∷ before) keys → IsNew x keys × AreOthers before keys
later_new x before [] h = (refl, tt)
later_new x before (k ∷ keys) h =
    let first = or_parts (bytes_eq k x) (list_any (bytes_eq k) before) h.0 in
    let rest = later_new x before keys h.1 in
    (or_from (bytes_eq x k) (list_any (bytes_eq x) keys) (other_way k x first.0) rest.0, (first.1, rest.1))

with_first : (x : List ℕ) (before keys : List (List ℕ)) → IsNew x keys → AreOthers before keys → AreOthers (x ∷ before) keys
with_first x before [] new h = tt
with_first x before (k ∷ keys) new h =
    let first = or_parts (bytes_eq x k) (list_any (bytes_eq x) keys) new in
    (or_from (bytes_eq k x) (list_any (bytes_eq k) before) (other_way x k first.0) h.0, with_first x before keys first.1 h.1)

new_distinct : (before keys : List (List ℕ)) → are_new before keys ≡ true → (are_distinct keys ≡ true) × AreOthers before keys
new_distinct before [] h = (refl, tt)
new_distinct before (k ∷ keys) h =
    let parts = and_parts (not (list_any (bytes_eq k) before)) (are_new (k ∷ before) keys) h in
    let rest = new_distinct (k ∷ before) keys parts.1 in
    let apart = later_new k before keys rest.1 in
    (distinct_from k keys apart.0 rest.0, (not-true (list_any (bytes_eq k) before) parts.0, apart.1))

distinct_new : (before keys : List (List ℕ)) → are_distinct keys ≡ true → AreOthers before keys → are_new before keys ≡ true
distinct_new before [] h k = refl
distinct_new before (x ∷ keys) h k =
    let parts = distinct_parts x keys h in
    and_from (not (list_any (bytes_eq x) before)) (are_new (x ∷ before) keys) (not_from_false (list_any (bytes_eq x) before) k.0) (distinct_new (x ∷ before) keys parts.1 (with_first x before keys parts.0 k.1))

all_others : (keys : List (List ℕ)) → AreOthers [] keys
all_others [] = tt
all_others (k ∷ keys) = (refl, all_others keys)

-- names of which none has come before come once where they are distinct
pub once_distinct : (keys : List (List ℕ)) → are_new [] keys ≡ are_distinct keys
once_distinct keys = by (are_distinct keys) refl (are_new [] keys) refl
  where
    by : (a : Bool) → are_distinct keys ≡ a → (b : Bool) → are_new [] keys ≡ b → are_new [] keys ≡ are_distinct keys
    by true p b q = distinct_new [] keys p (all_others keys) ∙ sym p
    by false p true q = absurd (true≢false (sym (new_distinct [] keys q).0 ∙ p))
    by false p false q = q ∙ sym p

-- one name more, which is new
pub new_more : (header : Record) (i : ℕ) (name : List ℕ) (before : List (List ℕ)) (once : Bool) → i < length header → name ≡ slice_index_or header i [] → not (list_any (bytes_eq (in_lower_case name)) before) ≡ true
    → are_new before (map in_lower_case (drop i header)) ≡ once → are_new (in_lower_case name ∷ before) (map in_lower_case (drop (i + 1) header)) ≡ once
new_more header i name before once lt is new h =
    let split : are_new before (map in_lower_case (drop i header)) ≡ are_new before (in_lower_case name ∷ map in_lower_case (drop (i + 1) header)) =
    ap (λ (r : Record). are_new before (map in_lower_case r)) (drop_more header i [] lt ∙ ap (λ (n : List ℕ). n ∷ drop (i + 1) header) (sym is)) in
    sym (ap (λ b. b && are_new (in_lower_case name ∷ before) (map in_lower_case (drop (i + 1) header))) new) ∙ sym split ∙ h
