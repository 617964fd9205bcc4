-- What holds at the places of a list, and steps one behind another.
use Rattle.std.proofs.Common.{◌≡◌, ◌∙◌, ℕ, zero, suc, ◌<◌, List, [], ◌∷◌, ◌++◌, get_or, length, map, sym, ap, subst, arith, append_assoc}
use Rattle.std.proofs.lemmas.List.{length-map}
use Rattle.plcx_types.specs.Lists.{Each}

-- what holds of each that is shown holds of what is shown at a place
pub each_shown : {A B : Type 0} (P : B → Type 0) (shown : A → B) (xs : List A) (i : ℕ) (d : A) → Each P (map shown xs) → i < length xs → P (shown (get_or xs i d))
each_shown P shown [] i d each within = absurd (omega arith)
each_shown P shown (x ∷ xs) zero d each within = each.0
each_shown P shown (x ∷ xs) (suc i) d each within = let less : i < length xs = omega arith in each_shown P shown xs i d each.1 less

-- and of an item that stands there
pub each_item : {A B : Type 0} (P : B → Type 0) (shown : A → B) (xs : List A) (i : ℕ) (x : A) → Each P (map shown xs) → i < length xs → x ≡ get_or xs i x → P (shown x)
each_item P shown xs i x each within is = subst (λ y. P (shown y)) (sym is) (each_shown P shown xs i x each within)

-- these, and then those
pub and_then : {A : Type 0} (start middle end a b : List A) → middle ≡ start ++ a → end ≡ middle ++ b → end ≡ start ++ (a ++ b)
and_then start middle end a b first second = second ∙ ap (λ xs. xs ++ b) first ∙ append_assoc start a b

-- as many are shown as there are
pub as_many : {A B : Type 0} (shown : A → B) (xs : List A) → length (map shown xs) ≡ length xs
as_many shown xs = length-map xs shown
