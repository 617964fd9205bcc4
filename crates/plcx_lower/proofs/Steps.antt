-- One more item of a loop.
use Rattle.std.proofs.Common.{◌≡◌, ℕ, ◌<◌, ◌≤◌, ◌+◌, arith, List, [], ◌∷◌, ◌++◌, map, length, get_or, drop, sym, subst, ap, ◌∙◌, append_assoc}
use Rattle.std.proofs.lemmas.List.{drop_more}

-- the item at a place, and those behind it
pub drop_item : {A : Type 0} (xs : List A) (i : ℕ) (x : A) → i < length xs → x ≡ get_or xs i x → drop i xs ≡ x ∷ drop (i + 1) xs
drop_item xs i x low e = drop_more xs i x low ∙ ap (λ y. y ∷ drop (i + 1) xs) (sym e)

-- what is there and what is left make the whole, before and behind an item that is put there
pub one_more : {A B C S : Type 0} (h : S → C) (f : B → C) (g : A → B) (xs : List A) (i : ℕ) (x : A) (old new : List S) (whole : List C)
    → i < length xs → x ≡ get_or xs i x → map h old ++ map f (map g (drop i xs)) ≡ whole → map h new ≡ map h old ++ f (g x) ∷ [] → map h new ++ map f (map g (drop (i + 1) xs)) ≡ whole
one_more h f g xs i x old new whole low e before grown =
    let left = subst (λ ys. map h old ++ map f (map g ys) ≡ whole) (drop_item xs i x low e) before in
    rw (grown, append_assoc) left

-- a list from its first item on
pub first_of_all : {A : Type 0} (xs : List A) (x : A) → 1 ≤ length xs → x ≡ get_or xs 0 x → xs ≡ x ∷ drop 1 xs
first_of_all xs x low e = drop_item xs 0 x (omega arith) e

-- and from its first two on
pub first_two : {A : Type 0} (xs : List A) (x y : A) → 2 ≤ length xs → x ≡ get_or xs 0 x → y ≡ get_or xs 1 y → xs ≡ x ∷ y ∷ drop 2 xs
first_two xs x y low e k = drop_item xs 0 x (omega arith) e ∙ ap (λ ys. x ∷ ys) (drop_item xs 1 y (omega arith) k)
