-- What is known of elements, and what stands at pins.
use Rattle.std.proofs.Common.{◌≡◌, ℕ, zero, suc, ◌≤◌, List, [], ◌∷◌, Bor, Option, Some, None, map, drop, length, min, refl, sym, ap, ◌∙◌, arith}
use Rattle.std.specs.Option.{option_map, option_copied}
use Rattle.std.specs.List.{zip, slice_get}
use Rattle.std.proofs.lemmas.List.{drop_all, nil_from_length}
use Rattle.std.proofs.lemmas.Option.{slice_get-map}
use Rattle.std.proofs.lemmas.Slice.Zip.{length-zip}

copied : {A C : Type 0} (f : A → C) (r : Option (Bor A)) → option_map (λ (k : Bor A). f k.now) r ≡ option_map f (option_copied r)
copied f None = refl
copied f (Some k) = refl

-- what is shown of what stands at a place of one list is what is made of what stands there in another
pub at_place : {A B C : Type 0} (f : A → C) (g : B → C) (xs : List A) (ys : List B) (i : ℕ) (r : Option (Bor A)) → option_copied r ≡ slice_get xs i → map f xs ≡ map g ys
    → option_map (λ (k : Bor A). f k.now) r ≡ option_map g (slice_get ys i)
at_place f g xs ys i r is same =
    copied f r ∙ ap (option_map f) is ∙ sym (slice_get-map f xs i) ∙ ap (λ zs. slice_get zs i) same ∙ slice_get-map g ys i

beside_none : {A B : Type 0} (xs : List A) → zip xs (let none : List B = [] in none) ≡ []
beside_none [] = refl
beside_none (x ∷ xs) = refl

-- nothing stands beside nothing
pub zip_nothing : {A B : Type 0} (xs : List A) (ys : List B) → length ys ≡ 0 → zip xs ys ≡ []
zip_nothing xs ys none = ap (zip xs) (nil_from_length ys none) ∙ beside_none xs

zip_drop : {A B : Type 0} (i : ℕ) (xs : List A) (ys : List B) → zip (drop i xs) (drop i ys) ≡ drop i (zip xs ys)
zip_drop zero xs ys = refl
zip_drop (suc i) [] ys = refl
zip_drop (suc i) (x ∷ xs) [] = beside_none (drop i xs)
zip_drop (suc i) (x ∷ xs) (y ∷ ys) = zip_drop i xs ys

-- behind the end of the shorter of two lists nothing stands side by side
pub zip_over : {A B : Type 0} (i : ℕ) (xs : List A) (ys : List B) → min (length xs) (length ys) ≤ i → zip (drop i xs) (drop i ys) ≡ []
zip_over i xs ys over =
    let long : length (zip xs ys) ≤ i = omega (arith, length-zip xs ys) in
    zip_drop i xs ys ∙ drop_all i (zip xs ys) long
