-- Two lists, place by place.
use Rattle.std.proofs.Common.{◌≡◌, ℕ, zero, suc, ◌+◌, ◌<◌, List, [], ◌∷◌, ◌++◌, take, get_or, map, length, Some, refl, sym, ap, ◌∙◌, subst, arith}
use Rattle.std.specs.Prelude.{slice_get}
use Rattle.std.specs.List.{AllZip}
use Rattle.std.proofs.lemmas.List.{take_more}
use Rattle.std.proofs.lemmas.Option.{same_Some}
use Rattle.plcx_types.specs.Lists.{Each}

-- one pair more
zip_push : {A B : Type 0} (R : A → B → Type 0) (xs : List A) (ys : List B) (x : A) (y : B) → AllZip R xs ys → R x y → AllZip R (xs ++ x ∷ []) (ys ++ y ∷ [])
zip_push R [] [] x y h r = (r, tt)
zip_push R [] (z ∷ zs) x y h r = absurd h
zip_push R (z ∷ zs) [] x y h r = absurd h
zip_push R (w ∷ ws) (z ∷ zs) x y h r = (h.0, zip_push R ws zs x y h.1 r)

-- the next of those that are mapped
pub zip_more : {A B C : Type 0} (R : A → B → Type 0) (f : C → A) (cs : List C) (i : ℕ) (d : C) (ys zs : List B) (y : B) → i < length cs → zs ≡ ys ++ y ∷ []
    → AllZip R (map f (take i cs)) ys → R (f (get_or cs i d)) y → AllZip R (map f (take (i + 1) cs)) zs
zip_more R f cs i d ys zs y low is h r =
    subst (AllZip R (map f (take (i + 1) cs))) (sym is)
    (subst (λ xs. AllZip R xs (ys ++ y ∷ [])) (sym (ap (map f) (take_more cs i d low) ∙ map_last f (take i cs) (get_or cs i d)))
    (zip_push R (map f (take i cs)) ys (f (get_or cs i d)) y h r))
  where
    map_last : {A B : Type 0} (g : A → B) (xs : List A) (x : A) → map g (xs ++ x ∷ []) ≡ map g xs ++ g x ∷ []
    map_last g [] x = refl
    map_last g (z ∷ zs) x = ap (λ ws. g z ∷ ws) (map_last g zs x)

-- what stands at the same place of both
pub zip_there : {A B : Type 0} (R : A → B → Type 0) (xs : List A) (ys : List B) → AllZip R xs ys → (i : ℕ) (y : B) → slice_get ys i ≡ Some y → (x : A) × (slice_get xs i ≡ Some x) × R x y
zip_there R [] [] h i y there = absurd (let no : ⊥ = cc in no)
zip_there R [] (z ∷ zs) h i y there = absurd h
zip_there R (w ∷ ws) [] h i y there = absurd h
zip_there R (w ∷ ws) (z ∷ zs) h zero y there = (w, refl, subst (R w) (same_Some z y there) h.0)
zip_there R (w ∷ ws) (z ∷ zs) h (suc i) y there = zip_there R ws zs h.1 i y there

-- two steps in place of one
pub zip_through : {A B C : Type 0} (R : A → B → Type 0) (S : B → C → Type 0) (T : A → C → Type 0) (P : A → Type 0) (Q : C → Type 0) (xs : List A) (ys : List B) (zs : List C)
    → ((x : A) (y : B) (z : C) → P x → Q z → R x y → S y z → T x z) → Each P xs → Each Q zs → AllZip R xs ys → AllZip S ys zs → AllZip T xs zs
zip_through R S T P Q [] [] [] f ps qs h k = tt
zip_through R S T P Q [] [] (z ∷ zs) f ps qs h k = absurd k
zip_through R S T P Q [] (y ∷ ys) zs f ps qs h k = absurd h
zip_through R S T P Q (x ∷ xs) [] zs f ps qs h k = absurd h
zip_through R S T P Q (x ∷ xs) (y ∷ ys) [] f ps qs h k = absurd k
zip_through R S T P Q (x ∷ xs) (y ∷ ys) (z ∷ zs) f ps qs h k = (f x y z ps.0 qs.0 h.0 k.0, zip_through R S T P Q xs ys zs f ps.1 qs.1 h.1 k.1)

-- what an item is shown as stands among all that are shown
pub mapped_there : {A B : Type 0} (f : A → B) (xs : List A) (i : ℕ) (x : A) → i < length xs → x ≡ get_or xs i x → slice_get (map f xs) i ≡ Some (f x)
mapped_there f [] i x low is = absurd (omega arith)
mapped_there f (y ∷ ys) zero x low is = ap (λ z. Some (f z)) (sym is)
mapped_there f (y ∷ ys) (suc i) x low is = let less : i < length ys = omega arith in mapped_there f ys i x less is

-- what holds of each that is shown holds of what each is shown as
pub each_unmapped : {A B : Type 0} (P : B → Type 0) (f : A → B) (xs : List A) → Each P (map f xs) → Each (λ x. P (f x)) xs
each_unmapped P f [] h = tt
each_unmapped P f (x ∷ xs) h = (h.0, each_unmapped P f xs h.1)
