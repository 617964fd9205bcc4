-- Loops over a list, one item more at a time.
use Rattle.std.proofs.Common.{◌≡◌, ℕ, ◌+◌, ◌<◌, ◌≤◌, List, [], ◌∷◌, ◌++◌, map, take, get_or, length, sym, ap, ap₂, ◌∙◌, subst, append_assoc}
use Rattle.std.specs.List.{flat_map, AllZip}
use Rattle.std.proofs.lemmas.List.{take_more, take_all, map-append, append-nil}
use Rattle.std.proofs.lemmas.Grind.{flat_map-append}

-- the items so far, and this one
pub taken : {X : Type 0} (xs : List X) (i : ℕ) (x : X) → i < length xs → x ≡ get_or xs i x → take (i + 1) xs ≡ take i xs ++ x ∷ []
taken xs i x low is = take_more xs i x low ∙ ap (λ y. take i xs ++ y ∷ []) (sym is)

-- what is made of them
pub made : {X Y : Type 0} (f : X → Y) (xs : List X) (i : ℕ) (x : X) → i < length xs → x ≡ get_or xs i x → map f (take (i + 1) xs) ≡ map f (take i xs) ++ f x ∷ []
made f xs i x low is = ap (map f) (taken xs i x low is) ∙ map-append f (take i xs) (x ∷ [])

-- what holds of what was made of all so far, and then of one more
module _ {X Y : Type 0} (P : List Y → Type 0) (f : X → Y) (xs : List X) (i : ℕ) where
  pub step_made : (x : X) (y : Y) → y ≡ f x → i < length xs → x ≡ get_or xs i x → P (map f (take i xs) ++ y ∷ []) → P (map f (take (i + 1) xs))
  step_made x y same low is h = subst P (sym (made f xs i x low is)) (subst (λ z. P (map f (take i xs) ++ z ∷ [])) same h)

  pub all_made : length xs ≤ i → P (map f (take i xs)) → P (map f xs)
  all_made high h = subst (λ ys. P (map f ys)) (take_all i xs high) h

-- the same where the item is read by its place
module _ {X Y : Type 0} (P : List Y → Type 0) (f : X → Y) (xs : List X) (i : ℕ) where
  pub step_at : (d : X) → i < length xs → P (map f (take i xs) ++ f (get_or xs i d) ∷ []) → P (map f (take (i + 1) xs))
  step_at d low h = subst P (sym (ap (map f) (take_more xs i d low) ∙ map-append f (take i xs) (get_or xs i d ∷ []))) h

-- and where each item makes several
module _ {X Y : Type 0} (P : List Y → Type 0) (f : X → List Y) (xs : List X) (i : ℕ) where
  flat_made : (x : X) → i < length xs → x ≡ get_or xs i x → flat_map f (take (i + 1) xs) ≡ flat_map f (take i xs) ++ f x
  flat_made x low is = ap (flat_map f) (taken xs i x low is) ∙ flat_map-append f (take i xs) (x ∷ []) ∙ ap (λ ys. flat_map f (take i xs) ++ ys) (append-nil (f x))

  pub step_flat : (x : X) → i < length xs → x ≡ get_or xs i x → P (flat_map f (take i xs) ++ f x) → P (flat_map f (take (i + 1) xs))
  step_flat x low is h = subst P (sym (flat_made x low is)) h

  pub all_flat : length xs ≤ i → P (flat_map f (take i xs)) → P (flat_map f xs)
  all_flat high h = subst (λ ys. P (flat_map f ys)) (take_all i xs high) h

-- one item more, behind those that were there
pub grown : {X Y Z : Type 0} (shown : Z → Y) (f : X → Y) (before : List Y) (xs : List X) (i : ℕ) (x : X) (old new : List Z) (z : Z) → i < length xs → x ≡ get_or xs i x → new ≡ old ++ z ∷ [] → shown z ≡ f x
    → map shown old ≡ before ++ map f (take i xs) → map shown new ≡ before ++ map f (take (i + 1) xs)
grown shown f before xs i x old new z low is pushed same h =
    ap (map shown) pushed ∙ map-append shown old (z ∷ []) ∙ ap₂ (λ a b. a ++ b ∷ []) h same
    ∙ append_assoc before (map f (take i xs)) (f x ∷ [])
    ∙ ap (λ ys. before ++ ys) (sym (made f xs i x low is))

-- lists that go together, and one pair more
pub pairs_push : {X Y : Type 0} (R : X → Y → Type 0) (xs : List X) (ys : List Y) (x : X) (y : Y) → AllZip R xs ys → R x y → AllZip R (xs ++ x ∷ []) (ys ++ y ∷ [])
pairs_push R [] [] x y h r = (r, h)
pairs_push R [] (w ∷ ys) x y h r = absurd h
pairs_push R (z ∷ xs) [] x y h r = absurd h
pairs_push R (z ∷ xs) (w ∷ ys) x y h r = (h.0, pairs_push R xs ys x y h.1 r)
