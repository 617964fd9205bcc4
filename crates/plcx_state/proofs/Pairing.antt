-- Two lists, item by item.
use Rattle.std.proofs.Common.{◌≡◌, ◌<◌, ◌≤◌, ◌+◌, subst, ◌∷◌, ◌++◌, ◌∙◌, ℕ, zero, suc, List, [], Some, take, drop, set, length, get_or, refl, sym, ap, ap₂, arith}
use Rattle.std.specs.Prelude.{slice_get}
use Rattle.std.proofs.lemmas.List.{drop_more, take_more_set, drop-set-lt, append_assoc, take_all, drop_all, append-nil}
use Rattle.plcx_state.specs.Retains.{Pairwise, each_with}

module _ {A B : Type 0} (R : A → B → Type 0) where
  pub long : (xs : List A) (ys : List B) → Pairwise R xs ys → length xs ≡ length ys
  long [] [] h = refl
  long [] (y ∷ ys) h = absurd h
  long (x ∷ xs) [] h = absurd h
  long (x ∷ xs) (y ∷ ys) h = ap suc (long xs ys h.1)

  pub pair_at : (xs : List A) (ys : List B) → Pairwise R xs ys → (i : ℕ) (x : A) (y : B) → slice_get xs i ≡ Some x → slice_get ys i ≡ Some y → R x y
  pair_at [] [] h i x y a b = absurd (cc)
  pair_at [] (z ∷ ys) h i x y a b = absurd h
  pair_at (z ∷ xs) [] h i x y a b = absurd h
  pair_at (z ∷ xs) (w ∷ ys) h zero x y a b = let e : z ≡ x = cc in let f : w ≡ y = cc in subst (λ v. R x v) f (subst (λ v. R v w) e h.0)
  pair_at (z ∷ xs) (w ∷ ys) h (suc i) x y a b = pair_at xs ys h.1 i x y a b

  pub pairs_from : (xs : List A) (ys : List B) → length xs ≡ length ys → ((i : ℕ) (x : A) (y : B) → slice_get xs i ≡ Some x → slice_get ys i ≡ Some y → R x y) → Pairwise R xs ys
  pairs_from [] [] e f = tt
  pairs_from [] (y ∷ ys) e f = absurd (omega arith)
  pairs_from (x ∷ xs) [] e f = absurd (omega arith)
  pairs_from (x ∷ xs) (y ∷ ys) e f = (f 0 x y refl refl, pairs_from xs ys (omega arith) (λ i. f (suc i)))

  pub pairs_set : (xs : List A) (ys : List B) → Pairwise R xs ys → (i : ℕ) (v : B) → ((x : A) → slice_get xs i ≡ Some x → R x v) → Pairwise R xs (set ys i v)
  pairs_set [] [] h i v f = tt
  pairs_set [] (y ∷ ys) h i v f = absurd h
  pairs_set (x ∷ xs) [] h i v f = absurd h
  pairs_set (x ∷ xs) (y ∷ ys) h zero v f = (f x refl, h.1)
  pairs_set (x ∷ xs) (y ∷ ys) h (suc i) v f = (h.0, pairs_set xs ys h.1 i v f)

  pub pairs_push : (xs : List A) (ys : List B) (x : A) (y : B) → Pairwise R xs ys → R x y → Pairwise R (xs ++ x ∷ []) (ys ++ y ∷ [])
  pairs_push [] [] x y h r = (r, tt)
  pairs_push [] (z ∷ ys) x y h r = absurd h
  pairs_push (z ∷ xs) [] x y h r = absurd h
  pairs_push (z ∷ xs) (w ∷ ys) x y h r = (h.0, pairs_push xs ys x y h.1 r)

module _ {A B C : Type 0} (f : A → B → C) where
  pub with_more : (xs : List A) (ys : List B) (i : ℕ) (d : A) (e : B) → i < length xs → i < length ys
      → each_with f (drop i xs) (drop i ys) ≡ f (get_or xs i d) (get_or ys i e) ∷ each_with f (drop (i + 1) xs) (drop (i + 1) ys)
  with_more xs ys i d e p q = ap₂ (each_with f) (drop_more xs i d p) (drop_more ys i e q)

  pub with_none : (xs : List A) (ys : List B) (i : ℕ) → length xs ≤ i → each_with f (drop i xs) (drop i ys) ≡ []
  with_none xs ys i p = ap (λ zs. each_with f zs (drop i ys)) (drop_all i xs p)

  -- one item more at the end
  pub pushed : (xs : List A) (ys : List B) (i : ℕ) (x : A) (y : B) (zs : List C) (whole : List C) → i < length xs → i < length ys → x ≡ get_or xs i x → y ≡ get_or ys i y
      → zs ++ each_with f (drop i xs) (drop i ys) ≡ whole → (zs ++ f x y ∷ []) ++ each_with f (drop (i + 1) xs) (drop (i + 1) ys) ≡ whole
  pushed xs ys i x y zs whole p q a b h =
      append_assoc zs (f x y ∷ []) (each_with f (drop (i + 1) xs) (drop (i + 1) ys))
      ∙ ap (λ r. zs ++ r) (ap₂ (λ v w. f v w ∷ each_with f (drop (i + 1) xs) (drop (i + 1) ys)) a b ∙ sym (with_more xs ys i x y p q))
      ∙ h

  pub all_pushed : (xs : List A) (ys : List B) (i : ℕ) (zs : List C) (whole : List C) → length xs ≤ i → zs ++ each_with f (drop i xs) (drop i ys) ≡ whole → zs ≡ whole
  all_pushed xs ys i zs whole p h = sym (append-nil zs) ∙ ap (λ r. zs ++ r) (sym (with_none xs ys i p)) ∙ h

-- one item more written in place
pub written : {A B : Type 0} (f : A → B → B) (xs : List A) (ys whole : List B) (i : ℕ) (x : A) (y : B) → i < length xs → i < length ys → x ≡ get_or xs i x → y ≡ get_or ys i y
    → take i ys ++ each_with f (drop i xs) (drop i ys) ≡ whole → take (i + 1) (set ys i (f x y)) ++ each_with f (drop (i + 1) xs) (drop (i + 1) (set ys i (f x y))) ≡ whole
written f xs ys whole i x y p q a b h =
    ap₂ (λ r s. r ++ each_with f (drop (i + 1) xs) s) (take_more_set ys i (f x y) q) (drop-set-lt (i + 1) ys i (f x y) (omega arith))
    ∙ pushed f xs ys i x y (take i ys) whole p q a b h

pub all_written : {A B : Type 0} (f : A → B → B) (xs : List A) (ys whole : List B) (i : ℕ) → length xs ≤ i → length ys ≤ i → take i ys ++ each_with f (drop i xs) (drop i ys) ≡ whole → ys ≡ whole
all_written f xs ys whole i p q h = sym (take_all i ys q) ∙ all_pushed f xs ys i (take i ys) whole p h
