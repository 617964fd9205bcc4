-- A list in which nothing stands twice is no longer than a list that has all its items.
use Rattle.std.proofs.Common.{◌≡◌, suc, ◌<◌, ◌≤◌, ◌⊎◌, inl, inr, Bool, true, false, cond, List, [], ◌∷◌, length, subst, arith}
use Rattle.std.specs.List.{filter}
use Rattle.std.specs.Prelude.{not}
use Rattle.plcx_types.specs.Lists.{Each}

-- one of a list is equal to it, where a test tells what is equal
abbrev pub Has : {A : Type 0} → List A → A → Type 0
Has [] y = ⊥
Has (x ∷ xs) y = (y ≡ x) ⊎ Has xs y

module _ {A : Type 0} (same : A → A → Bool) (equal : (x y : A) → same x y ≡ true → x ≡ y) (self : (x : A) → same x x ≡ true) where
  -- the others
  without : A → List A → List A
  without x xs = filter (λ y. not (same x y)) xs

  shorter : (x : A) (xs : List A) → length (without x xs) ≤ length xs
  unfolding without
  shorter x [] = omega arith
  shorter x (y ∷ ys) = by (same x y) (shorter x ys)
    where
      by : (b : Bool) → length (without x ys) ≤ length ys → length (cond (not b) (y ∷ without x ys) (without x ys)) ≤ suc (length ys)
      by true h = omega arith
      by false h = omega arith

  one_less : (x : A) (xs : List A) → Has xs x → length (without x xs) < length xs
  unfolding without
  one_less x [] h = absurd h
  one_less x (y ∷ ys) (inl e) = first (same x y) (subst (λ z. same x z ≡ true) e (self x))
    where
      first : (b : Bool) → b ≡ true → length (cond (not b) (y ∷ without x ys) (without x ys)) < suc (length ys)
      first true h = let s = shorter x ys in omega arith
      first false h = absurd (cc)
  one_less x (y ∷ ys) (inr k) = later (same x y) (one_less x ys k)
    where
      later : (b : Bool) → length (without x ys) < length ys → length (cond (not b) (y ∷ without x ys) (without x ys)) < suc (length ys)
      later true s = omega arith
      later false s = omega arith

  stays : (x y : A) (xs : List A) → same x y ≡ false → Has xs y → Has (without x xs) y
  unfolding without
  stays x y [] apart h = absurd h
  stays x y (z ∷ zs) apart (inl e) = first (same x z) (subst (λ w. same x w ≡ false) e apart)
    where
      first : (b : Bool) → b ≡ false → Has (cond (not b) (z ∷ without x zs) (without x zs)) y
      first true h = absurd (cc)
      first false h = inl e
  stays x y (z ∷ zs) apart (inr k) = later (same x z) (stays x y zs apart k)
    where
      later : (b : Bool) → Has (without x zs) y → Has (cond (not b) (z ∷ without x zs) (without x zs)) y
      later true h = h
      later false h = inr h

  -- each is none of those that follow
  abbrev pub Differ : List A → Type 0
  Differ [] = Unit {0}
  Differ (x ∷ xs) = Each (λ y. same x y ≡ false) xs × Differ xs

  all_stay : (x : A) (ys xs : List A) → Each (λ y. same x y ≡ false) ys → Each (Has xs) ys → Each (Has (without x xs)) ys
  all_stay x [] xs apart h = tt
  all_stay x (y ∷ ys) xs apart h = (stays x y xs apart.0 h.0, all_stay x ys xs apart.1 h.1)

  pub no_longer : (ys xs : List A) → Differ ys → Each (Has xs) ys → length ys ≤ length xs
  no_longer [] xs differ h = omega arith
  no_longer (y ∷ ys) xs differ h =
      let less = one_less y xs h.0 in
      let rest = no_longer ys (without y xs) differ.1 (all_stay y ys xs differ.0 h.1) in
      omega arith
