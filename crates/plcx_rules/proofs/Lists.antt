-- Facts over lists.
use Rattle.std.proofs.Common.{◌≡◌, ℕ, suc, ◌+◌, ◌<◌, Bool, true, false, cond, ◌||◌, List, [], ◌∷◌, ◌++◌, length, map, Option, Some, None, refl, ap, arith}
use Rattle.std.specs.List.{list_any, position_from, filter_map, cons_option, flat_map}
use Rattle.plcx_types.specs.Lists.{Each}
use Rattle.plcx_model.specs.Verdict.{Never}

pub length_map : {A B : Type 0} (f : A → B) (xs : List A) → length (map f xs) ≡ length xs
length_map f [] = refl
length_map f (x ∷ xs) = ap suc (length_map f xs)

pub each_append : {A : Type 0} (P : A → Type 0) (xs ys : List A) → Each P xs → Each P ys → Each P (xs ++ ys)
each_append P [] ys e f = f
each_append P (x ∷ xs) ys e f = (e.0, each_append P xs ys e.1 f)

pub each_split : {A : Type 0} (P : A → Type 0) (xs ys : List A) → Each P (xs ++ ys) → Each P xs × Each P ys
each_split P [] ys e = (tt, e)
each_split P (x ∷ xs) ys e = let rest = each_split P xs ys e.1 in ((e.0, rest.0), rest.1)

pub each_more : {A : Type 0} (P Q : A → Type 0) (xs : List A) → ((x : A) → P x → Q x) → Each P xs → Each Q xs
each_more P Q [] more e = tt
each_more P Q (x ∷ xs) more e = (more x e.0, each_more P Q xs more e.1)

pub each_of_map : {A B : Type 0} (P : B → Type 0) (f : A → B) (xs : List A) → ((x : A) → P (f x)) → Each P (map f xs)
each_of_map P f [] all = tt
each_of_map P f (x ∷ xs) all = (all x, each_of_map P f xs all)

pub each_of_flat_map : {A B : Type 0} (P : B → Type 0) (f : A → List B) (xs : List A) → ((x : A) → Each P (f x)) → Each P (flat_map f xs)
each_of_flat_map P f [] all = tt
each_of_flat_map P f (x ∷ xs) all = each_append P (f x) (flat_map f xs) (all x) (each_of_flat_map P f xs all)

-- where an answer is one, it is so
abbrev pub OnEvery : {A : Type 0} → (A → Type 0) → Option A → Type 0
OnEvery P None = Unit {0}
OnEvery P (Some x) = P x

each_cons : {A : Type 0} (P : A → Type 0) (o : Option A) (xs : List A) → OnEvery P o → Each P xs → Each P (cons_option o xs)
each_cons P None xs h e = e
each_cons P (Some x) xs h e = (h, e)

pub each_of_filter_map : {A B : Type 0} (P : B → Type 0) (f : A → Option B) (xs : List A) → ((x : A) → OnEvery P (f x)) → Each P (filter_map f xs)
each_of_filter_map P f [] all = tt
each_of_filter_map P f (x ∷ xs) all = each_cons P (f x) (filter_map f xs) (all x) (each_of_filter_map P f xs all)

-- what never holds holds of none
pub each_never : {A : Type 0} (P : A → Type 0) (before xs : List A) → Never (λ (b : List A) (x : A). P x) before xs → Each (λ (x : A). P x → ⊥) xs
each_never P before [] never = tt
each_never P before (x ∷ xs) never = (never.0, each_never P (x ∷ before) xs never.1)

pub or_left : (a b : Bool) → a ≡ true → a || b ≡ true
or_left true b h = refl
or_left false b h = cc

pub or_right : (a b : Bool) → b ≡ true → a || b ≡ true
or_right true b h = refl
or_right false b h = h

pub any_front : {A : Type 0} (t : A → Bool) (xs ys : List A) → list_any t xs ≡ true → list_any t (xs ++ ys) ≡ true
any_front t [] ys h = cc
any_front t (x ∷ xs) ys h = front (t x) (list_any t xs) (list_any t (xs ++ ys)) (any_front t xs ys) h
  where
    front : (a b c : Bool) → (b ≡ true → c ≡ true) → a || b ≡ true → a || c ≡ true
    front true b c more h = refl
    front false b c more h = more h

pub any_last : {A : Type 0} (t : A → Bool) (xs : List A) (y : A) → t y ≡ true → list_any t (xs ++ y ∷ []) ≡ true
any_last t [] y h = or_left (t y) false h
any_last t (x ∷ xs) y h = or_right (t x) (list_any t (xs ++ y ∷ [])) (any_last t xs y h)

-- of none where not of some
pub none_of : {A : Type 0} (t : A → Bool) (xs : List A) → (list_any t xs ≡ true → ⊥) → Each (λ (x : A). t x ≡ true → ⊥) xs
none_of t [] h = tt
none_of t (x ∷ xs) h = ((λ k. h (or_left (t x) (list_any t xs) k)), none_of t xs (λ k. h (or_right (t x) (list_any t xs) k)))

below_cond : (b : Bool) (n m : ℕ) (o : Option ℕ) (i : ℕ) → (o ≡ Some i → i < n + suc m) → cond b (Some n) o ≡ Some i → i < n + suc m
below_cond true n m o i more h = let e : n ≡ i = cc in omega (arith, e)
below_cond false n m o i more h = more h

pub below_end : {A : Type 0} (t : A → Bool) (n : ℕ) (xs : List A) (i : ℕ) → position_from t n xs ≡ Some i → i < n + length xs
below_end t n [] i h = cc
below_end t n (x ∷ xs) i h = below_cond (t x) n (length xs) (position_from t (n + 1) xs) i (λ k. let r = below_end t (n + 1) xs i k in omega (arith, r)) h

pub any_none : {A : Type 0} (t : A → Bool) (xs : List A) → Each (λ (x : A). t x ≡ true → ⊥) xs → list_any t xs ≡ false
any_none t [] e = refl
any_none t (x ∷ xs) e = neither (t x) (list_any t xs) e.0 (any_none t xs e.1)
  where
    neither : (a b : Bool) → (a ≡ true → ⊥) → b ≡ false → a || b ≡ false
    neither true b h k = absurd (h refl)
    neither false b h k = k
