-- Keys by their numbers, and which of them are there.
use Rattle.std.proofs.Common.{◌≡◌, ℕ, zero, suc, ◌+◌, Bool, true, false, List, [], ◌∷◌, ◌++◌, Some, Decides, refl, sym, ap, ◌∙◌, subst, arith, ◌⊎◌, inl, inr}
use Rattle.std.specs.Prelude.{slice_get, if◌then◌else◌}
use Rattle.std.specs.List.{Contains}
use Rattle.std.proofs.lemmas.Bool.{true≢false}
use Rattle.std.proofs.lemmas.Option.{slice_get-get_or, slice_get_within, get_or_from_slice_get}
use Rattle.plcx_types.specs.Lists.{Each}
use Rattle.plcx_meaning.proofs.Lists.{contains_cases, contains_none, contains_first, contains_later}
use Rattle.plcx_numbered.specs.Agreeing.{AreApart}
use Rattle.plcx_numbered.specs.Numbers.{number_of}

-- a key that is there stands at its number
pub number_there : {K : Type 0} (plain : K → K) (same : K → K → Bool) → ((x y : K) → Decides (same x y) (plain x ≡ plain y)) → (xs : List K) → Each (λ x. plain x ≡ x) xs → (k : K) → Contains xs (plain k) → plain (plain k) ≡ plain k
    → slice_get xs (number_of same xs k) ≡ Some (plain k)
number_there {K} plain same decides [] all k h twice = absurd (contains_none (plain k) h)
number_there {K} plain same decides (x ∷ xs) all k h twice = by_test (same x k) refl (λ later. number_there plain same decides xs all.1 k later twice)
  where
    by_test : (b : Bool) → same x k ≡ b → (Contains xs (plain k) → slice_get xs (number_of same xs k) ≡ Some (plain k)) → slice_get (x ∷ xs) (if b then 0 else number_of same xs k + 1) ≡ Some (plain k)
    by_test true e rest = ap Some (sym all.0 ∙ (decides x k).0 e)
    by_test false e rest =
        elim (contains_cases x xs (plain k) h) [
          | inl here ↦ absurd (true≢false (sym ((decides x k).1 (ap plain here ∙ twice)) ∙ e))
          | inr later ↦ ap (slice_get (x ∷ xs)) (let s : number_of same xs k + 1 ≡ suc (number_of same xs k) = omega arith in s) ∙ rest later
        ]

-- what is there has a place
pub place_in : {A : Type 0} (xs : List A) (x : A) → Contains xs x → (i : ℕ) × (slice_get xs i ≡ Some x)
place_in xs x h = (h.0, slice_get-get_or xs h.0 x h.1 ∙ ap Some h.2)

pub there_at : {A : Type 0} (xs : List A) (i : ℕ) (x : A) → slice_get xs i ≡ Some x → Contains xs x
there_at xs i x h = (i, slice_get_within xs i x h, get_or_from_slice_get xs i x x h)

-- ---- keys that are apart

pub apart_none : {A : Type 0} → AreApart {K = A} []
apart_none = record { apart = λ i j k h g. absurd (cc) }

pub apart_cons : {A : Type 0} (x : A) (xs : List A) → (Contains xs x → ⊥) → AreApart xs → AreApart (x ∷ xs)
apart_cons {A} x xs new h = record { apart = at }
  where
    at : (i j : ℕ) (k : A) → slice_get (x ∷ xs) i ≡ Some k → slice_get (x ∷ xs) j ≡ Some k → i ≡ j
    at zero zero k a b = refl
    at zero (suc j) k a b = absurd (new (there_at xs j x (b ∙ sym a)))
    at (suc i) zero k a b = absurd (new (there_at xs i x (a ∙ sym b)))
    at (suc i) (suc j) k a b = ap suc (h.apart i j k a b)

pub contains_append : {A : Type 0} (xs ys : List A) (z : A) → Contains (xs ++ ys) z → Contains xs z ⊎ Contains ys z
contains_append [] ys z h = inr h
contains_append (x ∷ xs) ys z h =
    elim (contains_cases x (xs ++ ys) z h) [
      | inl e ↦ inl (subst (Contains (x ∷ xs)) e (contains_first x xs))
      | inr l ↦ elim (contains_append xs ys z l) [ inl a ↦ inl (contains_later x xs z a) | inr b ↦ inr b ]
    ]

pub apart_append : {A : Type 0} (xs ys : List A) → AreApart xs → AreApart ys → ((z : A) → Contains xs z → Contains ys z → ⊥) → AreApart (xs ++ ys)
apart_append [] ys h g never = g
apart_append (x ∷ xs) ys h g never =
    apart_cons x (xs ++ ys)
    (λ there. elim (contains_append xs ys x there) [
      | inl a ↦ (let p = place_in xs x a in let f : 0 ≡ suc p.0 = h.apart 0 (suc p.0) x refl p.1 in absurd (omega arith))
      | inr b ↦ never x (contains_first x xs) b
    ])
    (apart_append xs ys (record { apart = λ i j k a b. (let e = h.apart (suc i) (suc j) k a b in let f : suc i ≡ suc j = e in omega arith) }) g (λ z a b. never z (contains_later x xs z a) b))
