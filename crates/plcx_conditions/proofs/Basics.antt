-- Lists of what is broken that have nothing in them.
use Rattle.std.proofs.Common.{◌≡◌, ℕ, Bool, true, false, List, [], ◌∷◌, ◌++◌, refl}
use Rattle.std.proofs.lemmas.Bool.{or_parts}
use Rattle.std.specs.List.{flat_map, list_any}
use Rattle.plcx_types.specs.Lists.{Each}
use Rattle.plcx_conditions.specs.declared.broken.Condition.{Condition}
use Rattle.plcx_conditions.specs.declared.broken.Broken.{Broken}
use Rattle.plcx_conditions.specs.Broken.{broken_if}

pub false_if_none : (b : Bool) (c : Condition) (at : ℕ) → broken_if b c at ≡ [] → b ≡ false
false_if_none true c at h = absurd (cc)
false_if_none false c at h = refl

pub none_if_false : (b : Bool) (c : Condition) (at : ℕ) → b ≡ false → broken_if b c at ≡ []
none_if_false true c at h = absurd (cc)
none_if_false false c at h = refl

pub parts_none : (xs ys : List Broken) → xs ++ ys ≡ [] → (xs ≡ []) × (ys ≡ [])
parts_none [] ys h = (refl, h)
parts_none (x ∷ xs) ys h = absurd (cc)

pub none_from : (xs ys : List Broken) → xs ≡ [] → ys ≡ [] → xs ++ ys ≡ []
none_from [] ys h k = k
none_from (x ∷ xs) ys h k = absurd (cc)

pub each_none : {A : Type 0} (f : A → List Broken) (xs : List A) → flat_map f xs ≡ [] → Each (λ x. f x ≡ []) xs
each_none f [] h = tt
each_none f (x ∷ xs) h = let parts = parts_none (f x) (flat_map f xs) h in (parts.0, each_none f xs parts.1)

pub none_each : {A : Type 0} (f : A → List Broken) (xs : List A) → Each (λ x. f x ≡ []) xs → flat_map f xs ≡ []
none_each f [] h = refl
none_each f (x ∷ xs) h = none_from (f x) (flat_map f xs) h.0 (none_each f xs h.1)

-- a test that fails at each, and a list with none that passes
pub none_pass : {A : Type 0} (test : A → Bool) (xs : List A) → Each (λ x. test x ≡ false) xs → list_any test xs ≡ false
none_pass test [] h = refl
none_pass test (x ∷ xs) h = rw (h.0) (none_pass test xs h.1)

pub any_each : {A : Type 0} (test : A → Bool) (xs : List A) → list_any test xs ≡ false → Each (λ x. test x ≡ false) xs
any_each test [] h = tt
any_each test (x ∷ xs) h = let halves = or_parts (test x) (list_any test xs) h in (halves.0, any_each test xs halves.1)
