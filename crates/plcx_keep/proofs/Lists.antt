-- Items of lists by their numbers.
use Rattle.std.proofs.Common.{◌≡◌, ◌<◌, ◌∷◌, ℕ, zero, suc, List, [], Some, set, get_or, length, refl, sym, ap, subst, arith}
use Rattle.std.specs.Prelude.{slice_get}
use Rattle.plcx_types.specs.Lists.{Each}
use Rattle.plcx_state.specs.Retains.{Pairwise}

-- an item that was read by its number
pub read_there : {A : Type 0} (xs : List A) (i : ℕ) (x : A) → i < length xs → x ≡ get_or xs i x → slice_get xs i ≡ Some x
read_there [] i x lt e = absurd (omega arith)
read_there (y ∷ xs) zero x lt e = ap Some (sym e)
read_there (y ∷ xs) (suc i) x lt e = read_there xs i x (omega arith) e

-- what stands in a list after a write
pub get_own : {A : Type 0} (xs : List A) (i : ℕ) (x v : A) → slice_get xs i ≡ Some x → slice_get (set xs i v) i ≡ Some v
get_own [] i x v at = absurd (cc)
get_own (y ∷ xs) zero x v at = refl
get_own (y ∷ xs) (suc i) x v at = get_own xs i x v at

pub get_other : {A : Type 0} (xs : List A) (i j : ℕ) (v : A) → (j ≡ i → ⊥) → slice_get (set xs i v) j ≡ slice_get xs j
get_other [] i j v other = refl
get_other (y ∷ xs) zero zero v other = absurd (other refl)
get_other (y ∷ xs) zero (suc j) v other = refl
get_other (y ∷ xs) (suc i) zero v other = refl
get_other (y ∷ xs) (suc i) (suc j) v other = get_other xs i j v (λ e. other (ap suc e))

-- an item has a number below the length
pub get_lt : {A : Type 0} (xs : List A) (i : ℕ) (x : A) → slice_get xs i ≡ Some x → i < length xs
get_lt [] i x at = absurd (cc)
get_lt (y ∷ xs) zero x at = omega arith
get_lt (y ∷ xs) (suc i) x at = let h = get_lt xs i x at in omega arith

-- what holds of each number's item
pub each_by : {A : Type 0} (P : A → Type 0) (xs : List A) → ((i : ℕ) (x : A) → slice_get xs i ≡ Some x → P x) → Each P xs
each_by P [] f = tt
each_by P (x ∷ xs) f = (f 0 x refl, each_by P xs (λ i. f (suc i)))

-- what stands beside an item
pub beside : {A B : Type 0} (R : A → B → Type 0) (xs : List A) (ys : List B) → Pairwise R xs ys → (i : ℕ) (x : A) → slice_get xs i ≡ Some x → (y : B) × (slice_get ys i ≡ Some y) × R x y
beside R [] ys h i x at = absurd (cc)
beside R (z ∷ xs) [] h i x at = absurd h
beside R (z ∷ xs) (y ∷ ys) h zero x at = let is : z ≡ x = cc in (y, refl, subst (λ w. R w y) is h.0)
beside R (z ∷ xs) (y ∷ ys) h (suc i) x at = beside R xs ys h.1 i x at
