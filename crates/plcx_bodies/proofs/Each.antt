-- What holds of each item of a list that a loop goes over.
use Rattle.std.proofs.Common.{◌≡◌, ℕ, zero, suc, ◌+◌, ◌<◌, ◌≤◌, List, [], ◌∷◌, take, get_or, length, Some, refl, sym, subst, arith}
use Rattle.std.specs.Prelude.{slice_get}
use Rattle.std.proofs.lemmas.List.{take_more, take_all}
use Rattle.plcx_types.specs.Lists.{Each}
use Rattle.plcx_meaning.proofs.Lists.{each_append, each_weaker}

-- one item more, of which as much holds as of those before
pub each_more : {A : Type 0} (P Q : A → Type 0) (xs : List A) (i : ℕ) (d : A) → i < length xs → ((x : A) → P x → Q x) → Each P (take i xs) → Q (get_or xs i d) → Each Q (take (i + 1) xs)
each_more P Q xs i d low weaker before here =
    subst (Each Q) (sym (take_more xs i d low)) (each_append Q (take i xs) (get_or xs i d ∷ []) (each_weaker P Q (take i xs) weaker before) (here, tt))

-- all of them
pub each_taken : {A : Type 0} (P : A → Type 0) (xs : List A) (i : ℕ) → length xs ≤ i → Each P (take i xs) → Each P xs
each_taken P xs i high all = subst (Each P) (take_all i xs high) all

-- something stands at each place of a list
pub there_within : {A : Type 0} (xs : List A) (i : ℕ) → i < length xs → (x : A) × (slice_get xs i ≡ Some x)
there_within [] i low = absurd (omega arith)
there_within (x ∷ xs) zero low = (x, refl)
there_within (x ∷ xs) (suc i) low = let less : i < length xs = omega arith in there_within xs i less
