-- Lists of elements, by their places.
use Rattle.std.proofs.Common.{◌≡◌, ℕ, zero, suc, ◌+◌, ◌<◌, inl, inr, List, [], ◌∷◌, ◌++◌, length, slice_index, take, refl, sym, subst, arith}
use Rattle.std.proofs.lemmas.Grind.{take_at_read}
use Rattle.plcx_types.specs.Lists.{Each}
use Rattle.plcx_model.specs.Networks.{Listed, IsRising}

pub nth_listed : (xs : List ℕ) (k : ℕ) → k < length xs → Listed xs (slice_index xs k)
nth_listed [] k h = absurd (omega (arith, h))
nth_listed (x ∷ xs) zero h = inl refl
nth_listed (x ∷ xs) (suc k) h = inr (nth_listed xs k (omega (arith, h)))

pub each_listed : (P : ℕ → Type 0) (xs : List ℕ) (v : ℕ) → Each P xs → Listed xs v → P v
each_listed P [] v e h = absurd h
each_listed P (x ∷ xs) v e (inl is) = subst P (sym is) e.0
each_listed P (x ∷ xs) v e (inr later) = each_listed P xs v e.1 later

-- no element of a rising list stands before its place
pub not_earlier : (xs : List ℕ) (k : ℕ) → IsRising xs → k < length xs → Listed (take k xs) (slice_index xs k) → ⊥
not_earlier [] k r h there = omega (arith, h)
not_earlier (x ∷ xs) zero r h there = there
not_earlier (x ∷ xs) (suc k) r h (inl is) = let less : x < slice_index xs k = each_listed (λ y. x < y) xs (slice_index xs k) r.0 (nth_listed xs k (omega (arith, h))) in omega (arith, is)
not_earlier (x ∷ xs) (suc k) r h (inr there) = not_earlier xs k r.1 (omega (arith, h)) there

pub one_further : (xs : List ℕ) (k : ℕ) → k < length xs → take (k + 1) xs ≡ take k xs ++ slice_index xs k ∷ []
one_further xs k h = (take_at_read xs k 0 h).1

pub all_taken : (xs : List ℕ) (k v : ℕ) → length xs ≡ k → Listed xs v → Listed (take k xs) v
all_taken [] k v e h = absurd h
all_taken (x ∷ xs) zero v e h = absurd (omega (arith, e))
all_taken (x ∷ xs) (suc k) v e (inl is) = inl is
all_taken (x ∷ xs) (suc k) v e (inr later) = inr (all_taken xs k v (omega (arith, e)) later)
