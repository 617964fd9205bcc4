-- Letters in any case, and runs of bytes.
use Rattle.std.proofs.Common.{◌≡◌, ◌<◌, ◌≤◌, ℕ, zero, suc, Bool, true, false, inl, inr, List, [], ◌∷◌, length, take, drop, get_or, refl, arith}
use Rattle.std.specs.Char.{to_ascii_lowercase}
use Rattle.std.specs.List.{list_all}
use Rattle.std.proofs.lemmas.Bool.{cases_Bool, and_parts}
use Rattle.plcx_types.specs.Name.{is_first_byte, is_next_byte, in_lower_case}
use Rattle.plcx_types.specs.Reading.{front, back}

pub fold_next : (b : ℕ) → is_next_byte (to_ascii_lowercase b) ≡ is_next_byte b
fold_next b = grind arith

pub fold_first : (b : ℕ) → is_first_byte (to_ascii_lowercase b) ≡ is_first_byte b
fold_first b = grind arith

-- a test that does not look at the case of letters
abbrev pub IsFair : (ℕ → Bool) → Type 0
IsFair p = (b : ℕ) → p (to_ascii_lowercase b) ≡ p b

pub fold_all : (p : ℕ → Bool) (xs : List ℕ) → IsFair p → list_all p (in_lower_case xs) ≡ list_all p xs
fold_all p [] fair = refl
fold_all p (x ∷ xs) fair = rw (fair x, fold_all p xs fair)

pub fold_front : (p : ℕ → Bool) (xs : List ℕ) → IsFair p → front p (in_lower_case xs) ≡ in_lower_case (front p xs)
fold_front p [] fair = refl
fold_front p (x ∷ xs) fair = elim (cases_Bool (p x)) [
  | inl passes ↦ rw (fair x, passes, fold_front p xs fair)
  | inr fails ↦ rw (fair x, fails)
]

pub fold_back : (p : ℕ → Bool) (xs : List ℕ) → IsFair p → back p (in_lower_case xs) ≡ in_lower_case (back p xs)
fold_back p [] fair = refl
fold_back p (x ∷ xs) fair = elim (cases_Bool (p x)) [
  | inl passes ↦ rw (fair x, passes, fold_back p xs fair)
  | inr fails ↦ rw (fair x, fails)
]

-- what a run splits
pub record IsSplit (p : ℕ → Bool) (xs : List ℕ) (n : ℕ) : Type 0 where
  pub fronts : front p xs ≡ take n xs
  pub backs : back p xs ≡ drop n xs

pub run_splits : (p : ℕ → Bool) (xs : List ℕ) (n : ℕ) → n ≤ length xs → list_all p (take n xs) ≡ true → (n < length xs → p (get_or xs n 0) ≡ false) → IsSplit p xs n
run_splits p [] zero within all ends = record { fronts = refl; backs = refl }
run_splits p [] (suc n) within all ends = absurd (omega arith)
run_splits p (x ∷ xs) zero within all ends = let stop : p x ≡ false = ends (omega arith) in record { fronts = rw stop; backs = rw stop }
run_splits p (x ∷ xs) (suc n) within all ends =
    let parts = and_parts (p x) (list_all p (take n xs)) all in
    let again = run_splits p xs n (omega arith) parts.1 (λ lt. ends (omega arith)) in
    record { fronts = rw (parts.0, again.fronts); backs = rw (parts.0, again.backs) }
