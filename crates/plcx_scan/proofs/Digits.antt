-- Facts on decimal digits and the numbers that they make.
use Rattle.std.proofs.Common.{◌≡◌, ◌≤◌, ◌<◌, ◌+◌, ◌-◌, ◌*◌, ◌^◌, ◌∙◌, ℕ, true, List, ◌∷◌, drop, length, slice_index_or, arith, sym}
use Rattle.std.proofs.Math.Nat.{pow-le-pow_right}
use Rattle.std.proofs.lemmas.Grind.{pow_more}
use Rattle.std.proofs.lemmas.List.{at_drop_more}
use Rattle.std.specs.List.{list_all}
use Rattle.plcx_types.specs.Numeral.{is_digit, digit_value}

pub record IsDecimal (b : ℕ) : Type 0 where
  pub least : 48 ≤ b
  pub greatest : b ≤ 57
  pub value : digit_value b ≡ b - 48

pub decimal : (b : ℕ) → is_digit 10 b ≡ true → IsDecimal b
decimal b digit = grind arith

-- one digit more
pub record IsStep (n i d : ℕ) : Type 0 where
  pub below : n * 10 + d < 10 ^ (i + 1)
  pub fits : n * 10 + d < 2 ^ 64

pub step : (n i d : ℕ) → n < 10 ^ i → i < 19 → d < 10 → IsStep n i d
step n i d small few digit =
    let next : 10 ^ (i + 1) ≡ 10 ^ i * 10 = pow_more 10 i in
    let most : 10 ^ (i + 1) ≤ 10 ^ 19 = pow-le-pow_right (omega arith) {i = i + 1} {j = 19} (omega arith) in
    record { below = omega arith; fits = omega arith }

first_is : (b : ℕ) (bs : List ℕ) → list_all (is_digit 10) (b ∷ bs) ≡ true → is_digit 10 b ≡ true
first_is b bs all = grind arith

pub next_digit : (text : List ℕ) (i : ℕ) → i < length text → list_all (is_digit 10) (drop i text) ≡ true → is_digit 10 (slice_index_or text i 0) ≡ true
next_digit text i inside all = first_is (slice_index_or text i 0) (drop (i + 1) text) (sym (at_drop_more (list_all (is_digit 10)) text i 0 inside) ∙ all)

pub next_step : (text : List ℕ) (n i : ℕ) → n < 10 ^ i → length text ≤ 19 → i < length text → list_all (is_digit 10) (drop i text) ≡ true
    → IsStep n i (slice_index_or text i 0 - 48)
next_step text n i small few inside all =
    let most : slice_index_or text i 0 ≤ 57 = (decimal _ (next_digit text i inside all)).greatest in
    step n i _ small (omega arith) (omega arith)
