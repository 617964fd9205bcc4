-- How great the number of so many digits is.
use Rattle.std.proofs.Common.{◌≡◌, ◌≤◌, ◌<◌, ◌+◌, ◌*◌, ◌^◌, ℕ, true, inl, inr, List, [], ◌∷◌, length, ap, arith, sym, ◌∙◌}
use Rattle.std.proofs.Math.Nat.{mul-le-mul_right, mul_assoc, pow-succ', pow-le-pow_right}
use Rattle.std.proofs.lemmas.Bool.{cases_Bool, and_parts, ltb-true}
use Rattle.plcx_types.specs.Numeral.{is_digit, digit_value, number_from}

digit_below : (b : ℕ) → is_digit 10 b ≡ true → digit_value b < 10
digit_below b h = ltb-true _ _ (and_parts _ _ h).1

pub number_below : (n : ℕ) (text : List ℕ) → number_from 10 n text < (n + 1) * 10 ^ length text
number_below n [] = omega arith
number_below n (b ∷ bs) = elim (cases_Bool (is_digit 10 b)) [
  | inl digit ↦
      let again = number_below (n * 10 + digit_value b) bs in
      let more : (n * 10 + digit_value b + 1) * 10 ^ length bs ≤ ((n + 1) * 10) * 10 ^ length bs = mul-le-mul_right (10 ^ length bs) (omega (arith, digit_below b digit)) in
      let whole : ((n + 1) * 10) * 10 ^ length bs ≡ (n + 1) * 10 ^ length (b ∷ bs) = mul_assoc (n + 1) 10 (10 ^ length bs) ∙ ap (λ p. (n + 1) * p) (sym (pow-succ' 10 (length bs))) in
      rw digit (omega (arith, again, more, whole))
  | inr other ↦
      let again = number_below n bs in
      let more : (n + 1) * 10 ^ length bs ≤ ((n + 1) * 10) * 10 ^ length bs = mul-le-mul_right (10 ^ length bs) (omega arith) in
      let whole : ((n + 1) * 10) * 10 ^ length bs ≡ (n + 1) * 10 ^ length (b ∷ bs) = mul_assoc (n + 1) 10 (10 ^ length bs) ∙ ap (λ p. (n + 1) * p) (sym (pow-succ' 10 (length bs))) in
      rw other (omega (arith, again, more, whole))
]

pub number_small : (most : ℕ) (text : List ℕ) → length text ≤ most → number_from 10 0 text < 10 ^ most
number_small most text short =
    let below = number_below 0 text in
    let more : 10 ^ length text ≤ 10 ^ most = pow-le-pow_right (omega arith) short in
    omega (arith, below, more)
