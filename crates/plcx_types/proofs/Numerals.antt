-- What reads numerals reads just these.
use Rattle.std.proofs.Common.{◌≡◌, ◌≤◌, ◌<◌, ◌+◌, ◌*◌, ◌&&◌, nat_eq, nat_le, ℕ, Bool, true, false, inl, inr, List, [], ◌∷◌, Option, Some, None, refl, ap, arith, sym, ◌∙◌}
use Rattle.std.proofs.Math.Nat.{le-mul_of_pos_right}
use Rattle.std.proofs.lemmas.Bool.{cases_Bool, and_parts, leb-true, le-leb}
use Rattle.std.specs.Option.{option_and_then}
use Rattle.plcx_types.specs.Numeral.{is_digit, digit_value, number_from, are_digits, greatest, IsNumeral}
use Rattle.plcx_types.specs.Reading.{with_digit, numeral_from, numeral}

with_digit_fits : (base n digit : ℕ) → n * base + digit ≤ greatest → with_digit base n digit ≡ Some (n * base + digit)
unfolding with_digit
with_digit_fits base n digit fits = rw (le-leb (n * base + digit) greatest fits)

record Grows (base n digit m : ℕ) : Type 0 where
  is : m ≡ n * base + digit
  fits : m ≤ greatest

with_digit_grows : (base n digit m : ℕ) → with_digit base n digit ≡ Some m → Grows base n digit m
unfolding with_digit
with_digit_grows base n digit m h = elim (cases_Bool (nat_le (n * base + digit) greatest)) [
  | inl fits ↦ let same : Some (n * base + digit) ≡ Some m = rw fits at h in let is : m ≡ n * base + digit = cc in record { is = is; fits = omega (arith, leb-true _ _ fits) }
  | inr over ↦ absurd (let none = rw over at h in cc)
]

-- digits never make a number less
number_grows : (base n : ℕ) (text : List ℕ) → 0 < base → n ≤ number_from base n text
number_grows base n [] some = omega arith
number_grows base n (b ∷ bs) some = elim (cases_Bool (is_digit base b)) [
  | inl digit ↦ rw digit (omega (arith, number_grows base (n * base + digit_value b) bs some, le-mul_of_pos_right n some))
  | inr other ↦ rw other (number_grows base n bs some)
]

pub reads_digits : (base n : ℕ) (seen : Bool) (text : List ℕ) → 0 < base → are_digits base seen text ≡ true → number_from base n text ≤ greatest → numeral_from base n seen text ≡ Some (number_from base n text)
unfolding numeral_from
reads_digits base n seen [] some digits bounded = rw digits
reads_digits base n seen (b ∷ bs) some digits bounded = elim (cases_Bool (is_digit base b)) [
  | inl digit ↦
      let bound : number_from base (n * base + digit_value b) bs ≤ greatest = rw digit at bounded in
      let fits = with_digit_fits base n (digit_value b) (omega (arith, bound, number_grows base (n * base + digit_value b) bs some)) in
      let again = reads_digits base (n * base + digit_value b) true bs some (rw digit at digits) bound in
      rw (digit, fits) again
  | inr other ↦
      let split = and_parts (seen && nat_eq b 95) (are_digits base false bs) (rw other at digits) in
      let again = reads_digits base n false bs some split.1 (rw other at bounded) in
      rw (other, split.0) again
]

-- what is read are digits that stand for it
pub record Read (base n : ℕ) (seen : Bool) (text : List ℕ) (m : ℕ) : Type 0 where
  pub digits : are_digits base seen text ≡ true
  pub number : m ≡ number_from base n text
  pub bounded : m ≤ greatest

pub digits_read : (base n : ℕ) (seen : Bool) (text : List ℕ) (m : ℕ) → n ≤ greatest → numeral_from base n seen text ≡ Some m → Read base n seen text m
unfolding numeral_from
digits_read base n true [] m fits found = let same : n ≡ m = cc in record { digits = refl; number = sym same; bounded = omega arith }
digits_read base n false [] m fits found = absurd (cc)
digits_read base n seen (b ∷ bs) m fits found = elim (cases_Bool (is_digit base b)) [
  | inl digit ↦ by_digit (λ k small h. digits_read base k true bs m small h) (with_digit base n (digit_value b)) refl digit (rw digit at found)
  | inr other ↦ elim (cases_Bool (seen && nat_eq b 95)) [
    | inl gap ↦
        let again = digits_read base n false bs m fits (rw (other, gap) at found) in
        record { digits = rw (other, gap) again.digits; number = rw other again.number; bounded = again.bounded }
    | inr none ↦ absurd (let no = rw (other, none) at found in cc)
  ]
]
  where
    by_digit : ((k : ℕ) → k ≤ greatest → numeral_from base k true bs ≡ Some m → Read base k true bs m) → (next : Option ℕ) → with_digit base n (digit_value b) ≡ next → is_digit base b ≡ true → option_and_then (λ k. numeral_from base k true bs) next ≡ Some m → Read base n seen (b ∷ bs) m
    by_digit on None is digit h = absurd (cc)
    by_digit on (Some k) is digit h =
        let grows = with_digit_grows base n (digit_value b) k is in
        let again = on k grows.fits h in
        record { digits = rw digit again.digits; number = rw (digit, sym grows.is) again.number; bounded = again.bounded }

pub numeral_reads : (base : ℕ) (text : List ℕ) (n : ℕ) → 0 < base → IsNumeral base text n → numeral base text ≡ Some n
numeral_reads base text n some is = reads_digits base 0 false text some is.digits (rw (sym is.number) is.bounded) ∙ ap Some (sym is.number)

pub numeral_is : (base : ℕ) (text : List ℕ) (n : ℕ) → numeral base text ≡ Some n → IsNumeral base text n
numeral_is base text n found = let read = digits_read base 0 false text n (omega arith) found in record { digits = read.digits; number = read.number; bounded = read.bounded }
