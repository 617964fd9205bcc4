-- Numerals, in lower case.
use Rattle.std.specs.Prelude.{◌≡◌, ◌≤◌, ◌+◌, ◌-◌, ◌*◌, ◌^◌, ◌++◌, ℕ, ℤ, pos, neg_ℤ, Bool, true, false, ◌||◌, ◌&&◌, nat_eq, nat_le, nat_lt, List, [], ◌∷◌, codes, if◌then◌else◌}
use Rattle.plcx_types.specs.Name.{is_between}

-- a decimal digit stands for its value, a letter from a on for 10 and more
abbrev pub digit_value : ℕ → ℕ
digit_value b = if nat_le 97 b then b - 87 else b - 48

-- 0 to 9 and a to f, as far as they are below the base
abbrev pub is_digit : ℕ → ℕ → Bool
is_digit base b = (is_between 48 57 b || is_between 97 102 b) && nat_lt (digit_value b) base

-- digits with single `_` between them; the flag says whether a digit stands before
abbrev pub are_digits : ℕ → Bool → List ℕ → Bool
are_digits base seen [] = seen
are_digits base seen (b ∷ bs) = if is_digit base b then are_digits base true bs else (seen && nat_eq b 95 && are_digits base false bs)

-- what the digits stand for behind others that stand for n; `_` stands for nothing
abbrev pub number_from : ℕ → ℕ → List ℕ → ℕ
number_from base n [] = n
number_from base n (b ∷ bs) = if is_digit base b then number_from base (n * base + digit_value b) bs else number_from base n bs

-- the greatest number that a numeral stands for
abbrev pub greatest : ℕ
greatest = 2 ^ 127 - 1

-- a numeral of the base, and its number
pub record IsNumeral (base : ℕ) (text : List ℕ) (n : ℕ) : Type 0 where
  pub digits : are_digits base false text ≡ true
  pub number : n ≡ number_from base 0 text
  pub bounded : n ≤ greatest

-- a whole number: a decimal numeral with or without a sign, or a based one
pub data IsWholeNumber : List ℕ → ℤ → Type 0 where
  plain : {text : List ℕ} {n : ℕ} → IsNumeral 10 text n → IsWholeNumber text (pos n)
  plus : {text : List ℕ} {n : ℕ} → IsNumeral 10 text n → IsWholeNumber (codes "+" ++ text) (pos n)
  minus : {text : List ℕ} {n : ℕ} → IsNumeral 10 text n → IsWholeNumber (codes "-" ++ text) (neg_ℤ (pos n))
  binary : {text : List ℕ} {n : ℕ} → IsNumeral 2 text n → IsWholeNumber (codes "2#" ++ text) (pos n)
  octal : {text : List ℕ} {n : ℕ} → IsNumeral 8 text n → IsWholeNumber (codes "8#" ++ text) (pos n)
  hexadecimal : {text : List ℕ} {n : ℕ} → IsNumeral 16 text n → IsWholeNumber (codes "16#" ++ text) (pos n)
