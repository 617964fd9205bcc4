-- Numbers as attributes spell them.
use Rattle.std.specs.Prelude.{ℕ, ◌+◌, ◌-◌, ◌*◌, ◌^◌, ℤ, pos, neg_ℤ, Bool, ◌&&◌, ◌||◌, List, take, drop, length, fold, slice_index, nat_lt, nat_le, nat_eq, Option, Some, None, is_some, option_map, if◌then◌else◌}
use Rattle.std.specs.List.{list_all, prefix_len}

-- a decimal digit
abbrev pub is_digit : ℕ → Bool
is_digit b = nat_le 48 b && nat_le b 57

-- a number with these digits written behind it
unfoldable pub digits_behind : ℕ → List ℕ → ℕ
digits_behind n digits = fold (λ m b. m * 10 + (b - 48)) n digits

-- the number of these digits
abbrev pub digits_value : List ℕ → ℕ
digits_value digits = digits_behind 0 digits

-- one or more digits, and a number of at most 64 bits
unfoldable pub number_of : List ℕ → Option ℕ
number_of text = if nat_lt 0 (length text) && list_all is_digit text && nat_lt (digits_value text) (2 ^ 64) then Some (digits_value text) else None

-- the text begins with this character
abbrev pub begins_with : ℕ → List ℕ → Bool
begins_with b text = nat_lt 0 (length text) && nat_eq (slice_index text 0) b

-- the digits in front of a point
abbrev pub whole_of : List ℕ → List ℕ
whole_of text = take (prefix_len is_digit text) text

-- what stands behind them: a point and digits, or nothing
abbrev pub behind_whole : List ℕ → List ℕ
behind_whole text = drop (prefix_len is_digit text) text

-- the digits behind the point
abbrev pub fraction_of : List ℕ → List ℕ
fraction_of text = drop 1 (behind_whole text)

-- at most 12 digits, a point or none, at most 40 digits, and one digit in all
unfoldable pub is_decimal : List ℕ → Bool
is_decimal text = (nat_eq (length (behind_whole text)) 0 || begins_with 46 (behind_whole text)) && list_all is_digit (fraction_of text)
    && nat_le (length (whole_of text)) 12 && nat_le (length (fraction_of text)) 40 && nat_lt 0 (length (whole_of text) + length (fraction_of text))

-- the first six digits behind the point, in millionths
abbrev pub millionths_of : List ℕ → ℕ
millionths_of fraction = digits_value (take 6 fraction) * 10 ^ (6 - length (take 6 fraction))

-- in millionths; what is less is cut off
unfoldable pub magnitude_of : List ℕ → Option ℕ
magnitude_of text = if is_decimal text then Some (digits_value (whole_of text) * 1000000 + millionths_of (fraction_of text)) else None

-- with a sign or without
unfoldable pub coordinate_of : List ℕ → Option ℤ
coordinate_of text = if begins_with 45 text then option_map (λ n. neg_ℤ (pos n)) (magnitude_of (drop 1 text))
    else (if begins_with 43 text then option_map (λ n. pos n) (magnitude_of (drop 1 text)) else option_map (λ n. pos n) (magnitude_of text))

-- the text is a number
abbrev pub is_number : List ℕ → Bool
is_number text = is_some (number_of text)

-- the text is a coordinate
abbrev pub is_coordinate : List ℕ → Bool
is_coordinate text = is_some (coordinate_of text)
