-- The reader of intervals reads just these.
use Rattle.std.proofs.Common.{◌≡◌, ◌≤◌, ◌<◌, ◌+◌, ◌-◌, ◌*◌, ◌^◌, ◌/◌, ◌%◌, nat_eq, nat_lt, nat_le, ℕ, zero, suc, Bool, true, false, ◌&&◌, List, [], ◌∷◌, ◌++◌, length, take, drop, Option, Some, None, option_map, refl, ap, arith, sym, ◌∙◌, subst}
use Rattle.std.specs.Prelude.{codes}
use Rattle.std.specs.List.{list_all, prefix_len}
use Rattle.std.specs.Option.{option_and_then}
use Rattle.std.specs.Str.{bytes_eq}
use Rattle.std.proofs.lemmas.List.{take-append-drop}
use Rattle.std.proofs.Math.Nat.{mul-mod_left, mul-div_left, one-le-pow, mul-le-mul_right, le_of_mul-le-mul_right, pow-le-pow_right}
use Rattle.std.proofs.lemmas.Nat.{div-add-mod'}
use native.Mathlib.Numerals.{unary_clauses}
use Rattle.std.proofs.Math.Seq.{take-append_seam, drop-append_seam}
use Rattle.std.proofs.lemmas.Bool.{and_parts, and_from, le-leb, leb-true}
use Rattle.std.proofs.lemmas.Bool.Decides.{nat_tests}
use Rattle.std.proofs.lemmas.Slice.Eq.{bytes_eq-Decides}
use Rattle.plcx_table.specs.Number.{is_digit, digits_value, digits_behind, number_of, begins_with, whole_of, behind_whole}
use Rattle.plcx_plan.specs.Intervals.{AreDigits, AreSeconds, whole, point}
use Rattle.plcx_plan.specs.Reading.{exact, whole_seconds, pointed_seconds, seconds_with, seconds_behind, seconds_of}

-- the numbers of fewer than 64 bits are read
number_by : (all fits : Bool) (digits : List ℕ) → list_all is_digit digits ≡ all → nat_lt (digits_value digits) (2 ^ 64) ≡ fits → nat_lt 0 (length digits) ≡ true → all ≡ true → fits ≡ true → number_of digits ≡ Some (digits_value digits)
unfolding number_of
number_by true true digits all fits some h k = rw (some, all, fits) refl
number_by true false digits all fits some h k = cc
number_by false fit digits all fits some h k = cc

pub number_reads : (digits : List ℕ) → AreDigits digits → digits_value digits < 2 ^ 64 → number_of digits ≡ Some (digits_value digits)
number_reads digits are small = number_by (list_all is_digit digits) (nat_lt (digits_value digits) (2 ^ 64)) digits refl refl (let some = are.some in grind (arith, nat_tests)) are.all (grind (arith, nat_tests))

-- what is read as a number
pub record IsNumber (digits : List ℕ) (n : ℕ) : Type 0 where
  pub are : AreDigits digits
  pub is : n ≡ digits_value digits
  pub small : n < 2 ^ 64

number_is_by : (some all fits : Bool) (digits : List ℕ) (n : ℕ) → nat_lt 0 (length digits) ≡ some → list_all is_digit digits ≡ all → nat_lt (digits_value digits) (2 ^ 64) ≡ fits → number_of digits ≡ Some n → IsNumber digits n
unfolding number_of
number_is_by true true true digits n some all fits h =
    let found : Some (digits_value digits) ≡ Some n = rw (some, all, fits) at h in
    let is : n ≡ digits_value digits = cc in
    record { are = record { some = grind (arith, nat_tests); all = all }; is = is; small = rw is (grind (arith, nat_tests)) }
number_is_by true true false digits n some all fits h = absurd (let found = rw (some, all, fits) at h in cc)
number_is_by true false fit digits n some all fits h = absurd (let found = rw (some, all) at h in cc)
number_is_by false al fit digits n some all fits h = absurd (let found = rw some at h in cc)

pub number_is : (digits : List ℕ) (n : ℕ) → number_of digits ≡ Some n → IsNumber digits n
number_is digits n h = number_is_by _ _ _ digits n refl refl refl h

-- a text whose first byte is no digit, or that has none
abbrev stops : List ℕ → Type 0
stops [] = Unit {0}
stops (b ∷ bs) = is_digit b ≡ false

prefix_stop : (rest : List ℕ) → stops rest → prefix_len is_digit rest ≡ 0
prefix_stop [] h = refl
prefix_stop (b ∷ bs) h = rw h refl

prefix_all : (digits rest : List ℕ) → list_all is_digit digits ≡ true → stops rest → prefix_len is_digit (digits ++ rest) ≡ length digits
prefix_all [] rest all stop = prefix_stop rest stop
prefix_all (b ∷ digits) rest all stop =
    let parts = and_parts (is_digit b) (list_all is_digit digits) all in
    let more = prefix_all digits rest parts.1 stop in
    rw (parts.0) (omega (arith, more))

pub whole_seam : (digits rest : List ℕ) → list_all is_digit digits ≡ true → stops rest → whole_of (digits ++ rest) ≡ digits
whole_seam digits rest all stop = rw (prefix_all digits rest all stop) (take-append_seam digits rest)

pub behind_seam : (digits rest : List ℕ) → list_all is_digit digits ≡ true → stops rest → behind_whole (digits ++ rest) ≡ rest
behind_seam digits rest all stop = rw (prefix_all digits rest all stop) (drop-append_seam digits rest)

pub whole_reads : (digits : List ℕ) → AreDigits digits → digits_value digits * 1000 ≤ 2 ^ 62 → seconds_of (codes "PT" ++ (digits ++ codes "S")) ≡ Some (digits_value digits * 1000)
unfolding seconds_of seconds_behind seconds_with whole_seconds
whole_reads digits are small =
    rw (whole_seam digits (codes "S") are.all refl, behind_seam digits (codes "S") are.all refl)
    (rw (number_reads digits are (omega (arith, small))) refl)

exact_is : (scaled scale ms : ℕ) → 0 < scale → ms * scale ≡ scaled → exact scaled scale ≡ Some ms
unfolding exact
exact_is scaled scale ms some is =
    let rest : scaled % scale ≡ 0 = rw (sym is) (mul-mod_left ms scale) in
    let quotient : scaled / scale ≡ ms = rw (sym is) (mul-div_left ms some) in
    rw rest (rw quotient refl)

pub power_some : (n : ℕ) → 0 < 10 ^ n
power_some n = let one = one-le-pow n 10 (omega arith) in omega (arith, one)

-- digits behind a number stay below the next number with as many digits
bound_step : (n b l : ℕ) → b ≤ 57 → (n * 10 + (b - 48) + 1) * 10 ^ l ≤ (n + 1) * 10 ^ suc l
bound_step n b l small =
    let next : 10 ^ suc l ≡ 10 ^ l * 10 = simp unary_clauses refl in
    let fits : n * 10 + (b - 48) + 1 ≤ (n + 1) * 10 = omega arith in
    let scaled : (n * 10 + (b - 48) + 1) * 10 ^ l ≤ ((n + 1) * 10) * 10 ^ l = mul-le-mul_right (10 ^ l) fits in
    rw next (let same : (n + 1) * (10 ^ l * 10) ≡ ((n + 1) * 10) * 10 ^ l = grind arith in omega (arith, same, scaled))

digit_most : (b : ℕ) → is_digit b ≡ true → b ≤ 57
digit_most b h = leb-true b 57 (and_parts (nat_le 48 b) (nat_le b 57) h).1

digits_bound : (n l : ℕ) (digits : List ℕ) → length digits ≡ l → list_all is_digit digits ≡ true → digits_behind n digits < (n + 1) * 10 ^ l
unfolding digits_behind
digits_bound n l [] long all = rw (sym long) (omega arith)
digits_bound n zero (b ∷ digits) long all = absurd (omega arith)
digits_bound n (suc l) (b ∷ digits) long all =
    let parts = and_parts (is_digit b) (list_all is_digit digits) all in
    let inner = digits_bound (n * 10 + (b - 48)) l digits (omega arith) parts.1 in
    let step = bound_step n b l (digit_most b parts.0) in
    omega (arith, inner, step)

begins_dot : (ys : List ℕ) → begins_with 46 (46 ∷ ys) ≡ true
begins_dot ys = and_from (nat_lt 0 (length (46 ∷ ys))) true (grind (arith, nat_tests)) refl

-- a number of seconds that is too large makes more milliseconds than there may be
whole_small : (d m scale ms : ℕ) → 0 < scale → ms * scale ≡ (d * scale + m) * 1000 → d * 1000 ≤ ms
whole_small d m scale ms some is = le_of_mul-le-mul_right (let same : (d * 1000) * scale + m * 1000 ≡ (d * scale + m) * 1000 = grind arith in omega (arith, same, is)) some

pub point_reads : (digits decimals : List ℕ) (ms : ℕ) → AreDigits digits → AreDigits decimals → length decimals ≤ 9
    → ms * 10 ^ length decimals ≡ (digits_value digits * 10 ^ length decimals + digits_value decimals) * 1000 → ms ≤ 2 ^ 62
    → seconds_of (codes "PT" ++ (digits ++ (codes "." ++ (decimals ++ codes "S")))) ≡ Some ms
unfolding seconds_of seconds_behind seconds_with pointed_seconds
point_reads digits decimals ms are behind few is small =
    let some = power_some (length decimals) in
    let less = whole_small (digits_value digits) (digits_value decimals) (10 ^ length decimals) ms some is in
    let part : digits_value decimals < 2 ^ 64 =
    let below = digits_bound 0 (length decimals) decimals refl behind.all in
    let most = pow-le-pow_right {n = 10} (omega arith) {i = length decimals} {j = 9} few in
    omega (arith, below, most) in
    rw (whole_seam digits (codes "." ++ (decimals ++ codes "S")) are.all refl, behind_seam digits (codes "." ++ (decimals ++ codes "S")) are.all refl)
    (rw (begins_dot (decimals ++ codes "S"), whole_seam decimals (codes "S") behind.all refl, behind_seam decimals (codes "S") behind.all refl)
    (rw (le-leb (length decimals) 9 few, number_reads digits are (omega (arith, less, small)), number_reads decimals behind part)
    (exact_is ((digits_value digits * 10 ^ length decimals + digits_value decimals) * 1000) (10 ^ length decimals) ms some is)))

-- each number of seconds within the limit is read
pub seconds_read : (text : List ℕ) (ms : ℕ) → AreSeconds text ms → ms ≤ 2 ^ 62 → seconds_of text ≡ Some ms
seconds_read text ms (whole {digits = digits} are) small = whole_reads digits are small
seconds_read text ms (point {digits = digits} {decimals = decimals} are behind few is) small = point_reads digits decimals ms are behind few is small

-- what is read is a number of seconds
exact_gives : (scaled scale ms : ℕ) (b : Bool) → 0 < scale → nat_eq (scaled % scale) 0 ≡ b → exact scaled scale ≡ Some ms → ms * scale ≡ scaled
unfolding exact
exact_gives scaled scale ms true some is h =
    let none : scaled % scale ≡ 0 = grind (arith, nat_tests) in
    let found : scaled / scale ≡ ms = let f = rw is at h in cc in
    let split : ms * scale + scaled % scale ≡ scaled = rw (sym found) (div-add-mod' scaled scale) in
    omega (arith, split, none)
exact_gives scaled scale ms false some is h = absurd (let f = rw is at h in cc)

whole_by : (digits : List ℕ) (found : Option ℕ) (ms : ℕ) → number_of digits ≡ found → option_map (λ (n : ℕ). n * 1000) found ≡ Some ms → AreSeconds (codes "PT" ++ (digits ++ codes "S")) ms
whole_by digits None ms is h = absurd (cc)
whole_by digits (Some n) ms is h =
    let number = number_is digits n is in
    let same : digits_value digits * 1000 ≡ ms = rw (sym number.is) (let f = h in cc) in
    subst (λ m. AreSeconds (codes "PT" ++ (digits ++ codes "S")) m) same (whole number.are)

pub whole_gives : (digits : List ℕ) (ms : ℕ) → whole_seconds digits ≡ Some ms → AreSeconds (codes "PT" ++ (digits ++ codes "S")) ms
unfolding whole_seconds
whole_gives digits ms h = whole_by digits (number_of digits) ms refl h

point_by : (digits decimals : List ℕ) (n m : Option ℕ) (ms : ℕ) → length decimals ≤ 9 → number_of digits ≡ n → number_of decimals ≡ m
    → option_and_then (λ a. option_and_then (λ b. exact ((a * 10 ^ length decimals + b) * 1000) (10 ^ length decimals)) m) n ≡ Some ms
    → AreSeconds (codes "PT" ++ (digits ++ (codes "." ++ (decimals ++ codes "S")))) ms
point_by digits decimals None m ms few is part h = absurd (cc)
point_by digits decimals (Some a) None ms few is part h = absurd (cc)
point_by digits decimals (Some a) (Some b) ms few is part h =
    let one = number_is digits a is in
    let two = number_is decimals b part in
    let made = exact_gives ((a * 10 ^ length decimals + b) * 1000) (10 ^ length decimals) ms _ (power_some (length decimals)) refl h in
    point one.are two.are few (rw (sym one.is, sym two.is) made)

point_if : (b : Bool) (digits decimals : List ℕ) (ms : ℕ) → nat_le (length decimals) 9 ≡ b → pointed_seconds digits decimals ≡ Some ms → AreSeconds (codes "PT" ++ (digits ++ (codes "." ++ (decimals ++ codes "S")))) ms
unfolding pointed_seconds
point_if true digits decimals ms few h = point_by digits decimals (number_of digits) (number_of decimals) ms (leb-true (length decimals) 9 few) refl refl (rw few at h)
point_if false digits decimals ms few h = absurd (let f = rw few at h in cc)

same : (a b : List ℕ) → bytes_eq a b ≡ true → a ≡ b
same a b h = (bytes_eq-Decides a b).0 h

-- a text that begins with a point
dot_front : (ys : List ℕ) → begins_with 46 ys ≡ true → ys ≡ 46 ∷ drop 1 ys
dot_front [] h = cc
dot_front (y ∷ ys) h = let parts = and_parts (nat_lt 0 (length (y ∷ ys))) (nat_eq y 46) h in let is : y ≡ 46 = grind (arith, nat_tests, parts) in rw is refl

-- the two parts of a text
parted : (text : List ℕ) → text ≡ whole_of text ++ behind_whole text
parted text = sym (take-append-drop (prefix_len is_digit text) text)

with_by : (s d : Bool) (digits rest : List ℕ) (ms : ℕ) → bytes_eq rest (codes "S") ≡ s → (begins_with 46 rest && bytes_eq (behind_whole (drop 1 rest)) (codes "S")) ≡ d → seconds_with digits rest ≡ Some ms → AreSeconds (codes "PT" ++ (digits ++ rest)) ms
unfolding seconds_with
with_by true d digits rest ms is dot h = subst (λ r. AreSeconds (codes "PT" ++ (digits ++ r)) ms) (sym (same rest (codes "S") is)) (whole_gives digits ms (rw is at h))
with_by false true digits rest ms is dot h =
    let parts = and_parts (begins_with 46 rest) (bytes_eq (behind_whole (drop 1 rest)) (codes "S")) dot in
    let behind = drop 1 rest in
    let tail : behind ≡ whole_of behind ++ codes "S" = parted behind ∙ ap (λ t. whole_of behind ++ t) (same (behind_whole behind) (codes "S") parts.1) in
    let all : rest ≡ codes "." ++ (whole_of behind ++ codes "S") = dot_front rest parts.0 ∙ ap (λ t. 46 ∷ t) tail in
    subst (λ r. AreSeconds (codes "PT" ++ (digits ++ r)) ms) (sym all) (point_if _ digits (whole_of behind) ms refl (rw (is, dot) at h))
with_by false false digits rest ms is dot h = absurd (let f = rw (is, dot) at h in cc)

seconds_by : (b : Bool) (text : List ℕ) (ms : ℕ) → bytes_eq (take 2 text) (codes "PT") ≡ b → seconds_of text ≡ Some ms → AreSeconds text ms
unfolding seconds_of seconds_behind
seconds_by true text ms is h =
    let t = drop 2 text in
    let front : text ≡ codes "PT" ++ t = sym (take-append-drop 2 text) ∙ ap (λ f. f ++ t) (same (take 2 text) (codes "PT") is) in
    let all : text ≡ codes "PT" ++ (whole_of t ++ behind_whole t) = front ∙ ap (λ r. codes "PT" ++ r) (parted t) in
    subst (λ r. AreSeconds r ms) (sym all) (with_by _ _ (whole_of t) (behind_whole t) ms refl refl (rw is at h))
seconds_by false text ms is h = absurd (let f = rw is at h in cc)

pub seconds_are : (text : List ℕ) (ms : ℕ) → seconds_of text ≡ Some ms → AreSeconds text ms
seconds_are text ms h = seconds_by _ text ms refl h
