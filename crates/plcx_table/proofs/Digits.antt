-- Numbers and their digits.
use Rattle.std.proofs.Common.{◌≡◌, ℕ, zero, suc, ◌+◌, ◌-◌, ◌*◌, ◌^◌, ◌<◌, ◌≤◌, List, [], ◌∷◌, Bool, true, false, ◌&&◌, cond, length, take, drop, get_or, leb, nat_lt, Some, None, refl, sym, ◌∙◌, arith}
use Rattle.std.specs.List.{list_all, prefix_len}
use Rattle.std.proofs.lemmas.List.{at_drop_more, at_drop_all}
use Rattle.std.proofs.Math.Nat.{pow-le-pow_right}
use Rattle.std.proofs.lemmas.Bool.Decides.{nat_tests}
use native.Mathlib.Numerals.{unary_clauses}
use borrow.Author.Tests.{leb-true}
use Rattle.plcx_table.specs.Number.{is_digit, digits_behind, digits_value, is_decimal, whole_of, fraction_of}

-- digits behind a number don't make it less
pub digits_behind-ge : (n : ℕ) (digits : List ℕ) → n ≤ digits_behind n digits
unfolding digits_behind
digits_behind-ge n [] = omega arith
digits_behind-ge n (b ∷ digits) = omega (arith, digits_behind-ge (n * 10 + (b - 48)) digits)

pub digits_behind-cons : (n b : ℕ) (digits : List ℕ) → digits_behind n (b ∷ digits) ≡ digits_behind (n * 10 + (b - 48)) digits
unfolding digits_behind
digits_behind-cons n b digits = refl

pub digits_behind-nil : (n : ℕ) → digits_behind n [] ≡ n
unfolding digits_behind
digits_behind-nil n = refl

-- one digit more
pub behind-step : (n i : ℕ) (digits : List ℕ) (w : ℕ) → i < length digits → digits_behind n (drop i digits) ≡ w → digits_behind (n * 10 + (get_or digits i 0 - 48)) (drop (i + 1) digits) ≡ w
behind-step n i digits w h before = sym (digits_behind-cons n (get_or digits i 0) (drop (i + 1) digits)) ∙ sym (at_drop_more (digits_behind n) digits i 0 h) ∙ before

pub behind-end : (n i : ℕ) (digits : List ℕ) (w : ℕ) → length digits ≤ i → digits_behind n (drop i digits) ≡ w → n ≡ w
behind-end n i digits w h before = sym (at_drop_all (digits_behind n) digits i h ∙ digits_behind-nil n) ∙ before

front-of : (b : ℕ) (text : List ℕ) (t : Bool) → is_digit b ≡ t → list_all is_digit (take (prefix_len is_digit text) text) ≡ true → list_all is_digit (take (cond t (1 + prefix_len is_digit text) 0) (b ∷ text)) ≡ true
front-of b text true h inner =
    let one : 1 + prefix_len is_digit text ≡ suc (prefix_len is_digit text) = omega arith in
    rw one (rw h inner)
front-of b text false h inner = refl

-- a front of digits is of digits
pub all_prefix : (text : List ℕ) → list_all is_digit (take (prefix_len is_digit text) text) ≡ true
all_prefix [] = refl
all_prefix (b ∷ text) = front-of b text (is_digit b) refl (all_prefix text)

pub both-true : (a b : Bool) → (a && b) ≡ true → (a ≡ true) × (b ≡ true)
both-true true b h = (refl, h)
both-true false b h = cc

pub all_take : (n : ℕ) (text : List ℕ) → list_all is_digit text ≡ true → list_all is_digit (take n text) ≡ true
all_take zero text h = refl
all_take (suc n) [] h = refl
all_take (suc n) (b ∷ text) h =
    let both = both-true (is_digit b) (list_all is_digit text) h in
    rw both.0 (all_take n text both.1)

-- a digit, and those behind it
pub digit-at : (i : ℕ) (digits : List ℕ) → i < length digits → list_all is_digit (drop i digits) ≡ true → (48 ≤ get_or digits i 0) × (get_or digits i 0 ≤ 57) × (list_all is_digit (drop (i + 1) digits) ≡ true)
digit-at i digits h all =
    let b = get_or digits i 0 in
    let both = both-true (is_digit b) (list_all is_digit (drop (i + 1) digits)) (sym (at_drop_more (list_all is_digit) digits i 0 h) ∙ all) in
    let bounds = both-true (leb 48 b) (leb b 57) both.0 in
    (leb-true 48 b bounds.0, leb-true b 57 bounds.1, both.1)

-- with fewer than twelve digits there is room for one more
pub small-bound : (n i : ℕ) → n < 10 ^ i → i < 12 → n < 10 ^ 11
small-bound n i h few = omega (arith, pow-le-pow_right {n = 10} (omega arith) {i = i} {j = 11} (omega arith))

pub bound-step : (n i b : ℕ) → n < 10 ^ i → b ≤ 57 → n * 10 + (b - 48) < 10 ^ (i + 1)
bound-step n i b h small = let next : 10 ^ (i + 1) ≡ 10 ^ i * 10 = simp unary_clauses refl in omega arith

-- a number of twelve digits is below the least of thirteen
pub whole-bound : (n i : ℕ) → n < 10 ^ i → i ≤ 12 → n < 10 ^ 12
whole-bound n i h few = omega (arith, pow-le-pow_right {n = 10} (omega arith) {i = i} {j = 12} few)

-- so many digits, filled up to six
pub six-bound : (n i : ℕ) → n < 10 ^ i → i ≤ 6 → n * 10 ^ (6 - i) < 1000000
six-bound n zero h few = omega arith
six-bound n (suc zero) h few = omega arith
six-bound n (suc (suc zero)) h few = omega arith
six-bound n (suc (suc (suc zero))) h few = omega arith
six-bound n (suc (suc (suc (suc zero)))) h few = omega arith
six-bound n (suc (suc (suc (suc (suc zero))))) h few = omega arith
six-bound n (suc (suc (suc (suc (suc (suc zero)))))) h few = omega arith
six-bound n (suc (suc (suc (suc (suc (suc (suc i))))))) h few = absurd (omega arith)

-- what is tested of a decimal fraction
pub decimal-parts : (text : List ℕ) → is_decimal text ≡ true → (length (whole_of text) ≤ 12) × (list_all is_digit (fraction_of text) ≡ true)
unfolding is_decimal
decimal-parts text h =
    let a = both-true _ _ h in
    let b = both-true _ _ a.0 in
    let d = both-true _ _ b.0 in
    let e = both-true _ _ d.0 in
    (leb-true _ _ d.1, e.1)

pub next-is : (t : Bool) (n v : ℕ) → Some v ≡ cond t (Some n) None → v ≡ n
next-is true n v h = cc
next-is false n v h = cc

pub next-small : (n v : ℕ) → Some v ≡ cond (nat_lt n 18446744073709551616) (Some n) None → v < 18446744073709551616
next-small n v h = grind (arith, nat_tests)

-- the number fits if all of it is taken
pub fits-all : (n : ℕ) → n < 18446744073709551616 → Some n ≡ cond (nat_lt n 18446744073709551616) (Some n) None
fits-all n h = grind (arith, nat_tests)

too-large : (n m : ℕ) → n ≤ m → None ≡ cond (nat_lt n 18446744073709551616) (Some n) None → None ≡ cond (nat_lt m 18446744073709551616) (Some m) None
too-large n m h none = grind (arith, nat_tests)

-- past 64 bits no digit leads back
pub stays-large : (n i : ℕ) (digits : List ℕ) → i < length digits → digits_behind n (drop i digits) ≡ digits_value digits → None ≡ cond (nat_lt (n * 10 + (get_or digits i 0 - 48)) 18446744073709551616) (Some (n * 10 + (get_or digits i 0 - 48))) None → None ≡ cond (nat_lt (digits_value digits) 18446744073709551616) (Some (digits_value digits)) None
stays-large n i digits h before none =
    let next = n * 10 + (get_or digits i 0 - 48) in
    let step = behind-step n i digits (digits_value digits) h before in
    let more : next ≤ digits_value digits = omega (arith, digits_behind-ge next (drop (i + 1) digits)) in
    too-large next (digits_value digits) more none
