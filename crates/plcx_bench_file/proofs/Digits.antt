-- What holds of the digits of a number.
use Rattle.std.proofs.Common.{◌≡◌, ◌≤◌, ◌<◌, ◌+◌, ◌-◌, ◌*◌, ◌/◌, ◌%◌, ◌^◌, ℕ, zero, suc, Bool, true, false, List, [], ◌∷◌, ◌++◌, length, drop, refl, ap, sym, ◌∙◌, arith, Some, append-nil}
use Rattle.std.specs.Prelude.{pos, nat_le}
use Rattle.std.specs.List.{list_all, prefix_len}
use Rattle.std.specs.Fmt.{decimal}
use Rattle.std.proofs.lemmas.Fmt.{decimal_by_steps, decimal_nonempty, length-decimal-le}
use Rattle.std.proofs.lemmas.Bool.{le-leb, lt-ltb, ne_eqb}
use Rattle.std.proofs.lemmas.List.{take_all}
use borrow.Author.Tests.{leb-true}
use Rattle.plcx_xml.proofs.Runs.{prefix_len-again, both-true}
use Rattle.plcx_table.specs.Number.{is_digit, digits_behind, digits_value, number_of, coordinate_of, is_decimal, magnitude_of, begins_with}

-- what holds of each digit
pub of_ten : (P : ℕ → Type 0) → P 0 → P 1 → P 2 → P 3 → P 4 → P 5 → P 6 → P 7 → P 8 → P 9 → (k : ℕ) → k < 10 → P k
of_ten P p0 p1 p2 p3 p4 p5 p6 p7 p8 p9 zero h = p0
of_ten P p0 p1 p2 p3 p4 p5 p6 p7 p8 p9 (suc zero) h = p1
of_ten P p0 p1 p2 p3 p4 p5 p6 p7 p8 p9 (suc (suc zero)) h = p2
of_ten P p0 p1 p2 p3 p4 p5 p6 p7 p8 p9 (suc (suc (suc zero))) h = p3
of_ten P p0 p1 p2 p3 p4 p5 p6 p7 p8 p9 (suc (suc (suc (suc zero)))) h = p4
of_ten P p0 p1 p2 p3 p4 p5 p6 p7 p8 p9 (suc (suc (suc (suc (suc zero))))) h = p5
of_ten P p0 p1 p2 p3 p4 p5 p6 p7 p8 p9 (suc (suc (suc (suc (suc (suc zero)))))) h = p6
of_ten P p0 p1 p2 p3 p4 p5 p6 p7 p8 p9 (suc (suc (suc (suc (suc (suc (suc zero))))))) h = p7
of_ten P p0 p1 p2 p3 p4 p5 p6 p7 p8 p9 (suc (suc (suc (suc (suc (suc (suc (suc zero)))))))) h = p8
of_ten P p0 p1 p2 p3 p4 p5 p6 p7 p8 p9 (suc (suc (suc (suc (suc (suc (suc (suc (suc zero))))))))) h = p9
of_ten P p0 p1 p2 p3 p4 p5 p6 p7 p8 p9 (suc (suc (suc (suc (suc (suc (suc (suc (suc (suc k)))))))))) h = absurd (omega arith)

-- a test that each digit passes
pub record Digital (q : ℕ → Bool) : Type 0 where
  pub passes : (k : ℕ) → k < 10 → q (48 + k) ≡ true

pub digital : (q : ℕ → Bool) → q 48 ≡ true → q 49 ≡ true → q 50 ≡ true → q 51 ≡ true → q 52 ≡ true → q 53 ≡ true → q 54 ≡ true → q 55 ≡ true → q 56 ≡ true → q 57 ≡ true → Digital q
digital q p0 p1 p2 p3 p4 p5 p6 p7 p8 p9 = record { passes = of_ten (λ k. q (48 + k) ≡ true) p0 p1 p2 p3 p4 p5 p6 p7 p8 p9 }

all-append : (q : ℕ → Bool) (xs ys : List ℕ) → list_all q xs ≡ true → list_all q ys ≡ true → list_all q (xs ++ ys) ≡ true
all-append q [] ys h g = g
all-append q (x ∷ xs) ys h g =
    let p = both-true (q x) (list_all q xs) h in
    rw (p.0, all-append q xs ys p.1 g) refl

-- each digit of a number passes
pub all-decimal : (q : ℕ → Bool) → Digital q → (n : ℕ) → n < 2 ^ 64 → list_all q (decimal n) ≡ true
all-decimal q h = decimal_by_steps (λ n ds. list_all q ds ≡ true)
    (λ n lt. rw (h.passes n lt) refl)
    (λ n ds le more. all-append q ds ((48 + n % 10) ∷ []) more (rw (h.passes (n % 10) (omega arith)) refl))

behind-append : (xs ys : List ℕ) (m : ℕ) → digits_behind m (xs ++ ys) ≡ digits_behind (digits_behind m xs) ys
unfolding digits_behind
behind-append [] ys m = refl
behind-append (x ∷ xs) ys m = behind-append xs ys (m * 10 + (x - 48))

behind-one : (m d : ℕ) → digits_behind m (d ∷ []) ≡ m * 10 + (d - 48)
unfolding digits_behind
behind-one m d = refl

pub value-decimal : (n : ℕ) → n < 2 ^ 64 → digits_value (decimal n) ≡ n
value-decimal = decimal_by_steps (λ n ds. digits_value ds ≡ n)
    (λ n lt. behind-one 0 (48 + n) ∙ omega arith)
    (λ n ds le more. behind-append ds ((48 + n % 10) ∷ []) 0 ∙ (ap (λ (m : ℕ). digits_behind m ((48 + n % 10) ∷ [])) more ∙ (behind-one (n / 10) (48 + n % 10) ∙ omega arith)))

pub digits-digital : Digital is_digit
digits-digital = digital is_digit refl refl refl refl refl refl refl refl refl refl

-- the number that is written
pub number-decimal : (n : ℕ) → n < 2 ^ 64 → number_of (decimal n) ≡ Some n
unfolding number_of
number-decimal n h =
    rw (lt-ltb 0 (length (decimal n)) (decimal_nonempty n h), all-decimal is_digit digits-digital n h, value-decimal n h, lt-ltb n (2 ^ 64) h) refl

length_cons : (d : ℕ) (ds : List ℕ) → 0 < length (d ∷ ds)
length_cons d ds = omega arith

apart : (c : ℕ) (ds : List ℕ) → c < 48 → list_all is_digit ds ≡ true → begins_with c ds ≡ false
apart c [] lt h = refl
apart c (d ∷ ds) lt h =
    let one = both-true (is_digit d) (list_all is_digit ds) h in
    let low = leb-true 48 d (both-true (nat_le 48 d) (nat_le d 57) one.0).0 in
    rw (lt-ltb 0 (length (d ∷ ds)) (length_cons d ds)) (ne_eqb d c (omega arith))

drop_whole : (ds : List ℕ) → drop (length ds) ds ≡ []
drop_whole [] = refl
drop_whole (d ∷ ds) = drop_whole ds

magnitude : (ds : List ℕ) → 0 < length ds → length ds ≤ 12 → list_all is_digit ds ≡ true → magnitude_of ds ≡ Some (digits_value ds * 1000000)
unfolding magnitude_of is_decimal digits_behind
magnitude ds some few h =
    let all : prefix_len is_digit ds ≡ length ds = ap (prefix_len is_digit) (sym (append-nil ds)) ∙ prefix_len-again is_digit ds [] h tt in
    let sum : length ds + 0 ≡ length ds = omega arith in
    let same : digits_value ds * 1000000 + 0 ≡ digits_value ds * 1000000 = omega arith in
    rw (all, drop_whole ds, take_all (length ds) ds (omega arith), le-leb (length ds) 12 few, sum, lt-ltb 0 (length ds) some, same) refl

-- the coordinate that is written
pub coordinate-decimal : (n : ℕ) → n < 10 ^ 12 → coordinate_of (decimal n) ≡ Some (pos (n * 1000000))
unfolding coordinate_of
coordinate-decimal n h =
    let digits = all-decimal is_digit digits-digital n (omega arith) in
    rw (
      apart 45 (decimal n) (omega arith) digits,
      apart 43 (decimal n) (omega arith) digits,
      magnitude (decimal n) (decimal_nonempty n (omega arith)) (length-decimal-le 12 n (omega arith) h (omega arith)) digits,
      value-decimal n (omega arith),
    ) refl

-- the first digit, and what follows it
pub front-digit : (ds : List ℕ) → 0 < length ds → list_all is_digit ds ≡ true → (k : ℕ) × (rest : List ℕ) × (ds ≡ (48 + k) ∷ rest) × (k < 10)
front-digit [] some h = absurd (omega arith)
front-digit (d ∷ ds) some h =
    let one = both-true (nat_le 48 d) (nat_le d 57) (both-true (is_digit d) (list_all is_digit ds) h).0 in
    let low = leb-true 48 d one.0 in
    let high = leb-true d 57 one.1 in
    let same : d ≡ 48 + (d - 48) = omega arith in
    (d - 48, ds, ap (λ (x : ℕ). x ∷ ds) same, omega arith)
