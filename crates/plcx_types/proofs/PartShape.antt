-- The first part of a length of time.
use Rattle.std.proofs.Common.{◌≡◌, ◌≤◌, ◌&&◌, not, nat_le, ℕ, Bool, true, false, inl, inr, List, [], ◌∷◌, ◌++◌, length, Some, None, refl, ap, arith, sym, subst, append-nil}
use Rattle.std.specs.Prelude.{codes}
use Rattle.std.specs.List.{list_all}
use Rattle.std.proofs.lemmas.Bool.{cases_Bool, and_parts, and_from, le-leb, leb-true}
use Rattle.plcx_types.specs.declared.duration.TimeUnit.{TimeUnit}
use Rattle.plcx_types.specs.declared.duration.TimeUnit.TheVariants as unit
use Rattle.plcx_types.specs.Numeral.{is_digit, are_digits, IsNumeral}
use Rattle.plcx_types.specs.Duration.{letters_of, AreDigits, number}
use Rattle.plcx_types.specs.Reading.{behind, front, back, is_letter, part_at, count}
use Rattle.plcx_types.proofs.NumberBounds.{number_small}
use Rattle.plcx_types.proofs.Numerals.{numeral_reads, numeral_is}

-- a text whose first byte fails a test, or that has none
abbrev pub stops : (ℕ → Bool) → List ℕ → Bool
stops passes [] = true
stops passes (b ∷ bs) = not (passes b)

not_true : (b : Bool) → not b ≡ true → b ≡ false
not_true true h = absurd (cc)
not_true false h = refl

front_stops : (passes : ℕ → Bool) (text : List ℕ) → stops passes text ≡ true → front passes text ≡ []
front_stops passes [] h = refl
front_stops passes (b ∷ bs) h = rw (not_true (passes b) h)

back_stops : (passes : ℕ → Bool) (text : List ℕ) → stops passes text ≡ true → back passes text ≡ text
back_stops passes [] h = refl
back_stops passes (b ∷ bs) h = rw (not_true (passes b) h)

pub front_all : (passes : ℕ → Bool) (own text : List ℕ) → list_all passes own ≡ true → stops passes text ≡ true → front passes (own ++ text) ≡ own
front_all passes [] text all h = front_stops passes text h
front_all passes (b ∷ bs) text all h = let parts = and_parts (passes b) (list_all passes bs) all in rw (parts.0) (ap (λ xs. b ∷ xs) (front_all passes bs text parts.1 h))

pub back_all : (passes : ℕ → Bool) (own text : List ℕ) → list_all passes own ≡ true → stops passes text ≡ true → back passes (own ++ text) ≡ text
back_all passes [] text all h = back_stops passes text h
back_all passes (b ∷ bs) text all h = let parts = and_parts (passes b) (list_all passes bs) all in rw (parts.0) (back_all passes bs text parts.1 h)

pub front_passes : (passes : ℕ → Bool) (text : List ℕ) → list_all passes (front passes text) ≡ true
front_passes passes [] = refl
front_passes passes (b ∷ bs) = elim (cases_Bool (passes b)) [
  | inl one ↦ rw one (and_from (passes b) _ one (front_passes passes bs))
  | inr none ↦ rw none
]

pub front_back : (passes : ℕ → Bool) (text : List ℕ) → front passes text ++ back passes text ≡ text
front_back passes [] = refl
front_back passes (b ∷ bs) = elim (cases_Bool (passes b)) [
  | inl one ↦ rw one (ap (λ xs. b ∷ xs) (front_back passes bs))
  | inr none ↦ rw none
]

-- digits and letters of units
digits_seen : (digits : List ℕ) → list_all (is_digit 10) digits ≡ true → are_digits 10 true digits ≡ true
digits_seen [] all = refl
digits_seen (b ∷ bs) all = let parts = and_parts (is_digit 10 b) (list_all (is_digit 10) bs) all in rw (parts.0) (digits_seen bs parts.1)

pub are_numeral : (digits : List ℕ) → list_all (is_digit 10) digits ≡ true → 1 ≤ length digits → are_digits 10 false digits ≡ true
are_numeral [] all some = absurd (omega arith)
are_numeral (b ∷ bs) all some = let parts = and_parts (is_digit 10 b) (list_all (is_digit 10) bs) all in rw (parts.0) (digits_seen bs parts.1)

pub count_reads : (most : ℕ) (digits : List ℕ) → most ≤ 20 → AreDigits most digits → count most digits ≡ Some (number digits)
unfolding count
count_reads most digits few are =
    let small = number_small 20 digits (omega (arith, are.few)) in
    let is : IsNumeral 10 digits (number digits) = record { digits = are_numeral digits are.all are.some; number = refl; bounded = omega (arith, small) } in
    rw (le-leb 1 (length digits) are.some, le-leb (length digits) most are.few) (numeral_reads 10 digits (number digits) (omega arith) is)

-- what is counted
pub record Counts (most : ℕ) (digits : List ℕ) (n : ℕ) : Type 0 where
  pub are : AreDigits most digits
  pub is : number digits ≡ n

pub count_is : (most : ℕ) (digits : List ℕ) (n : ℕ) → list_all (is_digit 10) digits ≡ true → count most digits ≡ Some n → Counts most digits n
unfolding count
count_is most digits n all found = elim (cases_Bool (nat_le 1 (length digits) && nat_le (length digits) most)) [
  | inl fits ↦
      let parts = and_parts (nat_le 1 (length digits)) (nat_le (length digits) most) fits in
      let is = numeral_is 10 digits n (rw fits at found) in
      record { are = record { all = all; some = leb-true 1 (length digits) parts.0; few = leb-true (length digits) most parts.1 }; is = sym is.number }
  | inr none ↦ absurd (let no = rw none at found in cc)
]

pub letters_all : (u : TimeUnit) → list_all is_letter (letters_of u) ≡ true
letters_all unit.Day = refl
letters_all unit.Hour = refl
letters_all unit.Minute = refl
letters_all unit.Second = refl
letters_all unit.Millisecond = refl

letters_stop : (u : TimeUnit) (rest : List ℕ) → stops (is_digit 10) (letters_of u ++ rest) ≡ true
letters_stop unit.Day rest = refl
letters_stop unit.Hour rest = refl
letters_stop unit.Minute rest = refl
letters_stop unit.Second rest = refl
letters_stop unit.Millisecond rest = refl

no_point : (u : TimeUnit) (rest : List ℕ) → behind (codes ".") (letters_of u ++ rest) ≡ None
no_point unit.Day rest = refl
no_point unit.Hour rest = refl
no_point unit.Minute rest = refl
no_point unit.Second rest = refl
no_point unit.Millisecond rest = refl

pub part_plain : (u : TimeUnit) (digits rest : List ℕ) → list_all (is_digit 10) digits ≡ true → stops is_letter rest ≡ true → part_at (digits ++ (letters_of u ++ rest)) ≡ record { digits = digits; decimals = None; letters = letters_of u; rest = rest }
unfolding part_at
part_plain u digits rest all stop =
    rw (front_all (is_digit 10) digits (letters_of u ++ rest) all (letters_stop u rest), back_all (is_digit 10) digits (letters_of u ++ rest) all (letters_stop u rest), no_point u rest)
    (rw (front_all is_letter (letters_of u) rest (letters_all u) stop, back_all is_letter (letters_of u) rest (letters_all u) stop) refl)

pub part_pointed : (u : TimeUnit) (digits decimals : List ℕ) → list_all (is_digit 10) digits ≡ true → list_all (is_digit 10) decimals ≡ true → part_at (digits ++ (codes "." ++ (decimals ++ letters_of u))) ≡ record { digits = digits; decimals = Some decimals; letters = letters_of u; rest = [] }
unfolding part_at
part_pointed u digits decimals all all_decimals =
    let stop : stops (is_digit 10) (letters_of u) ≡ true = subst (λ t. stops (is_digit 10) t ≡ true) (append-nil (letters_of u)) (letters_stop u []) in
    let fronts : front is_letter (letters_of u) ≡ letters_of u = subst (λ t. front is_letter t ≡ letters_of u) (append-nil (letters_of u)) (front_all is_letter (letters_of u) [] (letters_all u) refl) in
    let backs : back is_letter (letters_of u) ≡ [] = subst (λ t. back is_letter t ≡ []) (append-nil (letters_of u)) (back_all is_letter (letters_of u) [] (letters_all u) refl) in
    rw (front_all (is_digit 10) digits (codes "." ++ (decimals ++ letters_of u)) all refl, back_all (is_digit 10) digits (codes "." ++ (decimals ++ letters_of u)) all refl)
    (rw (front_all (is_digit 10) decimals (letters_of u) all_decimals stop, back_all (is_digit 10) decimals (letters_of u) all_decimals stop) (rw (fronts, backs) refl))
