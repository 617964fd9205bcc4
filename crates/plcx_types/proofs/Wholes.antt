-- What reads whole numbers reads just these.
use Rattle.std.proofs.Common.{◌≡◌, ◌⊎◌, ◌&&◌, ◌||◌, not, nat_eq, ℕ, ℤ, pos, neg_ℤ, Bool, true, false, inl, inr, List, [], ◌∷◌, ◌++◌, Option, Some, None, refl, ap, arith, sym, subst}
use Rattle.std.specs.Prelude.{codes}
use Rattle.std.specs.List.{list_any}
use Rattle.std.specs.Option.{option_map}
use Rattle.std.proofs.lemmas.Bool.{cases_Bool, and_parts, eqb-true}
use Rattle.plcx_types.specs.Numeral.{is_digit, are_digits, IsNumeral, IsWholeNumber, plain, plus, minus, binary, octal, hexadecimal}
use Rattle.plcx_types.specs.Reading.{behind, choose, numeral, positive, negative, unsigned_whole, whole}
use Rattle.plcx_types.proofs.BehindWord.{behind_is}
use Rattle.plcx_types.proofs.Numerals.{numeral_reads, numeral_is}

-- which way a choice went
pub chosen : {A : Type 0} (word text : List ℕ) (read : List ℕ → Option A) (other : Option A) (y : A) → choose (behind word text) read other ≡ Some y
    → ((rest : List ℕ) × (text ≡ word ++ rest) × (read rest ≡ Some y)) ⊎ ((behind word text ≡ None) × (other ≡ Some y))
chosen word text read other y h = go (behind word text) refl h
  where
    go : (r : Option (List ℕ)) → behind word text ≡ r → choose r read other ≡ Some y → ((rest : List ℕ) × (text ≡ word ++ rest) × (read rest ≡ Some y)) ⊎ ((behind word text ≡ None) × (other ≡ Some y))
    go None is found = inr (is, found)
    go (Some rest) is found = inl (rest, behind_is word text rest is, found)

pub mapped : {A B : Type 0} (f : A → B) (o : Option A) (y : B) → option_map f o ≡ Some y → (x : A) × (o ≡ Some x) × (f x ≡ y)
mapped f None y h = absurd (cc)
mapped f (Some x) y h = (x, refl, (cc))

-- a byte that stands in no decimal numeral
abbrev pub is_foreign : ℕ → Bool
is_foreign b = not (is_digit 10 b || nat_eq b 95)

-- a byte of a numeral, and what stands behind it
record Goes (b : ℕ) (bs : List ℕ) : Type 0 where
  own : is_foreign b ≡ false
  seen : Bool
  rest : are_digits 10 seen bs ≡ true

goes_on : (seen : Bool) (b : ℕ) (bs : List ℕ) → are_digits 10 seen (b ∷ bs) ≡ true → Goes b bs
goes_on seen b bs digits = elim (cases_Bool (is_digit 10 b)) [
  | inl digit ↦ record { own = rw digit; seen = true; rest = rw digit at digits }
  | inr other ↦
      let split = and_parts (seen && nat_eq b 95) (are_digits 10 false bs) (rw other at digits) in
      let gap = and_parts seen (nat_eq b 95) split.0 in
      record { own = rw (other, gap.1); seen = false; rest = split.1 }
]

pub behind_foreign : (word text : List ℕ) (seen : Bool) → list_any is_foreign word ≡ true → are_digits 10 seen text ≡ true → behind word text ≡ None
behind_foreign [] text seen foreign digits = absurd (cc)
behind_foreign (w ∷ ws) [] seen foreign digits = refl
behind_foreign (w ∷ ws) (b ∷ bs) seen foreign digits = elim (cases_Bool (nat_eq b w)) [
  | inl same ↦
      let goes = goes_on seen b bs digits in
      let own : is_foreign w ≡ false = subst (λ c. is_foreign c ≡ false) (eqb-true b w same) goes.own in
      rw same (behind_foreign ws bs goes.seen (rw own at foreign) goes.rest)
  | inr apart ↦ rw apart
]

pub whole_reads : (text : List ℕ) (n : ℤ) → IsWholeNumber text n → whole text ≡ Some n
unfolding whole unsigned_whole
whole_reads text n (plain {text = digits} {n = m} is) =
    rw (behind_foreign (codes "+") digits false refl is.digits, behind_foreign (codes "-") digits false refl is.digits, behind_foreign (codes "2#") digits false refl is.digits, behind_foreign (codes "8#") digits false refl is.digits, behind_foreign (codes "16#") digits false refl is.digits)
    (ap (option_map pos) (numeral_reads 10 digits m (omega arith) is))
whole_reads text n (plus {text = digits} {n = m} is) = ap (option_map pos) (numeral_reads 10 digits m (omega arith) is)
whole_reads text n (minus {text = digits} {n = m} is) = ap (option_map (λ k. neg_ℤ (pos k))) (numeral_reads 10 digits m (omega arith) is)
whole_reads text n (binary {text = digits} {n = m} is) = ap (option_map pos) (numeral_reads 2 digits m (omega arith) is)
whole_reads text n (octal {text = digits} {n = m} is) = ap (option_map pos) (numeral_reads 8 digits m (omega arith) is)
whole_reads text n (hexadecimal {text = digits} {n = m} is) = ap (option_map pos) (numeral_reads 16 digits m (omega arith) is)

-- what is read behind a word
read_behind : (word text rest : List ℕ) (base : ℕ) (n : ℤ) → text ≡ word ++ rest → ((m : ℕ) → IsNumeral base rest m → IsWholeNumber (word ++ rest) (pos m)) → positive base rest ≡ Some n → IsWholeNumber text n
read_behind word text rest base n is form found =
    let one = mapped pos (numeral base rest) n found in
    subst (λ t. IsWholeNumber t n) (sym is) (subst (λ k. IsWholeNumber (word ++ rest) k) one.2 (form one.0 (numeral_is base rest one.0 one.1)))

unsigned_is : (text : List ℕ) (n : ℤ) → unsigned_whole text ≡ Some n → IsWholeNumber text n
unfolding unsigned_whole
unsigned_is text n found = elim (chosen (codes "2#") text (positive 2) _ n found) [
  | inl two ↦ read_behind (codes "2#") text two.0 2 n two.1 (λ m is. binary is) two.2
  | inr rest ↦ elim (chosen (codes "8#") text (positive 8) _ n rest.1) [
    | inl eight ↦ read_behind (codes "8#") text eight.0 8 n eight.1 (λ m is. octal is) eight.2
    | inr rest ↦ elim (chosen (codes "16#") text (positive 16) _ n rest.1) [
      | inl sixteen ↦ read_behind (codes "16#") text sixteen.0 16 n sixteen.1 (λ m is. hexadecimal is) sixteen.2
      | inr rest ↦ read_behind [] text text 10 n refl (λ m is. plain is) rest.1
    ]
  ]
]

pub whole_is : (text : List ℕ) (n : ℤ) → whole text ≡ Some n → IsWholeNumber text n
unfolding whole
whole_is text n found = elim (chosen (codes "+") text (positive 10) _ n found) [
  | inl up ↦ read_behind (codes "+") text up.0 10 n up.1 (λ m is. plus is) up.2
  | inr rest ↦ elim (chosen (codes "-") text negative _ n rest.1) [
    | inl down ↦
        let one = mapped (λ k. neg_ℤ (pos k)) (numeral 10 down.0) n down.2 in
        subst (λ t. IsWholeNumber t n) (sym down.1) (subst (λ k. IsWholeNumber (codes "-" ++ down.0) k) one.2 (minus (numeral_is 10 down.0 one.0 one.1)))
    | inr rest ↦ unsigned_is text n rest.1
  ]
]
