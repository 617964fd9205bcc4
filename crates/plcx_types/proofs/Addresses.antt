-- What tells addresses.
use Rattle.std.proofs.Common.{◌≡◌, ◌⊎◌, ◌<◌, ◌≤◌, ◌-◌, ℕ, zero, suc, Bool, true, false, inl, inr, List, [], ◌∷◌, ◌++◌, length, drop, get_or, Some, None, Option, refl, ap, arith, sym, ◌∙◌, subst, append-nil, sub-one}
use Rattle.std.specs.Char.{to_ascii_lowercase}
use Rattle.std.proofs.lemmas.Bool.{cases_Bool, both_ways, and_parts, and_from, le-leb, leb-true, eqb-true, false_from_ne_true}
use Rattle.std.proofs.lemmas.Bool.Decides.{nat_tests}
use Rattle.std.proofs.lemmas.List.{length-map}
use Rattle.std.specs.Prelude.{codes, IsTrue, ◌↔◌, ◌&&◌, nat_le, nat_eq}
use Rattle.std.specs.List.{list_all}
use Rattle.plcx_types.specs.Address.{is_one_of, ArePlaces, last, more, IsAddressForm, plain, sized, IsAddress}
use Rattle.plcx_types.specs.Name.{in_lower_case}
use Rattle.plcx_types.specs.Duration.{AreDigits}
use Rattle.plcx_types.specs.Numeral.{is_digit}
use Rattle.plcx_types.specs.Reading.{behind, front, back}
use Rattle.plcx_types.specs.ReadAddress.{goes_on, ends_or, are_few, are_places, is_address_form, is_address}
use Rattle.plcx_types.proofs.BehindWord.{behind_again, behind_is}
use Rattle.plcx_types.proofs.PartShape.{front_all, back_all, front_passes, front_back}

abbrev pub digits_of : List ℕ → List ℕ
digits_of text = front (is_digit 10) text

abbrev pub rest_of : List ℕ → List ℕ
rest_of text = back (is_digit 10) text

-- the first number, and what stands behind it
pub record Parts (most : ℕ) (text : List ℕ) : Type 0 where
  pub some : 0 < most
  pub digits : AreDigits 9 (digits_of text)
  pub goes : (rest_of text ≡ []) ⊎ ((rest : List ℕ) × (rest_of text ≡ codes "." ++ rest) × ArePlaces (most - 1) rest)

alone : (digits : List ℕ) → AreDigits 9 digits → (digits_of digits ≡ digits) × (rest_of digits ≡ [])
alone digits are = (
  subst (λ t. digits_of t ≡ digits) (append-nil digits) (front_all (is_digit 10) digits [] are.all refl),
  subst (λ t. rest_of t ≡ []) (append-nil digits) (back_all (is_digit 10) digits [] are.all refl),
)

pub parts_of : {most : ℕ} {text : List ℕ} → ArePlaces most text → Parts most text
parts_of (last {most = most} {digits = digits} are) =
    let one = alone digits are in
    record { some = omega arith; digits = subst (AreDigits 9) (sym one.0) are; goes = inl one.1 }
parts_of (more {most = most} {digits = digits} {rest = rest} are others) =
    let own = front_all (is_digit 10) digits (codes "." ++ rest) are.all refl in
    let behind = back_all (is_digit 10) digits (codes "." ++ rest) are.all refl in
    record { some = omega arith; digits = subst (AreDigits 9) (sym own) are; goes = inr (rest, behind, subst (λ n. ArePlaces n rest) (sym (sub-one (suc most))) others) }

pub last_place : (most : ℕ) (text : List ℕ) → 0 < most → AreDigits 9 (digits_of text) → rest_of text ≡ [] → ArePlaces most text
last_place zero text some are ends = absurd (omega arith)
last_place (suc most) text some are ends = subst (ArePlaces (suc most)) (sym (append-nil (digits_of text)) ∙ ap (λ r. digits_of text ++ r) (sym ends) ∙ front_back (is_digit 10) text) (last are)

pub more_places : (most : ℕ) (text rest : List ℕ) → 0 < most → AreDigits 9 (digits_of text) → behind (codes ".") (rest_of text) ≡ Some rest → ArePlaces (most - 1) rest → ArePlaces most text
more_places zero text rest some are goes others = absurd (omega arith)
more_places (suc most) text rest some are goes others =
    let pointed : rest_of text ≡ codes "." ++ rest = behind_is (codes ".") (rest_of text) rest goes in
    subst (ArePlaces (suc most)) (ap (λ r. digits_of text ++ r) (sym pointed) ∙ front_back (is_digit 10) text) (more are (subst (λ n. ArePlaces n rest) (sub-one (suc most)) others))

pub places_behind : (most : ℕ) (text rest : List ℕ) → behind (codes ".") (rest_of text) ≡ Some rest → ArePlaces most text → ArePlaces (most - 1) rest
places_behind most text rest goes places = elim (parts_of places).goes [
  | inl ends ↦ absurd (let none : None ≡ Some rest = sym (ap (behind (codes ".")) ends) ∙ goes in cc)
  | inr others ↦
      let both : Some others.0 ≡ Some rest = sym (behind_again (codes ".") others.0) ∙ sym (ap (behind (codes ".")) others.1) ∙ goes in
      let same : others.0 ≡ rest = cc in
      subst (ArePlaces (most - 1)) same others.2
]

pub no_places_behind : (most : ℕ) (text : List ℕ) → behind (codes ".") (rest_of text) ≡ None → (rest_of text ≡ [] → ⊥) → ArePlaces most text → ⊥
no_places_behind most text none some places = elim (parts_of places).goes [
  | inl ends ↦ some ends
  | inr others ↦ absurd (let both : Some others.0 ≡ None = sym (behind_again (codes ".") others.0) ∙ sym (ap (behind (codes ".")) others.1) ∙ none in cc)
]

-- the test of numbers, step by step: digits and rest are as they stand in the text
lower_length : (text : List ℕ) → length (in_lower_case text) ≡ length text
lower_length text = length-map text to_ascii_lowercase

pub long_enough : (text digits : List ℕ) → in_lower_case digits ≡ digits_of text → 1 ≤ length digits → length digits ≤ 9 → AreDigits 9 (digits_of text)
long_enough text digits own some few =
    let size : length (digits_of text) ≡ length digits = sym (ap length own) ∙ lower_length digits in
    record { all = front_passes (is_digit 10) text; some = omega arith; few = omega arith }

pub short_digits : (most : ℕ) (text digits : List ℕ) → in_lower_case digits ≡ digits_of text → ArePlaces most text → (0 < most) × (1 ≤ length digits) × (length digits ≤ 9)
short_digits most text digits own places =
    let p = parts_of places in
    let size : length (digits_of text) ≡ length digits = sym (ap length own) ∙ lower_length digits in
    (p.some, omega (arith, p.digits.some), omega (arith, p.digits.few))

pub no_rest : (rest : List ℕ) → length rest ≡ 0 → in_lower_case rest ≡ []
no_rest [] none = refl
no_rest (b ∷ bs) none = absurd (omega arith)

pub some_rest : (rest : List ℕ) → (length rest ≡ 0 → ⊥) → in_lower_case rest ≡ [] → ⊥
some_rest [] some none = some refl
some_rest (b ∷ bs) some none = cc

-- ---- addresses

-- what an address is made of
record Plain (text : List ℕ) : Type 0 where
  area : ℕ
  places : List ℕ
  is : text ≡ 37 ∷ area ∷ places
  lies : is_one_of (codes "iqm") area ≡ true
  numbers : ArePlaces 8 places

record Sized (text : List ℕ) : Type 0 where
  area : ℕ
  size : ℕ
  places : List ℕ
  is : text ≡ 37 ∷ area ∷ size ∷ places
  lies : is_one_of (codes "iqm") area ≡ true
  wide : is_one_of (codes "xbwdl") size ≡ true
  numbers : ArePlaces 8 places

made : {text : List ℕ} → IsAddressForm text → Plain text ⊎ Sized text
made (plain {area = area} {places = places} lies numbers) = inl (record { area = area; places = places; is = refl; lies = lies; numbers = numbers })
made (sized {area = area} {size = size} {places = places} lies wide numbers) = inr (record { area = area; size = size; places = places; is = refl; lies = lies; wide = wide; numbers = numbers })

-- numbers begin with a digit, which is no size
no_size : (b : ℕ) (bs : List ℕ) → ArePlaces 8 (b ∷ bs) → is_one_of (codes "xbwdl") b ≡ true → ⊥
no_size b bs places wide =
    let p = parts_of places in
    elim (cases_Bool (is_digit 10 b)) [
      | inl digit ↦ both_ways _ (digit_no_size b digit) wide
      | inr other ↦ absurd (let none : length (digits_of (b ∷ bs)) ≡ 0 = rw other refl in omega (arith, p.digits.some))
    ]
  where
    digit_no_size : (c : ℕ) → is_digit 10 c ≡ true → is_one_of (codes "xbwdl") c ≡ false
    digit_no_size c h = grind (arith, nat_tests)

pub with_size : (area size : ℕ) (places : List ℕ) → is_one_of (codes "xbwdl") size ≡ true → IsAddressForm (37 ∷ area ∷ size ∷ places) → ArePlaces 8 places
with_size area size places wide is = elim (made is) [
  | inl p ↦ absurd (let rest : p.places ≡ size ∷ places = cc in no_size size places (subst (ArePlaces 8) rest p.numbers) wide)
  | inr p ↦ (let rest : p.places ≡ places = cc in subst (ArePlaces 8) rest p.numbers)
]

pub without_size : (area next : ℕ) (places : List ℕ) → is_one_of (codes "xbwdl") next ≡ false → IsAddressForm (37 ∷ area ∷ next ∷ places) → ArePlaces 8 (next ∷ places)
without_size area next places other is = elim (made is) [
  | inl p ↦ (let rest : p.places ≡ next ∷ places = cc in subst (ArePlaces 8) rest p.numbers)
  | inr p ↦ absurd (let same : p.size ≡ next = cc in both_ways _ other (subst (λ b. is_one_of (codes "xbwdl") b ≡ true) same p.wide))
]

-- what every address has
pub record Headed (text : List ℕ) : Type 0 where
  pub area : ℕ
  pub next : ℕ
  pub rest : List ℕ
  pub is : text ≡ 37 ∷ area ∷ next ∷ rest
  pub lies : is_one_of (codes "iqm") area ≡ true

pub headed : {text : List ℕ} → IsAddressForm text → Headed text
headed is = elim (made is) [
  | inl p ↦ by p p.places refl
  | inr p ↦ record { area = p.area; next = p.size; rest = p.places; is = p.is; lies = p.lies }
]
  where
    by : {text : List ℕ} (p : Plain text) (places : List ℕ) → p.places ≡ places → Headed text
    by p [] same = absurd (let some = (parts_of (subst (ArePlaces 8) same p.numbers)).digits.some in omega arith)
    by p (b ∷ bs) same = record { area = p.area; next = b; rest = bs; is = p.is ∙ ap (λ r. 37 ∷ p.area ∷ r) same; lies = p.lies }

-- the bytes that the test looks at
letters_at : (text : List ℕ) → 3 ≤ length text → get_or text 0 0 ≡ 37 → in_lower_case text ≡ 37 ∷ to_ascii_lowercase (get_or text 1 0) ∷ to_ascii_lowercase (get_or text 2 0) ∷ in_lower_case (drop 3 text)
letters_at [] long mark = absurd (omega arith)
letters_at (a ∷ []) long mark = absurd (omega arith)
letters_at (a ∷ b ∷ []) long mark = absurd (omega arith)
letters_at (a ∷ b ∷ c ∷ rest) long mark = ap (λ x. to_ascii_lowercase x ∷ to_ascii_lowercase b ∷ to_ascii_lowercase c ∷ in_lower_case rest) mark

after_two : (text : List ℕ) → 3 ≤ length text → in_lower_case (drop 2 text) ≡ to_ascii_lowercase (get_or text 2 0) ∷ in_lower_case (drop 3 text)
after_two [] long = absurd (omega arith)
after_two (a ∷ []) long = absurd (omega arith)
after_two (a ∷ b ∷ []) long = absurd (omega arith)
after_two (a ∷ b ∷ c ∷ rest) long = refl

pub tested_sized : (text : List ℕ) (result : Bool) → 3 ≤ length text → get_or text 0 0 ≡ 37 → is_one_of (codes "iqm") (to_ascii_lowercase (get_or text 1 0)) ≡ true → is_one_of (codes "xbwdl") (to_ascii_lowercase (get_or text 2 0)) ≡ true
    → (IsTrue result ↔ ArePlaces 8 (in_lower_case (drop 3 text))) → IsTrue result ↔ IsAddress text
tested_sized text result long mark lies wide places =
    let whole = letters_at text long mark in (
      (λ yes. subst IsAddressForm (sym whole) (sized lies wide (places.0 yes))),
      (λ is. places.1 (with_size _ _ _ wide (subst IsAddressForm whole is))),
    )

pub tested_plain : (text : List ℕ) (result : Bool) → 3 ≤ length text → get_or text 0 0 ≡ 37 → is_one_of (codes "iqm") (to_ascii_lowercase (get_or text 1 0)) ≡ true → is_one_of (codes "xbwdl") (to_ascii_lowercase (get_or text 2 0)) ≡ false
    → (IsTrue result ↔ ArePlaces 8 (in_lower_case (drop 2 text))) → IsTrue result ↔ IsAddress text
tested_plain text result long mark lies other places =
    let whole = letters_at text long mark in
    let rest = after_two text long in (
      (λ yes. subst IsAddressForm (sym whole) (plain lies (subst (ArePlaces 8) rest (places.0 yes)))),
      (λ is. places.1 (subst (ArePlaces 8) (sym rest) (without_size _ _ _ other (subst IsAddressForm whole is)))),
    )

-- what has not the bytes of an address is none
pub untested : (text : List ℕ) → (3 ≤ length text → get_or text 0 0 ≡ 37 → is_one_of (codes "iqm") (to_ascii_lowercase (get_or text 1 0)) ≡ true → ⊥) → IsAddress text → ⊥
untested text none is = go text (headed is) none
  where
    marked : (b : ℕ) → to_ascii_lowercase b ≡ 37 → b ≡ 37
    marked b h = grind (arith, nat_tests)

    go : (t : List ℕ) → Headed (in_lower_case t) → (3 ≤ length t → get_or t 0 0 ≡ 37 → is_one_of (codes "iqm") (to_ascii_lowercase (get_or t 1 0)) ≡ true → ⊥) → ⊥
    go [] h none = let is = h.is in cc
    go (a ∷ []) h none = let is = h.is in cc
    go (a ∷ b ∷ []) h none = let is = h.is in cc
    go (a ∷ b ∷ c ∷ rest) h none =
        let is = h.is in
        let first : to_ascii_lowercase a ≡ 37 = cc in
        let second : h.area ≡ to_ascii_lowercase b = cc in
        none (omega arith) (marked a first) (subst (λ x. is_one_of (codes "iqm") x ≡ true) second h.lies)

-- ---- the test

few_is : (digits : List ℕ) → list_all (is_digit 10) digits ≡ true → are_few digits ≡ true → AreDigits 9 digits
few_is digits all few = let p = and_parts (nat_le 1 (length digits)) (nat_le (length digits) 9) few in record { all = all; some = leb-true 1 (length digits) p.0; few = leb-true (length digits) 9 p.1 }

few_reads : (digits : List ℕ) → AreDigits 9 digits → are_few digits ≡ true
few_reads digits are = and_from (nat_le 1 (length digits)) (nat_le (length digits) 9) (le-leb 1 (length digits) are.some) (le-leb (length digits) 9 are.few)

pub places_read : (most : ℕ) (text : List ℕ) → ArePlaces most text → are_places most text ≡ true
unfolding are_places
places_read zero text places = absurd (let p = parts_of places in let some = p.some in omega arith)
places_read (suc most) text places =
    let p = parts_of places in
    and_from (are_few (digits_of text)) _ (few_reads (digits_of text) p.digits) (elim p.goes [
      | inl ends ↦ ap (ends_or (are_places most)) ends
      | inr others ↦ ap (ends_or (are_places most)) others.1 ∙ places_read most others.0 (subst (λ n. ArePlaces n others.0) (sub-one (suc most)) others.2)
    ])

module _ (most : ℕ) (text : List ℕ) (again : (rest : List ℕ) → are_places most rest ≡ true → ArePlaces most rest) (are : AreDigits 9 (digits_of text)) where
  point_goes : (o : Option (List ℕ)) → behind (codes ".") (rest_of text) ≡ o → goes_on (are_places most) o ≡ true → ArePlaces (suc most) text
  point_goes None is passes = absurd (cc)
  point_goes (Some others) is passes = more_places (suc most) text others (omega arith) are is (subst (λ n. ArePlaces n others) (sym (sub-one (suc most))) (again others passes))

  rest_goes : (rest : List ℕ) → rest_of text ≡ rest → ends_or (are_places most) rest ≡ true → ArePlaces (suc most) text
  rest_goes [] is passes = last_place (suc most) text (omega arith) are is
  rest_goes (b ∷ bs) is passes = point_goes (behind (codes ".") (b ∷ bs)) (ap (behind (codes ".")) is) passes

pub places_are : (most : ℕ) (text : List ℕ) → are_places most text ≡ true → ArePlaces most text
unfolding are_places
places_are zero text h = absurd (cc)
places_are (suc most) text h =
    let p = and_parts (are_few (digits_of text)) (ends_or (are_places most) (rest_of text)) h in
    rest_goes most text (places_are most) (few_is (digits_of text) (front_passes (is_digit 10) text) p.0) (rest_of text) refl p.1

pub form_reads : (text : List ℕ) → IsAddressForm text → is_address_form text ≡ true
unfolding is_address_form
form_reads text is =
    let h = headed is in
    subst (λ t. is_address_form t ≡ true) (sym h.is) (and_from (is_one_of (codes "iqm") h.area) _ h.lies (elim (cases_Bool (is_one_of (codes "xbwdl") h.next)) [
      | inl wide ↦ rw wide (places_read 8 h.rest (with_size h.area h.next h.rest wide (subst IsAddressForm h.is is)))
      | inr other ↦ rw other (places_read 8 (h.next ∷ h.rest) (without_size h.area h.next h.rest other (subst IsAddressForm h.is is)))
    ]))

pub form_is : (text : List ℕ) → is_address_form text ≡ true → IsAddressForm text
unfolding is_address_form
form_is [] h = absurd (cc)
form_is (mark ∷ []) h = absurd (cc)
form_is (mark ∷ area ∷ []) h = absurd (cc)
form_is (mark ∷ area ∷ next ∷ rest) h =
    let p = and_parts (nat_eq mark 37 && is_one_of (codes "iqm") area) _ h in
    let q = and_parts (nat_eq mark 37) (is_one_of (codes "iqm") area) p.0 in
    subst (λ m. IsAddressForm (m ∷ area ∷ next ∷ rest)) (sym (eqb-true mark 37 q.0)) (elim (cases_Bool (is_one_of (codes "xbwdl") next)) [
      | inl wide ↦ sized q.1 wide (places_are 8 rest (rw wide at p.1))
      | inr other ↦ plain q.1 (places_are 8 (next ∷ rest) (rw other at p.1))
    ])

pub same_test : (text : List ℕ) (result : Bool) → (IsTrue result ↔ IsAddress text) → result ≡ is_address text
same_test text true is = sym (form_reads (in_lower_case text) (is.0 refl))
same_test text false is = sym (false_from_ne_true (is_address text) (λ h. both_ways false refl (is.1 (form_is (in_lower_case text) h))))
