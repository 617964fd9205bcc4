-- The longest address at the front of a text.
use Rattle.std.proofs.Common.{◌≡◌, ◌⊎◌, ◌+◌, ◌<◌, ◌≤◌, ℕ, zero, suc, true, false, inl, inr, List, [], ◌∷◌, ◌++◌, length, take, drop, get_or, Option, refl, ap, arith, sym, ◌∙◌, subst}
use Rattle.std.specs.Prelude.{codes}
use Rattle.std.specs.Char.{to_ascii_lowercase}
use Rattle.std.specs.List.{list_all}
use Rattle.std.specs.Option.{option_map}
use Rattle.std.proofs.lemmas.Bool.{and_parts}
use Rattle.std.proofs.lemmas.List.{length-take, get_or-take}
use Rattle.plcx_types.specs.Name.{in_lower_case}
use Rattle.plcx_types.specs.Numeral.{is_digit}
use Rattle.plcx_types.specs.Duration.{AreDigits}
use Rattle.plcx_types.specs.Address.{is_one_of, ArePlaces, IsAddressForm}
use Rattle.plcx_types.specs.Address as address
use Rattle.plcx_lex.specs.Scan.{Finds, NoneOf, After}
use Rattle.plcx_lex.proofs.NumeralScan.{folded_get, folded_length}
use Rattle.plcx_lex.proofs.Finding.{after, alike}

-- the first byte of a list of places
record Begins (places : List ℕ) : Type 0 where
  some : 0 < length places
  digit : is_digit 10 (get_or places 0 0) ≡ true

first_digit : (digits rest : List ℕ) → AreDigits 9 digits → Begins (digits ++ rest)
first_digit [] rest is = absurd (omega (arith, is.some))
first_digit (d ∷ ds) rest is = record { some = omega arith; digit = (and_parts (is_digit 10 d) (list_all (is_digit 10) ds) is.all).0 }

begins : (most : ℕ) (places : List ℕ) → ArePlaces most places → Begins places
begins most places (address.last {digits = digits} is) = first_alone digits is
  where
    first_alone : (digits : List ℕ) → AreDigits 9 digits → Begins digits
    first_alone [] is = absurd (omega (arith, is.some))
    first_alone (d ∷ ds) is = record { some = omega arith; digit = (and_parts (is_digit 10 d) (list_all (is_digit 10) ds) is.all).0 }
begins most places (address.more {digits = digits} {rest = rest} is others) = first_digit digits (codes "." ++ rest) is

-- the ways of an address
record Plain (text : List ℕ) : Type 0 where
  area : ℕ
  places : List ℕ
  own : is_one_of (codes "iqm") area ≡ true
  is : text ≡ 37 ∷ area ∷ places
  numbers : ArePlaces 8 places

record Sized (text : List ℕ) : Type 0 where
  area : ℕ
  size : ℕ
  places : List ℕ
  own : is_one_of (codes "iqm") area ≡ true
  wide : is_one_of (codes "xbwdl") size ≡ true
  is : text ≡ 37 ∷ area ∷ size ∷ places
  numbers : ArePlaces 8 places

ways : (text : List ℕ) → IsAddressForm text → Plain text ⊎ Sized text
ways text (address.plain {area = a} {places = ps} own numbers) = inl (record { area = a; places = ps; own = own; is = refl; numbers = numbers })
ways text (address.sized {area = a} {size = s} {places = ps} own wide numbers) = inr (record { area = a; size = s; places = ps; own = own; wide = wide; is = refl; numbers = numbers })

size_no_digit : (b : ℕ) → is_one_of (codes "xbwdl") b ≡ true → is_digit 10 b ≡ true → ⊥
size_no_digit b wide digit = grind arith

-- the front of an address
pub record Head (text : List ℕ) : Type 0 where
  pub long : 3 ≤ length text
  pub mark : get_or text 0 0 ≡ 37
  pub area : is_one_of (codes "iqm") (get_or text 1 0) ≡ true

pub head : (text : List ℕ) → IsAddressForm text → Head text
head text is = elim (ways text is) [
  | inl p ↦
      let first = begins 8 p.places p.numbers in
      record { long = omega (arith, first.some, ap length p.is); mark = ap (λ t. get_or t 0 0) p.is; area = ap (λ t. is_one_of (codes "iqm") (get_or t 1 0)) p.is ∙ p.own }
  | inr s ↦
      let first = begins 8 s.places s.numbers in
      record { long = omega (arith, first.some, ap length s.is); mark = ap (λ t. get_or t 0 0) s.is; area = ap (λ t. is_one_of (codes "iqm") (get_or t 1 0)) s.is ∙ s.own }
]

-- with a width
sized_way : (a s : ℕ) (rest : List ℕ) (m : ℕ) → is_one_of (codes "xbwdl") s ≡ true → IsAddressForm (take m (37 ∷ a ∷ s ∷ rest)) → After (37 ∷ a ∷ s ∷ []) (ArePlaces 8) (take m (37 ∷ a ∷ s ∷ rest))
sized_way a s rest zero wide h = absurd (let far = (head [] h).long in omega arith)
sized_way a s rest (suc zero) wide h = absurd (let far = (head (37 ∷ []) h).long in omega arith)
sized_way a s rest (suc (suc zero)) wide h = absurd (let far = (head (37 ∷ a ∷ []) h).long in omega arith)
sized_way a s rest (suc (suc (suc m))) wide h = elim (ways (37 ∷ a ∷ s ∷ take m rest) h) [
  | inl p ↦
      let first = begins 8 p.places p.numbers in
      let same : s ∷ take m rest ≡ p.places = cc in
      let own : is_digit 10 s ≡ true = ap (λ t. is_digit 10 (get_or t 0 0)) same ∙ first.digit in
      absurd (size_no_digit s wide own)
  | inr q ↦ (let same : q.places ≡ take m rest = cc in (take m rest, refl, subst (ArePlaces 8) same q.numbers))
]

pub sized_finds : (a s : ℕ) (rest : List ℕ) (found : Option ℕ) → is_one_of (codes "iqm") a ≡ true → is_one_of (codes "xbwdl") s ≡ true → Finds (ArePlaces 8) rest found → Finds IsAddressForm (37 ∷ a ∷ s ∷ rest) (option_map (λ n. 3 + n) found)
sized_finds a s rest found area wide finds =
    alike (After (37 ∷ a ∷ s ∷ []) (ArePlaces 8)) IsAddressForm (37 ∷ a ∷ s ∷ rest) _
    (λ m h. subst IsAddressForm (sym h.1) (address.sized area wide h.2))
    (λ m h. sized_way a s rest m wide h)
    (after (ArePlaces 8) (37 ∷ a ∷ s ∷ []) rest found finds)

-- without a width
plain_way : (a s : ℕ) (rest : List ℕ) (m : ℕ) → is_one_of (codes "xbwdl") s ≡ false → IsAddressForm (take m (37 ∷ a ∷ s ∷ rest)) → After (37 ∷ a ∷ []) (ArePlaces 8) (take m (37 ∷ a ∷ s ∷ rest))
plain_way a s rest zero narrow h = absurd (let far = (head [] h).long in omega arith)
plain_way a s rest (suc zero) narrow h = absurd (let far = (head (37 ∷ []) h).long in omega arith)
plain_way a s rest (suc (suc m)) narrow h = elim (ways (37 ∷ a ∷ take m (s ∷ rest)) h) [
  | inl p ↦ (let same : p.places ≡ take m (s ∷ rest) = cc in (take m (s ∷ rest), refl, subst (ArePlaces 8) same p.numbers))
  | inr q ↦ absurd (by_front m q)
]
  where
    by_front : (m : ℕ) → Sized (37 ∷ a ∷ take m (s ∷ rest)) → ⊥
    by_front zero q = let bad = ap length q.is in omega arith
    by_front (suc m) q = let same : s ≡ q.size = cc in let bad = sym narrow ∙ ap (is_one_of (codes "xbwdl")) same ∙ q.wide in absurd (cc)

pub plain_finds : (a s : ℕ) (rest : List ℕ) (found : Option ℕ) → is_one_of (codes "iqm") a ≡ true → is_one_of (codes "xbwdl") s ≡ false → Finds (ArePlaces 8) (s ∷ rest) found → Finds IsAddressForm (37 ∷ a ∷ s ∷ rest) (option_map (λ n. 2 + n) found)
plain_finds a s rest found area narrow finds =
    alike (After (37 ∷ a ∷ []) (ArePlaces 8)) IsAddressForm (37 ∷ a ∷ s ∷ rest) _
    (λ m h. subst IsAddressForm (sym h.1) (address.plain area h.2))
    (λ m h. plain_way a s rest m narrow h)
    (after (ArePlaces 8) (37 ∷ a ∷ []) (s ∷ rest) found finds)

-- ---- the same of a text in any case

heads : (text : List ℕ) → 3 ≤ length text → in_lower_case text ≡ to_ascii_lowercase (get_or text 0 0) ∷ to_ascii_lowercase (get_or text 1 0) ∷ to_ascii_lowercase (get_or text 2 0) ∷ in_lower_case (drop 3 text)
heads [] long = absurd (omega arith)
heads (a ∷ []) long = absurd (omega arith)
heads (a ∷ b ∷ []) long = absurd (omega arith)
heads (a ∷ b ∷ c ∷ text) long = refl

two_dropped : (text : List ℕ) → 3 ≤ length text → in_lower_case (drop 2 text) ≡ to_ascii_lowercase (get_or text 2 0) ∷ in_lower_case (drop 3 text)
two_dropped [] long = absurd (omega arith)
two_dropped (a ∷ []) long = absurd (omega arith)
two_dropped (a ∷ b ∷ []) long = absurd (omega arith)
two_dropped (a ∷ b ∷ c ∷ text) long = refl

percent : (b : ℕ) → to_ascii_lowercase b ≡ 37 → b ≡ 37
percent b h = grind arith

pub address_none : (text : List ℕ) → (3 ≤ length text → get_or text 0 0 ≡ 37 → is_one_of (codes "iqm") (to_ascii_lowercase (get_or text 1 0)) ≡ true → ⊥) → NoneOf IsAddressForm (in_lower_case text)
address_none text other = λ m le h.
    let front = head (take m (in_lower_case text)) h in
    let far : 3 ≤ m = omega (arith, front.long, length-take m (in_lower_case text)) in
    let long : 3 ≤ length text = omega (arith, folded_length text) in
    let zero_lt : 0 < m = omega arith in
    let one_lt : 1 < m = omega arith in
    let first : to_ascii_lowercase (get_or text 0 0) ≡ 37 = sym (folded_get text 0 (omega arith)) ∙ sym (get_or-take m (in_lower_case text) 0 0 zero_lt) ∙ front.mark in
    let second = ap (is_one_of (codes "iqm")) (sym (folded_get text 1 (omega arith)) ∙ sym (get_or-take m (in_lower_case text) 1 0 one_lt)) ∙ front.area in
    other long (percent (get_or text 0 0) first) second

pub sized_here : (text : List ℕ) (found : Option ℕ) → 3 ≤ length text → get_or text 0 0 ≡ 37 → is_one_of (codes "iqm") (to_ascii_lowercase (get_or text 1 0)) ≡ true → is_one_of (codes "xbwdl") (to_ascii_lowercase (get_or text 2 0)) ≡ true
    → Finds (ArePlaces 8) (in_lower_case (drop 3 text)) found → Finds IsAddressForm (in_lower_case text) (option_map (λ n. 3 + n) found)
sized_here text found long mark area wide finds =
    let whole = heads text long ∙ ap (λ b. to_ascii_lowercase b ∷ to_ascii_lowercase (get_or text 1 0) ∷ to_ascii_lowercase (get_or text 2 0) ∷ in_lower_case (drop 3 text)) mark in
    subst (λ t. Finds IsAddressForm t (option_map (λ n. 3 + n) found)) (sym whole) (sized_finds (to_ascii_lowercase (get_or text 1 0)) (to_ascii_lowercase (get_or text 2 0)) (in_lower_case (drop 3 text)) found area wide finds)

pub plain_here : (text : List ℕ) (found : Option ℕ) → 3 ≤ length text → get_or text 0 0 ≡ 37 → is_one_of (codes "iqm") (to_ascii_lowercase (get_or text 1 0)) ≡ true → is_one_of (codes "xbwdl") (to_ascii_lowercase (get_or text 2 0)) ≡ false
    → Finds (ArePlaces 8) (in_lower_case (drop 2 text)) found → Finds IsAddressForm (in_lower_case text) (option_map (λ n. 2 + n) found)
plain_here text found long mark area narrow finds =
    let whole = heads text long ∙ ap (λ b. to_ascii_lowercase b ∷ to_ascii_lowercase (get_or text 1 0) ∷ to_ascii_lowercase (get_or text 2 0) ∷ in_lower_case (drop 3 text)) mark in
    subst (λ t. Finds IsAddressForm t (option_map (λ n. 2 + n) found)) (sym whole)
    (plain_finds (to_ascii_lowercase (get_or text 1 0)) (to_ascii_lowercase (get_or text 2 0)) (in_lower_case (drop 3 text)) found area narrow (subst (λ t. Finds (ArePlaces 8) t found) (two_dropped text long) finds))
