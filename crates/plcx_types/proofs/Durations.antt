-- What reads lengths of time reads just these.
use Rattle.std.proofs.Common.{◌≡◌, ◌<◌, ◌+◌, ◌*◌, ◌^◌, ◌/◌, ◌%◌, nat_eq, ℕ, ℤ, pos, neg_ℤ, true, false, cond, List, [], ◌∷◌, ◌++◌, length, Option, Some, None, refl, ap, arith, sym, ◌∙◌, subst, append-nil}
use Rattle.std.specs.Prelude.{codes}
use Rattle.std.specs.List.{list_all, list_any}
use Rattle.std.specs.Option.{option_map}
use Rattle.std.specs.Str.{bytes_eq}
use Rattle.std.proofs.Math.Nat.{mul-mod_left, mul-div_left, one-le-pow}
use Rattle.std.proofs.lemmas.Bool.{and_parts, or_left, both_ways, or_right, false_from_ne_true}
use Rattle.std.proofs.lemmas.Slice.Eq.{bytes_eq-Decides}
use Rattle.std.proofs.lemmas.Bool.Decides.{nat_tests}
use Rattle.plcx_types.specs.declared.duration.TimeUnit.{TimeUnit}
use Rattle.plcx_types.specs.Numeral.{is_digit}
use Rattle.plcx_types.specs.Duration.{letters_of, milliseconds_of, units, AreDigits, number, AreParts, skip, last, point, more, apart, IsTime, ahead}
use Rattle.plcx_types.specs.Duration as duration
use Rattle.plcx_types.specs.Reading.{behind, is_letter, part_at, exact, last_part, with_others, behind_gap, is_nil, parts, time}
use Rattle.plcx_types.proofs.PartShape.{stops, count_reads, part_plain, part_pointed}

-- parts begin with a digit
record Begins (text : List ℕ) : Type 0 where
  first : ℕ
  rest : List ℕ
  is : text ≡ first ∷ rest
  digit : is_digit 10 first ≡ true

begins : (most : ℕ) (digits rest : List ℕ) → AreDigits most digits → Begins (digits ++ rest)
begins most [] rest are = absurd (let some = are.some in omega arith)
begins most (b ∷ bs) rest are = record { first = b; rest = bs ++ rest; is = refl; digit = (and_parts (is_digit 10 b) (list_all (is_digit 10) bs) are.all).0 }

parts_begin : (us : List TimeUnit) (text : List ℕ) (ms : ℕ) → AreParts us text ms → Begins text
parts_begin us text ms (skip {us = vs} are) = parts_begin vs text ms are
parts_begin us text ms (last {u = u} {digits = digits} are) = begins 20 digits (letters_of u) are
parts_begin us text ms (point {u = u} {digits = digits} {decimals = decimals} are below whole) = begins 20 digits (codes "." ++ (decimals ++ letters_of u)) are
parts_begin us text ms (more {u = u} {digits = digits} {rest = rest} are others) = begins 20 digits (letters_of u ++ rest) are
parts_begin us text ms (apart {u = u} {digits = digits} {rest = rest} are others) = begins 20 digits (letters_of u ++ (codes "_" ++ rest)) are

digit_no_letter : (b : ℕ) → is_digit 10 b ≡ true → is_letter b ≡ false
digit_no_letter b h = grind (arith, nat_tests)

digit_no_gap : (b : ℕ) → is_digit 10 b ≡ true → nat_eq b 95 ≡ false
digit_no_gap b h = grind (arith, nat_tests)

begins_stops : (text : List ℕ) → Begins text → stops is_letter text ≡ true
begins_stops text b = subst (λ t. stops is_letter t ≡ true) (sym b.is) (rw (digit_no_letter b.first b.digit) refl)

begins_gap : (text : List ℕ) → Begins text → behind_gap text ≡ text
begins_gap text b = subst (λ t. behind_gap t ≡ t) (sym b.is) (rw (digit_no_gap b.first b.digit) refl)

begins_nil : (text : List ℕ) → Begins text → is_nil text ≡ false
begins_nil text b = subst (λ t. is_nil t ≡ false) (sym b.is) refl

same : (a b : List ℕ) → bytes_eq a b ≡ true → a ≡ b
same a b h = (bytes_eq-Decides a b).0 h

itself : (a : List ℕ) → bytes_eq a a ≡ true
itself a = (bytes_eq-Decides a a).1 refl

-- the letters of the first part are those of one of the units
first_letters : (us : List TimeUnit) (text : List ℕ) (ms : ℕ) → AreParts us text ms → list_any (λ u. bytes_eq (part_at text).letters (letters_of u)) us ≡ true
first_letters us text ms (skip {u = u} {us = vs} are) = or_right (bytes_eq (part_at text).letters (letters_of u)) _ (first_letters vs text ms are)
first_letters us text ms (last {u = u} {us = vs} {digits = digits} are) =
    let shape : part_at (digits ++ letters_of u) ≡ record { digits = digits; decimals = None; letters = letters_of u; rest = [] } = subst (λ t. part_at (digits ++ t) ≡ record { digits = digits; decimals = None; letters = letters_of u; rest = [] }) (append-nil (letters_of u)) (part_plain u digits [] are.all refl) in
    rw shape (or_left _ _ (itself (letters_of u)))
first_letters us text ms (point {u = u} {digits = digits} {decimals = decimals} are below whole) = rw (part_pointed u digits decimals are.all below.all) (or_left _ _ (itself (letters_of u)))
first_letters us text ms (more {u = u} {us = vs} {digits = digits} {rest = rest} {ms = m} are others) = rw (part_plain u digits rest are.all (begins_stops rest (parts_begin vs rest m others))) (or_left _ _ (itself (letters_of u)))
first_letters us text ms (apart {u = u} {digits = digits} {rest = rest} are others) = rw (part_plain u digits (codes "_" ++ rest) are.all refl) (or_left _ _ (itself (letters_of u)))

-- no two units have the same letters
abbrev pub AreApart : List TimeUnit → Type 0
AreApart [] = Unit {0}
AreApart (u ∷ us) = (list_any (λ v. bytes_eq (letters_of u) (letters_of v)) us ≡ false) × AreApart us

pub units_apart : AreApart units
units_apart = (refl, (refl, (refl, (refl, (refl, tt)))))

-- a text whose first part is of the first unit
parts_here : (u : TimeUnit) (us : List TimeUnit) (text digits : List ℕ) (decimals : Option (List ℕ)) (rest : List ℕ) → part_at text ≡ record { digits = digits; decimals = decimals; letters = letters_of u; rest = rest }
    → parts (u ∷ us) text ≡ (cond (is_nil rest) (last_part u digits decimals) (with_others u digits decimals (parts us (behind_gap rest))))
unfolding parts
parts_here u us text digits decimals rest shape = rw (shape, itself (letters_of u))

exact_is : (ms scale scaled : ℕ) → 0 < scale → ms * scale ≡ scaled → exact scaled scale ≡ Some ms
unfolding exact
exact_is ms scale scaled some is =
    let none : scaled % scale ≡ 0 = ap (λ s. s % scale) (sym is) ∙ mul-mod_left ms scale in
    let much : scaled / scale ≡ ms = ap (λ s. s / scale) (sym is) ∙ mul-div_left ms some in
    rw (none, much)

last_plain : (u : TimeUnit) (digits : List ℕ) → AreDigits 20 digits → last_part u digits None ≡ Some (number digits * milliseconds_of u)
unfolding last_part
last_plain u digits are = ap (option_map (λ n. n * milliseconds_of u)) (count_reads 20 digits (omega arith) are)

last_pointed : (u : TimeUnit) (digits decimals : List ℕ) (ms : ℕ) → AreDigits 20 digits → AreDigits 9 decimals → ms * 10 ^ length decimals ≡ (number digits * 10 ^ length decimals + number decimals) * milliseconds_of u → last_part u digits (Some decimals) ≡ Some ms
unfolding last_part
last_pointed u digits decimals ms are below whole =
    rw (count_reads 20 digits (omega arith) are, count_reads 9 decimals (omega arith) below)
    (exact_is ms (10 ^ length decimals) _ (one-le-pow (length decimals) 10 (omega arith)) whole)

others_sum : (u : TimeUnit) (digits : List ℕ) (ms : ℕ) → AreDigits 20 digits → with_others u digits None (Some ms) ≡ Some (number digits * milliseconds_of u + ms)
unfolding with_others
others_sum u digits ms are = rw (count_reads 20 digits (omega arith) are)

skips : (u : TimeUnit) (us : List TimeUnit) (text : List ℕ) → bytes_eq (part_at text).letters (letters_of u) ≡ false → parts (u ∷ us) text ≡ parts us text
unfolding parts
skips u us text other = rw other

-- letters that are those of a unit are not those of one apart from it
other_letters : (letters own : List ℕ) (us : List TimeUnit) → list_any (λ v. bytes_eq own (letters_of v)) us ≡ false → list_any (λ v. bytes_eq letters (letters_of v)) us ≡ true → bytes_eq letters own ≡ false
other_letters letters own us none one = false_from_ne_true _ (λ h. both_ways _ none (subst (λ l. list_any (λ v. bytes_eq l (letters_of v)) us ≡ true) (same letters own h) one))

pub parts_read : (us : List TimeUnit) (text : List ℕ) (ms : ℕ) → AreApart us → AreParts us text ms → parts us text ≡ Some ms
parts_read us text ms units (skip {u = u} {us = vs} are) =
    skips u vs text (other_letters (part_at text).letters (letters_of u) vs units.0 (first_letters vs text ms are)) ∙ parts_read vs text ms units.1 are
parts_read us text ms units (last {u = u} {us = vs} {digits = digits} are) =
    let shape : part_at (digits ++ letters_of u) ≡ record { digits = digits; decimals = None; letters = letters_of u; rest = [] } = subst (λ t. part_at (digits ++ t) ≡ record { digits = digits; decimals = None; letters = letters_of u; rest = [] }) (append-nil (letters_of u)) (part_plain u digits [] are.all refl) in
    parts_here u vs (digits ++ letters_of u) digits None [] shape ∙ last_plain u digits are
parts_read us text ms units (point {u = u} {us = vs} {digits = digits} {decimals = decimals} are below whole) =
    parts_here u vs _ digits (Some decimals) [] (part_pointed u digits decimals are.all below.all) ∙ last_pointed u digits decimals ms are below whole
parts_read us text ms units (more {u = u} {us = vs} {digits = digits} {rest = rest} {ms = m} are others) =
    let b = parts_begin vs rest m others in
    parts_here u vs _ digits None rest (part_plain u digits rest are.all (begins_stops rest b))
    ∙ rw (begins_nil rest b, begins_gap rest b, parts_read vs rest m units.1 others) (others_sum u digits m are)
parts_read us text ms units (apart {u = u} {us = vs} {digits = digits} {rest = rest} {ms = m} are others) =
    parts_here u vs _ digits None (codes "_" ++ rest) (part_plain u digits (codes "_" ++ rest) are.all refl)
    ∙ rw (parts_read vs rest m units.1 others) (others_sum u digits m are)

digit_no_sign : (b : ℕ) → is_digit 10 b ≡ true → nat_eq b 45 ≡ false
digit_no_sign b h = grind (arith, nat_tests)

no_sign : (text : List ℕ) → Begins text → behind (codes "-") text ≡ None
no_sign text b = subst (λ t. behind (codes "-") t ≡ None) (sym b.is) (rw (digit_no_sign b.first b.digit) refl)

pub time_reads : (text : List ℕ) (n : ℤ) → IsTime text n → time text ≡ Some n
unfolding time
time_reads text n (ahead {ms = ms} are) =
    let b = parts_begin units text ms are in
    rw (no_sign text b) (ap (option_map pos) (parts_read units text ms units_apart are))
time_reads text n (duration.back {text = rest} {ms = ms} are) = ap (option_map (λ k. neg_ℤ (pos k))) (parts_read units rest ms units_apart are)
