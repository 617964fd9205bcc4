-- The longest numeral at the front of a text, found byte by byte.
use Rattle.std.proofs.Common.{◌≡◌, ◌+◌, ◌<◌, ◌≤◌, ◌&&◌, nat_eq, ℕ, suc, Bool, true, false, List, [], ◌∷◌, ◌++◌, length, take, get_or, Option, Some, None, refl, ap, arith, sym, ◌∙◌, subst, add-one, append_assoc, append-nil}
use Rattle.std.specs.Char.{to_ascii_lowercase}
use Rattle.std.proofs.lemmas.Bool.{eqb-true, false_from_ne_true}
use Rattle.std.proofs.lemmas.List.{take_more, get_or-map, length-map}
use Rattle.plcx_types.specs.Name.{in_lower_case}
use Rattle.plcx_types.specs.Numeral.{is_digit, digit_value, IsNumeral}
use Rattle.plcx_types.specs.Reading.{with_digit, numeral_from, numeral}
use Rattle.plcx_types.proofs.Numerals.{numeral_reads, numeral_is}
use Rattle.plcx_lex.specs.Scan.{Finds, Numeral}
use Rattle.plcx_lex.proofs.Finding.{past, Best, best_finds, best_kept}

-- what was read of so many bytes
pub record Scanned (base : ℕ) (xs : List ℕ) (i n : ℕ) (seen : Bool) (best : Option ℕ) : Type 0 where
  pub within : i ≤ length xs
  pub same : (p : List ℕ) → numeral_from base 0 false (take i xs ++ p) ≡ numeral_from base n seen p
  pub longest : Best (Numeral base) xs i best

none_empty : (base : ℕ) (xs : List ℕ) → 0 < base → Best (Numeral base) xs 0 None
unfolding numeral_from
none_empty base xs some = λ m le h.
    let at : m ≡ 0 = omega arith in
    let h' : IsNumeral base [] h.0 = subst (λ i. IsNumeral base (take i xs) h.0) at h.1 in
    let bad = numeral_reads base [] h.0 some h' in absurd (cc)

pub scan_none : (base : ℕ) (xs : List ℕ) → 0 < base → Scanned base xs 0 0 false None
scan_none base xs some = record { within = omega arith; same = λ p. refl; longest = none_empty base xs some }

one_more : (base : ℕ) (xs : List ℕ) (i n : ℕ) (seen : Bool) (best : Option ℕ) → i < length xs → Scanned base xs i n seen best → (p : List ℕ) → numeral_from base 0 false (take (suc i) xs ++ p) ≡ numeral_from base n seen (get_or xs i 0 ∷ p)
one_more base xs i n seen best lt scanned p =
    ap (λ ys. numeral_from base 0 false (ys ++ p)) (ap (λ j. take j xs) (sym (add-one i)) ∙ take_more xs i 0 lt)
    ∙ ap (numeral_from base 0 false) (append_assoc (take i xs) (get_or xs i 0 ∷ []) p)
    ∙ scanned.same (get_or xs i 0 ∷ p)

pub scan_digit : (base : ℕ) (xs : List ℕ) (i n more : ℕ) (seen : Bool) (best : Option ℕ) → i < length xs → is_digit base (get_or xs i 0) ≡ true → with_digit base n (digit_value (get_or xs i 0)) ≡ Some more
    → Scanned base xs i n seen best → Scanned base xs (suc i) more true (Some (suc i))
unfolding numeral_from
scan_digit base xs i n more seen best lt digit fits scanned =
    let on : (p : List ℕ) → numeral_from base 0 false (take (suc i) xs ++ p) ≡ numeral_from base more true p = λ p. one_more base xs i n seen best lt scanned p ∙ rw (digit, fits) in
    let here : numeral base (take (suc i) xs) ≡ Some more = ap (numeral base) (sym (append-nil (take (suc i) xs))) ∙ on [] in
    record { within = omega arith; same = on; longest = (omega arith, (more, numeral_is base (take (suc i) xs) more here), λ m lt' le h. absurd (omega arith)) }

pub scan_gap : (base : ℕ) (xs : List ℕ) (i n : ℕ) (best : Option ℕ) → 0 < base → i < length xs → is_digit base (get_or xs i 0) ≡ false → nat_eq (get_or xs i 0) 95 ≡ true
    → Scanned base xs i n true best → Scanned base xs (suc i) n false best
unfolding numeral_from
scan_gap base xs i n best some lt other gap scanned =
    let on : (p : List ℕ) → numeral_from base 0 false (take (suc i) xs ++ p) ≡ numeral_from base n false p = λ p. one_more base xs i n true best lt scanned p ∙ rw (other, gap) in
    let here : numeral base (take (suc i) xs) ≡ None = ap (numeral base) (sym (append-nil (take (suc i) xs))) ∙ on [] in
    record { within = omega arith; same = on; longest = best_kept (Numeral base) xs i best scanned.longest (λ h. let bad = sym here ∙ numeral_reads base (take (suc i) xs) h.0 some h.1 in absurd (cc)) }

-- no numeral goes on past a byte
pub scan_stops : (base : ℕ) (xs : List ℕ) (i n : ℕ) (seen : Bool) (best : Option ℕ) → 0 < base → i < length xs → ((p : List ℕ) → numeral_from base n seen (get_or xs i 0 ∷ p) ≡ None) → Scanned base xs i n seen best → Finds (Numeral base) xs best
scan_stops base xs i n seen best some lt dead scanned =
    best_finds (Numeral base) xs i best scanned.within scanned.longest (λ m far le h.
    let cut = past xs i m far lt in
    let none = ap (numeral base) cut.is ∙ scanned.same (get_or xs i 0 ∷ cut.rest) ∙ dead cut.rest in
    let bad = sym none ∙ numeral_reads base (take m xs) h.0 some h.1 in absurd (cc))

pub scan_over : (base : ℕ) (xs : List ℕ) (i n : ℕ) (seen : Bool) (best : Option ℕ) → 0 < base → i < length xs → is_digit base (get_or xs i 0) ≡ true → with_digit base n (digit_value (get_or xs i 0)) ≡ None → Scanned base xs i n seen best → Finds (Numeral base) xs best
unfolding numeral_from
scan_over base xs i n seen best some lt digit over scanned = scan_stops base xs i n seen best some lt (λ p. rw (digit, over)) scanned

pub scan_other : (base : ℕ) (xs : List ℕ) (i n : ℕ) (seen : Bool) (best : Option ℕ) → 0 < base → i < length xs → is_digit base (get_or xs i 0) ≡ false → (seen && nat_eq (get_or xs i 0) 95) ≡ false → Scanned base xs i n seen best → Finds (Numeral base) xs best
unfolding numeral_from
scan_other base xs i n seen best some lt other no_gap scanned = scan_stops base xs i n seen best some lt (λ p. rw (other, no_gap)) scanned

pub scan_ends : (base : ℕ) (xs : List ℕ) (i n : ℕ) (seen : Bool) (best : Option ℕ) → length xs ≤ i → Scanned base xs i n seen best → Finds (Numeral base) xs best
scan_ends base xs i n seen best end scanned = best_finds (Numeral base) xs i best scanned.within scanned.longest (λ m far le h. absurd (omega arith))

-- ---- the same of a text in any case

pub folded_get : (text : List ℕ) (i : ℕ) → i < length text → get_or (in_lower_case text) i 0 ≡ to_ascii_lowercase (get_or text i 0)
folded_get text i lt = get_or-map to_ascii_lowercase text i 0 0 lt

pub folded_length : (text : List ℕ) → length (in_lower_case text) ≡ length text
folded_length text = length-map text to_ascii_lowercase

pub reads_over : (base : ℕ) (text : List ℕ) (i n digit : ℕ) (seen : Bool) (best : Option ℕ) → 0 < base → i < length text → is_digit base (to_ascii_lowercase (get_or text i 0)) ≡ true → digit ≡ digit_value (to_ascii_lowercase (get_or text i 0)) → with_digit base n digit ≡ None
    → Scanned base (in_lower_case text) i n seen best → Finds (Numeral base) (in_lower_case text) best
reads_over base text i n digit seen best some lt is value over scanned =
    let here = folded_get text i lt in
    scan_over base (in_lower_case text) i n seen best some (omega (arith, folded_length text)) (rw here is) (rw here (rw value at over)) scanned

pub reads_digit : (base : ℕ) (text : List ℕ) (i n digit more : ℕ) (seen : Bool) (best : Option ℕ) → i < length text → is_digit base (to_ascii_lowercase (get_or text i 0)) ≡ true → digit ≡ digit_value (to_ascii_lowercase (get_or text i 0)) → with_digit base n digit ≡ Some more
    → Scanned base (in_lower_case text) i n seen best → Scanned base (in_lower_case text) (i + 1) more true (Some (i + 1))
reads_digit base text i n digit more seen best lt is value fits scanned =
    let here = folded_get text i lt in
    let next = scan_digit base (in_lower_case text) i n more seen best (omega (arith, folded_length text)) (rw here is) (rw here (rw value at fits)) scanned in
    subst (λ j. Scanned base (in_lower_case text) j more true (Some j)) (sym (add-one i)) next

pub reads_gap : (base : ℕ) (text : List ℕ) (i n : ℕ) (best : Option ℕ) → 0 < base → i < length text → is_digit base (to_ascii_lowercase (get_or text i 0)) ≡ false → get_or text i 0 ≡ 95 → Scanned base (in_lower_case text) i n true best → Scanned base (in_lower_case text) (i + 1) n false best
reads_gap base text i n best some lt other gap scanned =
    let here = folded_get text i lt in
    let mark : nat_eq (to_ascii_lowercase (get_or text i 0)) 95 ≡ true = ap (λ b. nat_eq (to_ascii_lowercase b) 95) gap in
    let next = scan_gap base (in_lower_case text) i n best some (omega (arith, folded_length text)) (rw here other) (rw here mark) scanned in
    subst (λ j. Scanned base (in_lower_case text) j n false best) (sym (add-one i)) next

lower_mark : (b : ℕ) → nat_eq (to_ascii_lowercase b) 95 ≡ true → b ≡ 95
lower_mark b h = let is : to_ascii_lowercase b ≡ 95 = eqb-true _ 95 h in grind arith

pub reads_other : (base : ℕ) (text : List ℕ) (i n : ℕ) (best : Option ℕ) → 0 < base → i < length text → is_digit base (to_ascii_lowercase (get_or text i 0)) ≡ false → (get_or text i 0 ≡ 95 → ⊥) → Scanned base (in_lower_case text) i n true best → Finds (Numeral base) (in_lower_case text) best
reads_other base text i n best some lt other none scanned =
    let here = folded_get text i lt in
    let no : nat_eq (to_ascii_lowercase (get_or text i 0)) 95 ≡ false = false_from_ne_true _ (λ h. none (lower_mark (get_or text i 0) h)) in
    scan_other base (in_lower_case text) i n true best some (omega (arith, folded_length text)) (rw here other) (rw here no) scanned

pub reads_unseen : (base : ℕ) (text : List ℕ) (i n : ℕ) (best : Option ℕ) → 0 < base → i < length text → is_digit base (to_ascii_lowercase (get_or text i 0)) ≡ false → Scanned base (in_lower_case text) i n false best → Finds (Numeral base) (in_lower_case text) best
reads_unseen base text i n best some lt other scanned = let here = folded_get text i lt in scan_other base (in_lower_case text) i n false best some (omega (arith, folded_length text)) (rw here other) refl scanned
