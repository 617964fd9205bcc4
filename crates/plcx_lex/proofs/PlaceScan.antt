-- The longest list of places, and the longest address, at the front of a text.
use Rattle.std.proofs.Common.{◌≡◌, ◌⊎◌, ◌+◌, ◌-◌, ◌<◌, ◌≤◌, ℕ, zero, suc, true, false, inl, inr, List, ◌∷◌, ◌++◌, length, take, drop, get_or, refl, ap, arith, sym, ◌∙◌, subst}
use Rattle.std.specs.Prelude.{codes}
use Rattle.std.specs.Char.{to_ascii_lowercase}
use Rattle.std.specs.List.{list_all}
use Rattle.std.proofs.lemmas.Bool.{cases_lt, true_from_ne_false}
use Rattle.std.proofs.lemmas.List.{get_or-take, length-take, length-append, take-take, length-drop}
use Rattle.std.proofs.lemmas.List.Folds.{list_all_at}
use Rattle.plcx_types.specs.Name.{in_lower_case}
use Rattle.plcx_types.specs.Numeral.{is_digit}
use Rattle.plcx_types.specs.Duration.{AreDigits}
use Rattle.plcx_types.specs.Address.{is_one_of, ArePlaces, IsAddressForm}
use Rattle.plcx_lex.specs.Lexis.{is_decimal}
use Rattle.plcx_types.specs.Address as address
use Rattle.plcx_lex.specs.Scan.{NoneOf, LongestOf, IsRun}
use Rattle.plcx_lex.proofs.Folds.{IsFair, fold_all}
use Rattle.plcx_lex.proofs.NumeralScan.{folded_get, folded_length}
use Rattle.plcx_lex.proofs.TimeScan.{fold_take}
use Rattle.plcx_lex.proofs.TimeForm.{all_pass}
use Rattle.plcx_lex.proofs.TypedScan.{cut_at, fold_drop, mark_at, inside, same_rest}

decimal_is : (b : ℕ) → is_digit 10 b ≡ true → is_decimal b ≡ true
decimal_is b h = grind arith

digit_is : (b : ℕ) → is_decimal b ≡ true → is_digit 10 b ≡ true
digit_is b h = grind arith

fair_decimal : IsFair is_decimal
fair_decimal b = grind arith

-- the digits at the front, 9 at most
pub record Digits (xs : List ℕ) (n : ℕ) : Type 0 where
  pub within : n ≤ length xs
  pub few : n ≤ 9
  pub all : list_all is_decimal (take n xs) ≡ true
  pub ends : n < 9 → n < length xs → is_decimal (get_or xs n 0) ≡ false

pub digits_folded : (text : List ℕ) (n : ℕ) → IsRun is_decimal (take 9 text) n → Digits (in_lower_case text) n
digits_folded text n run = record {
  within = omega (arith, run.within, length-take 9 text, folded_length text);
  few = omega (arith, run.within, length-take 9 text);
  all = ap (list_all is_decimal) (sym (fold_take n text)) ∙ fold_all is_decimal (take n text) fair_decimal ∙ ap (list_all is_decimal) (sym cut) ∙ run.all;
  ends = λ near lt. folded_end near (omega (arith, folded_length text));
}
  where
    cut : take n (take 9 text) ≡ take n text
    cut = take-take n 9 text (omega (arith, run.within, length-take 9 text))

    folded_end : n < 9 → n < length text → is_decimal (get_or (in_lower_case text) n 0) ≡ false
    folded_end near lt = ap is_decimal (folded_get text n lt) ∙ fair_decimal (get_or text n 0) ∙ ap is_decimal (sym (get_or-take 9 text n 0 near)) ∙ run.ends (omega (arith, length-take 9 text))

passes_at : (xs : List ℕ) (i : ℕ) → i < length xs → list_all is_decimal xs ≡ true → is_decimal (get_or xs i 0) ≡ true
passes_at xs i lt all = true_from_ne_false _ (λ h. let bad = sym all ∙ list_all_at is_decimal xs i 0 lt h in absurd (cc))

decimals : (digits : List ℕ) → AreDigits 9 digits → list_all is_decimal digits ≡ true
decimals digits is = all_pass (is_digit 10) is_decimal digits decimal_is is.all

-- digits alone are in the run
digits_in : (xs : List ℕ) (n m : ℕ) → Digits xs n → m ≤ length xs → AreDigits 9 (take m xs) → m ≤ n
digits_in xs n m run le is = elim (cases_lt n m) [
  | inr ge ↦ ge
  | inl lt ↦
      let short : m ≤ 9 = omega (arith, is.few, length-take m xs) in
      let stop = run.ends (omega arith) (omega arith) in
      let bad = sym stop ∙ ap is_decimal (sym (get_or-take m xs n 0 lt)) ∙ passes_at (take m xs) n (omega (arith, length-take m xs)) (decimals (take m xs) is) in
      absurd (cc)
]

-- digits before a point are the run
digits_are : (xs digits rest : List ℕ) (n m : ℕ) → Digits xs n → m ≤ length xs → take m xs ≡ digits ++ 46 ∷ rest → AreDigits 9 digits → n ≡ length digits
digits_are xs digits rest n m run le is own =
    let far : length digits < m = omega (arith, ap length is, length-take m xs, length-append digits (46 ∷ rest)) in
    let mark : get_or xs (length digits) 0 ≡ 46 = sym (get_or-take m xs (length digits) 0 far) ∙ ap (λ ys. get_or ys (length digits) 0) is ∙ mark_at digits rest 46 in
    elim (cases_lt (length digits) n) [
      | inl less ↦
          let passing = passes_at (take n xs) (length digits) (omega (arith, length-take n xs, run.within)) run.all in
          let bad : is_decimal 46 ≡ true = ap is_decimal (sym mark ∙ sym (get_or-take n xs (length digits) 0 less)) ∙ passing in
          absurd (cc)
      | inr ge ↦ elim (cases_lt n (length digits)) [
        | inl short ↦
            let stop = run.ends (omega (arith, own.few)) (omega arith) in
            let same : get_or xs n 0 ≡ get_or digits n 0 = sym (get_or-take m xs n 0 (omega arith)) ∙ ap (λ ys. get_or ys n 0) is ∙ inside digits (46 ∷ rest) n short in
            let bad = sym stop ∙ ap is_decimal same ∙ passes_at digits n short (decimals digits own) in
            absurd (cc)
        | inr same ↦ omega arith
      ]
    ]

-- what a list of places at the front is
record Goes (most : ℕ) (xs : List ℕ) (n m : ℕ) : Type 0 where
  far : n < m
  mark : get_or xs n 0 ≡ 46
  rest : ArePlaces most (take (m - (n + 1)) (drop (n + 1) xs))

way : (most : ℕ) (xs : List ℕ) (n m : ℕ) → Digits xs n → m ≤ length xs → ArePlaces (suc most) (take m xs) → ((0 < m) × (m ≤ n)) ⊎ ((0 < n) × Goes most xs n m)
way most xs n m run le is = go (take m xs) refl is
  where
    go : (ys : List ℕ) → take m xs ≡ ys → ArePlaces (suc most) ys → ((0 < m) × (m ≤ n)) ⊎ ((0 < n) × Goes most xs n m)
    go ys same (address.last own) = inl (omega (arith, own.some, ap length same, length-take m xs), digits_in xs n m run le (subst (AreDigits 9) (sym same) own))
    go ys same (address.more {digits = digits} {rest = rest} own others) =
        let count = digits_are xs digits rest n m run le same own in
        let far : length digits < m = omega (arith, ap length same, length-take m xs, length-append digits (46 ∷ rest)) in
        let parts = same_rest 46 xs digits rest m same in
        let next : suc (length digits) ≡ n + 1 = omega arith in
        inr (
          omega (arith, own.some),
          record {
            far = omega arith;
            mark = ap (λ i. get_or xs i 0) count ∙ sym (get_or-take m xs (length digits) 0 far) ∙ ap (λ ys. get_or ys (length digits) 0) same ∙ mark_at digits rest 46;
            rest = subst (λ i. ArePlaces most (take (m - i) (drop i xs))) next (subst (ArePlaces most) (sym parts.1) others);
          },
        )

no_places : (ys : List ℕ) → ArePlaces zero ys → ⊥
no_places ys is = elim is [ ]

run_places : (most : ℕ) (xs : List ℕ) (n : ℕ) → 0 < n → Digits xs n → ArePlaces (suc most) (take n xs)
run_places most xs n some run = address.last (record { all = all_pass is_decimal (is_digit 10) (take n xs) digit_is run.all; some = omega (arith, length-take n xs, run.within); few = omega (arith, length-take n xs, run.few) })

point_raw : (text : List ℕ) (n : ℕ) → n < length text → get_or (in_lower_case text) n 0 ≡ 46 → get_or text n 0 ≡ 46
point_raw text n lt is = go (get_or text n 0) (sym (folded_get text n lt) ∙ is)
  where
    go : (b : ℕ) → to_ascii_lowercase b ≡ 46 → b ≡ 46
    go b h = grind arith

-- nothing is found
pub places_none : (most : ℕ) (text : List ℕ) (n : ℕ) → IsRun is_decimal (take 9 text) n → (most ≡ 0) ⊎ (n ≡ 0) → NoneOf (ArePlaces most) (in_lower_case text)
places_none zero text n run none m le h = no_places (take m (in_lower_case text)) h
places_none (suc most) text n run none m le h = elim none [
  | inl bad ↦ absurd (omega arith)
  | inr zero_n ↦ elim (way most (in_lower_case text) n m (digits_folded text n run) le h) [
    | inl a ↦ (let pos = a.0 in let small = a.1 in absurd (omega arith))
    | inr b ↦ (let pos = b.0 in absurd (omega arith))
  ]
]

-- the digits alone are found
pub places_digits : (most : ℕ) (text : List ℕ) (n : ℕ) → 0 < most → 0 < n → IsRun is_decimal (take 9 text) n → (n < length text → get_or text n 0 ≡ 46 → NoneOf (ArePlaces (most - 1)) (in_lower_case (drop (n + 1) text))) → LongestOf (ArePlaces most) (in_lower_case text) n
places_digits zero text n pos some run other = absurd (omega arith)
places_digits (suc most) text n pos some run other =
    let xs = in_lower_case text in
    let digits = digits_folded text n run in
    record {
      within = digits.within;
      holds = run_places most xs n some digits;
      longest = λ m lt le h. elim (way most xs n m digits le h) [
        | inl a ↦ (let small = a.1 in absurd (omega arith))
        | inr b ↦
            let goes = b.1 in
            let lt' : n < length text = omega (arith, folded_length text) in
            let none = other lt' (point_raw text n lt' goes.mark) in
            let one : suc most - 1 ≡ most = omega arith in
            none (m - (n + 1)) (omega (arith, length-drop (n + 1) xs, ap length (fold_drop (n + 1) text)))
            (subst (λ k. ArePlaces k (take (m - (n + 1)) (in_lower_case (drop (n + 1) text)))) (sym one) (subst (λ ys. ArePlaces most (take (m - (n + 1)) ys)) (sym (fold_drop (n + 1) text)) goes.rest))
      ];
    }

-- more places follow
pub places_more : (most : ℕ) (text : List ℕ) (n more : ℕ) → 0 < most → 0 < n → IsRun is_decimal (take 9 text) n → n < length text → get_or text n 0 ≡ 46 → LongestOf (ArePlaces (most - 1)) (in_lower_case (drop (n + 1) text)) more → LongestOf (ArePlaces most) (in_lower_case text) (n + 1 + more)
places_more zero text n more pos some run lt mark found = absurd (omega arith)
places_more (suc most) text n more pos some run lt mark found =
    let xs = in_lower_case text in
    let digits = digits_folded text n run in
    let one : suc most - 1 ≡ most = omega arith in
    let rest : LongestOf (ArePlaces most) (drop (n + 1) xs) more = subst (λ k. LongestOf (ArePlaces k) (drop (n + 1) xs) more) one (subst (λ ys. LongestOf (ArePlaces (suc most - 1)) ys more) (fold_drop (n + 1) text) found) in
    let point : get_or xs n 0 ≡ 46 = folded_get text n lt ∙ ap to_ascii_lowercase mark in
    let size : length xs ≡ length text = folded_length text in
    let shape : take (n + 1 + more) xs ≡ take n xs ++ (codes "." ++ take more (drop (n + 1) xs)) = cut_at xs n more (omega arith) ∙ ap (λ b. take n xs ++ b ∷ take more (drop (n + 1) xs)) point in
    let own : AreDigits 9 (take n xs) = record { all = all_pass is_decimal (is_digit 10) (take n xs) digit_is digits.all; some = omega (arith, length-take n xs, digits.within); few = omega (arith, length-take n xs, digits.few) } in
    record {
      within = omega (arith, rest.within, length-drop (n + 1) xs);
      holds = subst (ArePlaces (suc most)) (sym shape) (address.more own rest.holds);
      longest = λ m far le h. elim (way most xs n m digits le h) [
        | inl a ↦ (let small = a.1 in absurd (omega arith))
        | inr b ↦ (let goes = b.1 in rest.longest (m - (n + 1)) (omega arith) (omega (arith, length-drop (n + 1) xs)) goes.rest)
      ];
    }
