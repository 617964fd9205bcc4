-- Tables of texts, and numbers of digits.
use Rattle.std.proofs.Common.{◌≡◌, ℕ, zero, suc, ◌+◌, ◌*◌, ◌-◌, ◌≤◌, ◌<◌, min, Bool, true, false, cond, List, [], ◌∷◌, drop, length, map, refl, sym, ◌∙◌, arith, slice_index_or, get_or}
use Rattle.plcx_lex.specs.declared.terminal.Terminal.{Terminal}
use Rattle.plcx_lex.specs.Terminal.{found}
use Rattle.std.specs.Char.{is_ascii_digit}
use Rattle.plcx_types.specs.Numeral.{number_from, is_digit, digit_value}

module _ {E : Type 0} (spelt : E → List ℕ × Terminal) (test : List ℕ → List ℕ → Bool) (text : List ℕ) where
  pub found_here : (table : List E) (i : ℕ) (e : E) → i < length table → test text (spelt (slice_index_or table i e)).0 ≡ true → found test (map spelt (drop i table)) text ≡ (spelt (slice_index_or table i e)).1
  found_here [] i e lt is = absurd (omega arith)
  found_here (x ∷ xs) zero e lt is = rw is refl
  found_here (x ∷ xs) (suc i) e lt is = found_here xs i e (omega arith) is

  pub found_on : (table : List E) (i : ℕ) (e : E) → i < length table → test text (spelt (slice_index_or table i e)).0 ≡ false → found test (map spelt (drop (suc i) table)) text ≡ found test (map spelt (drop i table)) text
  found_on [] i e lt is = absurd (omega arith)
  found_on (x ∷ xs) zero e lt is = rw is refl
  found_on (x ∷ xs) (suc i) e lt is = found_on xs i e (omega arith) is

-- the greatest label that is kept
abbrev cap : ℕ
cap = 2147483648

capped : (m n digit : ℕ) → min m cap ≡ min n cap → min (m * 10 + digit) cap ≡ min (n * 10 + digit) cap
capped m n digit h = omega arith

number_capped : (m n : ℕ) (text : List ℕ) → min m cap ≡ min n cap → min (number_from 10 m text) cap ≡ min (number_from 10 n text) cap
number_capped m n [] h = h
number_capped m n (b ∷ bs) h =
    elim (is_digit 10 b) as (λ c. min (cond c (number_from 10 (m * 10 + digit_value b) bs) (number_from 10 m bs)) cap ≡ min (cond c (number_from 10 (n * 10 + digit_value b) bs) (number_from 10 n bs)) cap) [
      | true ↦ number_capped (m * 10 + digit_value b) (n * 10 + digit_value b) bs (capped m n (digit_value b) h)
      | false ↦ number_capped m n bs h
    ]

ascii_digit : (b : ℕ) → is_ascii_digit b ≡ is_digit 10 b
ascii_digit b = grind arith

ascii_value : (b : ℕ) → is_ascii_digit b ≡ true → digit_value b ≡ b - 48
ascii_value b is = grind arith

-- one turn at a digit
pub label_digit : (n m : ℕ) (text : List ℕ) (i digit : ℕ) → i < length text → is_ascii_digit (get_or text i 0) ≡ true → digit ≡ get_or text i 0 - 48 → m ≡ min (n * 10 + digit) cap
    → (min (number_from 10 m (drop (suc i) text)) cap ≡ min (number_from 10 n (drop i text)) cap) × (m ≤ cap)
label_digit n m [] i digit lt is value next = absurd (omega arith)
label_digit n m (b ∷ bs) zero digit lt is value next =
    let digit' : digit_value b ≡ digit = ascii_value b is ∙ sym value in
    let is' : is_digit 10 b ≡ true = sym (ascii_digit b) ∙ is in
    let step : number_from 10 n (b ∷ bs) ≡ number_from 10 (n * 10 + digit) bs = rw (is', digit') refl in
    (rw step (number_capped m (n * 10 + digit) bs (omega arith)), omega arith)
label_digit n m (b ∷ bs) (suc i) digit lt is value next = label_digit n m bs i digit (omega arith) is value next

-- one turn at another byte
pub label_other : (n : ℕ) (text : List ℕ) (i : ℕ) → i < length text → is_ascii_digit (get_or text i 0) ≡ false → number_from 10 n (drop (suc i) text) ≡ number_from 10 n (drop i text)
label_other n [] i lt is = absurd (omega arith)
label_other n (b ∷ bs) zero lt is =
    let is' : is_digit 10 b ≡ false = sym (ascii_digit b) ∙ is in
    rw is' refl
label_other n (b ∷ bs) (suc i) lt is = label_other n bs i (omega arith) is
