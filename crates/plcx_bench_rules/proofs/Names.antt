-- The names of the ring's variables: no white space stands in them, none is a literal, and no two are one name.
use Rattle.std.proofs.Common.{◌≡◌, ℕ, ◌+◌, ◌-◌, ◌^◌, ◌≤◌, ◌<◌, ◌%◌, Bool, true, false, List, [], ◌∷◌, length, map, reverse, take, None, decimal, refl, ap, sym, ◌∙◌, arith, lt-ltb, ne_eqb}
use Rattle.std.proofs.Math.Seq.{take-length}
use Rattle.std.proofs.lemmas.Bool.{or_from, cond-true}
use Rattle.std.proofs.lemmas.Fmt.{decimal_by_steps, decimal_injective}
use Rattle.std.proofs.lemmas.Slice.Eq.{bytes_eq-Decides}
use Rattle.std.specs.Char.{to_ascii_lowercase}
use Rattle.std.specs.List.{prefix_len}
use mathlib.Core.List.{reverse_aux}
use Rattle.plcx_types.specs.Lists.{Each}
use Rattle.plcx_types.specs.Name.{in_lower_case}
use Rattle.plcx_types.specs.Reading.{numeral_from, unsigned_whole, whole}
use Rattle.plcx_types.specs.ReadLiteral.{typed_or_whole, timed_or_other, literal_of}
use Rattle.plcx_bench_project.specs.Bench.{variable_name}
use Rattle.plcx_rules.specs.Texts.{same_name, is_space, trimmed}
use Rattle.plcx_rules.proofs.Lists.{each_append, each_more}

-- ---- digits

-- the byte of a digit
abbrev pub IsDigit : ℕ → Type 0
IsDigit c = (48 ≤ c) × (c ≤ 57)

pub are_digits : (n : ℕ) → n < 2 ^ 64 → Each IsDigit (decimal n)
are_digits n small = decimal_by_steps (λ (m : ℕ) (ds : List ℕ). Each IsDigit ds)
    (λ m one. (let d : IsDigit (48 + m) = (omega arith, omega arith) in d, tt))
    (λ m ds more before. each_append IsDigit ds ((48 + m % 10) ∷ []) before (let d : IsDigit (48 + m % 10) = (omega arith, omega arith) in d, tt))
    n small

lower_digit : (c : ℕ) → IsDigit c → to_ascii_lowercase c ≡ c
lower_digit c d = cond-true _ _ _ (lt-ltb c 65 (omega arith))

lower_digits : (ds : List ℕ) → Each IsDigit ds → map to_ascii_lowercase ds ≡ ds
lower_digits [] e = refl
lower_digits (d ∷ ds) e = let head = lower_digit d e.0 in let tail = lower_digits ds e.1 in cc

-- ---- white space

-- no white space
abbrev IsInk : ℕ → Type 0
IsInk c = is_space c ≡ false

digit_ink : (c : ℕ) → IsDigit c → IsInk c
digit_ink c d = or_from _ _ (or_from _ _ (or_from _ _ (ne_eqb c 32 (λ e. omega arith)) (ne_eqb c 9 (λ e. omega arith))) (ne_eqb c 13 (λ e. omega arith))) (ne_eqb c 10 (λ e. omega arith))

ink_reversed : (xs done : List ℕ) → Each IsInk xs → Each IsInk done → Each IsInk (reverse_aux xs done)
ink_reversed [] done e f = f
ink_reversed (x ∷ xs) done e f = ink_reversed xs (x ∷ done) e.1 (e.0, f)

no_space : (xs : List ℕ) → Each IsInk xs → prefix_len is_space xs ≡ 0
no_space [] e = refl
no_space (x ∷ xs) e = rw (e.0) refl

all_taken : (k : ℕ) (xs : List ℕ) → k ≡ 0 → take (length xs - k) xs ≡ xs
all_taken k xs none = let all : length xs - k ≡ length xs = omega arith in ap (λ m. take m xs) all ∙ take-length xs

-- a text in which no white space stands is kept whole
without_space : (c : ℕ) (xs : List ℕ) → Each IsInk (c ∷ xs) → trimmed (c ∷ xs) ≡ c ∷ xs
unfolding trimmed
without_space c xs e = rw (no_space (c ∷ xs) e) (all_taken (prefix_len is_space (reverse (c ∷ xs))) (c ∷ xs) (no_space (reverse (c ∷ xs)) (ink_reversed (c ∷ xs) [] e tt)))

-- ---- names

-- the number of a variable is small
abbrev pub IsSmall : ℕ → Type 0
IsSmall i = i < 1000

pub name_trimmed : (i : ℕ) → IsSmall i → trimmed (variable_name i) ≡ variable_name i
name_trimmed i small = without_space 86 (decimal i) (refl, each_more IsDigit IsInk (decimal i) digit_ink (are_digits i (omega arith)))

-- in lower case a name begins with the letter v, with which no literal begins
pub no_literal : (xs : List ℕ) → literal_of (118 ∷ xs) ≡ None
unfolding literal_of timed_or_other typed_or_whole whole unsigned_whole numeral_from
no_literal xs = refl

pub name_lower : (i : ℕ) → IsSmall i → in_lower_case (variable_name i) ≡ 118 ∷ decimal i
name_lower i small = ap (λ ds. 118 ∷ ds) (lower_digits (decimal i) (are_digits i (omega arith)))

pub one_name : (i : ℕ) → same_name (variable_name i) (variable_name i) ≡ true
one_name i = (bytes_eq-Decides (in_lower_case (variable_name i)) (in_lower_case (variable_name i))).1 refl

tail_same : (x : ℕ) (xs ys : List ℕ) → x ∷ xs ≡ x ∷ ys → xs ≡ ys
tail_same x xs ys e = cc

-- the names of two variables are two
pub two_names : (i j : ℕ) → IsSmall i → IsSmall j → (i ≡ j → ⊥) → same_name (variable_name i) (variable_name j) ≡ false
two_names i j small other differ = by (same_name (variable_name i) (variable_name j)) (bytes_eq-Decides (in_lower_case (variable_name i)) (in_lower_case (variable_name j))).0
  where
    by : (b : Bool) → (b ≡ true → in_lower_case (variable_name i) ≡ in_lower_case (variable_name j)) → b ≡ false
    by false same = refl
    by true same = absurd (differ (decimal_injective i j (omega arith) (omega arith) (tail_same 118 (decimal i) (decimal j) (sym (name_lower i small) ∙ (same refl ∙ name_lower j other)))))
