-- The longest length of time at the front of a text, tried from the longest prefix on.
use Rattle.std.proofs.Common.{◌≡◌, ◌-◌, ◌<◌, ◌≤◌, ℕ, ℤ, true, false, zero, suc, inl, inr, List, [], length, take, get_or, None, refl, ap, arith, sym, ◌∙◌, subst}
use Rattle.std.specs.Char.{to_ascii_lowercase}
use Rattle.std.proofs.lemmas.Bool.{cases_lt}
use Rattle.std.proofs.lemmas.List.{get_or-take, length-take, take-map}
use Rattle.std.proofs.lemmas.List.Folds.{list_all_at}
use Rattle.plcx_types.specs.declared.ty.Ty.TheVariants as ty
use Rattle.plcx_types.specs.Name.{in_lower_case}
use Rattle.plcx_types.specs.Literal.{IsNumber}
use Rattle.plcx_types.specs.Reading.{time, parts, part_at, last_part, count}
use Rattle.plcx_types.specs.ReadLiteral.{number_behind}
use Rattle.plcx_types.proofs.Literals.{number_reads}
use Rattle.plcx_lex.specs.declared.runs.Class.TheVariants as class
use Rattle.plcx_lex.specs.Scan.{LongestOf, Number, IsRun, belongs, is_end}
use Rattle.plcx_lex.proofs.Folds.{IsFair}
use Rattle.plcx_lex.proofs.Numbers.{time_only}
use Rattle.plcx_lex.proofs.NumeralScan.{folded_get, folded_length}
use Rattle.plcx_lex.proofs.TimeForm.{timed, brief_time, ends_time}

fair_timed : IsFair timed
fair_timed b = grind arith

pub fold_take : (n : ℕ) (text : List ℕ) → in_lower_case (take n text) ≡ take n (in_lower_case text)
fold_take n text = sym (take-map to_ascii_lowercase n text)

-- no longer prefix is a length of time
pub time_above : (text : List ℕ) (n : ℕ) → IsRun (belongs class.Time) (take 128 text) n → (m : ℕ) → n < m → m ≤ length text → Number ty.Time (take m (in_lower_case text)) → ⊥
time_above text n run m lt le h =
    let brief = brief_time (take m (in_lower_case text)) h.0 (time_only (take m (in_lower_case text)) h.0 h.1) in
    let short : m ≤ 128 = omega (arith, brief.few, length-take m (in_lower_case text), folded_length text) in
    let near : n < 128 = omega arith in
    let stop : timed (get_or (take 128 text) n 0) ≡ false = run.ends (omega (arith, length-take 128 text)) in
    let here : get_or (take m (in_lower_case text)) n 0 ≡ to_ascii_lowercase (get_or (take 128 text) n 0) = get_or-take m (in_lower_case text) n 0 lt ∙ folded_get text n (omega arith) ∙ ap to_ascii_lowercase (sym (get_or-take 128 text n 0 near)) in
    let bad = sym brief.all ∙ list_all_at timed (take m (in_lower_case text)) n 0 (omega (arith, length-take m (in_lower_case text), folded_length text)) (ap timed here ∙ fair_timed (get_or (take 128 text) n 0) ∙ stop) in
    absurd (cc)

-- n bytes are one, and no longer prefix is
pub time_found : (text : List ℕ) (n : ℕ) (v : ℤ) → n ≤ length text → ((m : ℕ) → n < m → m ≤ length text → Number ty.Time (take m (in_lower_case text)) → ⊥) → IsNumber ty.Time (in_lower_case (take n text)) v → LongestOf (Number ty.Time) (in_lower_case text) n
time_found text n v within longest is = record {
  within = omega (arith, folded_length text);
  holds = (v, subst (λ t. IsNumber ty.Time t v) (fold_take n text) is);
  longest = λ m lt le h. longest m lt (omega (arith, folded_length text)) h;
}

pub time_less : (text : List ℕ) (n : ℕ) → ((m : ℕ) → n < m → m ≤ length text → Number ty.Time (take m (in_lower_case text)) → ⊥) → ((v : ℤ) → IsNumber ty.Time (in_lower_case (take n text)) v → ⊥)
    → (m : ℕ) → n - 1 < m → m ≤ length text → Number ty.Time (take m (in_lower_case text)) → ⊥
time_less text n longest none m lt le h = elim (cases_lt n m) [
  | inl far ↦ longest m far le h
  | inr near ↦ elim (cases_lt m n) [
    | inl less ↦ absurd (omega arith)
    | inr same ↦ (let is : m ≡ n = omega arith in none h.0 (subst (λ t. IsNumber ty.Time t h.0) (sym (fold_take n text)) (subst (λ j. IsNumber ty.Time (take j (in_lower_case text)) h.0) is h.1)))
  ]
]

no_time : number_behind ty.Time [] ≡ None
unfolding number_behind time parts part_at last_part count
no_time = refl

pub time_none : (text : List ℕ) (n : ℕ) → n ≤ 0 → ((m : ℕ) → n < m → m ≤ length text → Number ty.Time (take m (in_lower_case text)) → ⊥) → (m : ℕ) → m ≤ length (in_lower_case text) → Number ty.Time (take m (in_lower_case text)) → ⊥
time_none text n none longest zero le h = let bad = sym no_time ∙ number_reads ty.Time [] h.0 h.1 in absurd (cc)
time_none text n none longest (suc m) le h = longest (suc m) (omega arith) (omega (arith, folded_length text)) h

-- a text that ends otherwise is none
pub time_short : (text : List ℕ) → length text < 2 → (v : ℤ) → IsNumber ty.Time (in_lower_case text) v → ⊥
time_short text short v is = let ends = ends_time (in_lower_case text) v (time_only (in_lower_case text) v is) in omega (arith, ends.two, folded_length text)

pub time_unended : (text : List ℕ) → 2 ≤ length text → is_end (to_ascii_lowercase (get_or text (length text - 2) 0)) (to_ascii_lowercase (get_or text (length text - 1) 0)) ≡ false → (v : ℤ) → IsNumber ty.Time (in_lower_case text) v → ⊥
time_unended text two other v is =
    let ends = ends_time (in_lower_case text) v (time_only (in_lower_case text) v is) in
    let size : length (in_lower_case text) ≡ length text = folded_length text in
    let near : get_or (in_lower_case text) (length (in_lower_case text) - 2) 0 ≡ to_ascii_lowercase (get_or text (length text - 2) 0) = ap (λ i. get_or (in_lower_case text) (i - 2) 0) size ∙ folded_get text (length text - 2) (omega arith) in
    let last : get_or (in_lower_case text) (length (in_lower_case text) - 1) 0 ≡ to_ascii_lowercase (get_or text (length text - 1) 0) = ap (λ i. get_or (in_lower_case text) (i - 1) 0) size ∙ folded_get text (length text - 1) (omega arith) in
    let bad : false ≡ true = sym other ∙ ap (λ b. is_end b (to_ascii_lowercase (get_or text (length text - 1) 0))) (sym near) ∙ ap (λ c. is_end (get_or (in_lower_case text) (length (in_lower_case text) - 2) 0) c) (sym last) ∙ ends.closed in
    cc

pub ruleset time_rules = (time_short, time_unended)
