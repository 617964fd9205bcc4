-- Intervals are read by either form.
use Rattle.std.proofs.Common.{◌≡◌, ◌≤◌, ◌<◌, ◌^◌, nat_lt, nat_le, ℕ, ℤ, pos, Bool, true, false, ◌&&◌, cond, List, Option, Some, None, option_map, refl, arith, sym, ◌∙◌}
use Rattle.std.specs.Prelude.{IfSome, IfNone}
use Rattle.std.specs.Option.{option_and_then}
use Rattle.std.proofs.lemmas.Bool.Decides.{nat_tests}
use Rattle.plcx_types.specs.declared.ty.Ty.TheVariants as ty
use Rattle.plcx_types.specs.Literal.{value}
use Rattle.plcx_types.specs.ReadLiteral.{value_of}
use Rattle.plcx_types.proofs.Literals.{value_is, value_reads}
use Rattle.plcx_plan.specs.Intervals.{seconds, literal, IsLength, IsInterval}
use Rattle.plcx_plan.specs.Reading.{seconds_of, within_limit}
use Rattle.plcx_plan.proofs.Seconds.{seconds_are, seconds_read}

-- a number within the limit
record IsWithin (ms m : ℕ) : Type 0 where
  same : m ≡ ms
  some : 0 < ms
  within : ms ≤ 2 ^ 62

within_by : (b : Bool) (ms m : ℕ) → (nat_lt 0 ms && nat_le ms (2 ^ 62)) ≡ b → cond b (Some ms) None ≡ Some m → IsWithin ms m
within_by true ms m is h = record { same = cc; some = grind (arith, nat_tests); within = grind (arith, nat_tests) }
within_by false ms m is h = absurd (cc)

is_within : (ms m : ℕ) → within_limit ms ≡ Some m → IsWithin ms m
is_within ms m h = within_by (nat_lt 0 ms && nat_le ms (2 ^ 62)) ms m refl h

within : (ms : ℕ) → 0 < ms → ms ≤ 2 ^ 62 → within_limit ms ≡ Some ms
within ms some few = let fits : (nat_lt 0 ms && nat_le ms (2 ^ 62)) ≡ true = grind (arith, nat_tests) in rw fits refl

-- what an interval is read as
abbrev Is : List ℕ → ℤ → Type 0
Is text n = (ms : ℕ) × IsInterval text ms × (n ≡ pos ms)

as_interval : (text : List ℕ) (ms : ℕ) (n : ℤ) (found : Option ℕ) → IsLength text ms → within_limit ms ≡ found → Some n ≡ option_map (λ (m : ℕ). pos m) found → Is text n
as_interval text ms n None is h k = absurd (cc)
as_interval text ms n (Some m) is h k =
    let fits = is_within ms m h in
    let same = fits.same in
    (ms, record { is = is; some = fits.some; within = fits.within }, (let number : n ≡ pos m = cc in rw (sym same) number))

seconds_some_by : (text : List ℕ) (n : ℤ) (read : Option ℕ) → seconds_of text ≡ read → Some n ≡ option_map (λ (m : ℕ). pos m) (option_and_then within_limit read) → Is text n
seconds_some_by text n None is h = absurd (cc)
seconds_some_by text n (Some ms) is h = as_interval text ms n (within_limit ms) (seconds (seconds_are text ms is)) refl h

pub seconds_some : (text : List ℕ) (found : Option ℤ) → found ≡ option_map (λ (m : ℕ). pos m) (option_and_then within_limit (seconds_of text)) → IfSome found (Is text)
seconds_some text None h = tt
seconds_some text (Some n) h = seconds_some_by text n (seconds_of text) refl h

literal_length : (text : List ℕ) (ms : ℕ) → value_of ty.Time text ≡ Some (value ty.Time (pos ms)) → IsLength text ms
literal_length text ms h = literal (value_is ty.Time text (value ty.Time (pos ms)) h)

pub literal_some : (text : List ℕ) (found : Option ℤ) → IfSome found (λ n. (ms : ℕ) × (value_of ty.Time text ≡ Some (value ty.Time (pos ms))) × (Some n ≡ option_map (λ (m : ℕ). pos m) (within_limit ms))) → IfSome found (Is text)
literal_some text None h = tt
literal_some text (Some n) h = as_interval text h.0 n (within_limit h.0) (literal_length text h.0 h.1) refl h.2

none_by : (o : Option ℤ) (n : ℤ) → o ≡ None → o ≡ Some n → ⊥
none_by None n h k = cc
none_by (Some m) n h k = cc

none_of : (o : Option ℕ) (n : ℕ) → o ≡ None → o ≡ Some n → ⊥
none_of None n h k = cc
none_of (Some m) n h k = cc

no_seconds : (text : List ℕ) (found : Option ℤ) (ms : ℕ) → found ≡ option_map (λ (m : ℕ). pos m) (option_and_then within_limit (seconds_of text)) → found ≡ None → seconds_of text ≡ Some ms → 0 < ms → ms ≤ 2 ^ 62 → ⊥
no_seconds text found ms h none read some few =
    let made : option_map (λ (m : ℕ). pos m) (option_and_then within_limit (seconds_of text)) ≡ Some (pos ms) = rw read (rw (within ms some few) refl) in
    none_by found (pos ms) none (h ∙ made)

no_interval : (text : List ℕ) (seconds_found : Option ℤ) → seconds_found ≡ option_map (λ (m : ℕ). pos m) (option_and_then within_limit (seconds_of text)) → seconds_found ≡ None
    → ((ms : ℕ) → value_of ty.Time text ≡ Some (value ty.Time (pos ms)) → within_limit ms ≡ None) → (ms : ℕ) → 0 < ms → ms ≤ 2 ^ 62 → IsLength text ms → ⊥
no_interval text found h none no_literal ms some few (seconds are) = no_seconds text found ms h none (seconds_read text ms are few) some few
no_interval text found h none no_literal ms some few (literal stands) = none_of (within_limit ms) ms (no_literal ms (value_reads ty.Time text (value ty.Time (pos ms)) stands)) (within ms some few)

pub literal_none : (text : List ℕ) (seconds_found found : Option ℤ) → seconds_found ≡ option_map (λ (m : ℕ). pos m) (option_and_then within_limit (seconds_of text)) → seconds_found ≡ None
    → IfNone found ((ms : ℕ) → value_of ty.Time text ≡ Some (value ty.Time (pos ms)) → within_limit ms ≡ None) → IfNone found ((ms : ℕ) → IsInterval text ms → ⊥)
literal_none text seconds_found None h none no_literal = λ ms i. no_interval text seconds_found h none no_literal ms i.some i.within i.is
literal_none text seconds_found (Some n) h none no_literal = tt
