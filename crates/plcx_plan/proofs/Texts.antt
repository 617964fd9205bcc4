-- Texts of worked examples, as intervals or as none.
use Rattle.std.proofs.Common.{◌≡◌, ◌≤◌, ◌*◌, ◌^◌, ◌++◌, ℕ, pos, List, ◌∷◌, Option, Some, None, refl, arith}
use Rattle.std.specs.Prelude.{codes}
use Rattle.plcx_types.specs.declared.ty.Ty.TheVariants as ty
use Rattle.plcx_types.specs.declared.literal.Literal.TheVariants.{Typed}
use Rattle.plcx_types.specs.Duration.{AreParts, units, skip, last, ahead}
use Rattle.plcx_types.specs.Duration as duration
use Rattle.plcx_types.specs.Literal.{StandsForValue, value, short_time}
use Rattle.plcx_types.specs.Name.{in_lower_case}
use Rattle.plcx_types.specs.ReadLiteral.{value_of}
use Rattle.plcx_types.proofs.Literals.{value_reads}
use Rattle.plcx_table.specs.Number.{digits_behind, number_of}
use Rattle.plcx_plan.specs.Intervals.{AreSeconds, whole, point, IsLength, seconds, literal, IsInterval}
use Rattle.plcx_plan.specs.Reading.{exact, pointed_seconds, seconds_with, seconds_behind, seconds_of}
use Rattle.plcx_plan.proofs.NoLiteral.{no_form, no_literal}
use Rattle.plcx_plan.proofs.OnePlan.{same_value}
use Rattle.plcx_plan.proofs.Seconds.{seconds_read}

-- a part in milliseconds
some_parts : (digits : List ℕ) → duration.AreDigits 20 digits → AreParts units (digits ++ codes "ms") (duration.number digits * 1)
some_parts digits are = skip (skip (skip (skip (last are))))

ten : StandsForValue ty.Time (codes "T#10ms") (value ty.Time (pos 10))
ten = (Typed (value ty.Time (pos 10)), short_time (ahead (some_parts (codes "10") (record { all = refl; some = omega arith; few = omega arith }))) (omega arith, omega arith), (refl, refl))

none : StandsForValue ty.Time (codes "T#0ms") (value ty.Time (pos 0))
none = (Typed (value ty.Time (pos 0)), short_time (ahead (some_parts (codes "0") (record { all = refl; some = omega arith; few = omega arith }))) (omega arith, omega arith), (refl, refl))

pub literal_is : IsInterval (codes "T#10ms") 10
literal_is = record { is = literal ten; some = omega arith; within = omega arith }

twentieth : AreSeconds (codes "PT0.02S") 20
unfolding digits_behind
twentieth = point {digits = codes "0"} {decimals = codes "02"} (record { some = omega arith; all = refl }) (record { some = omega arith; all = refl }) (omega arith) refl

pub seconds_are_read : IsInterval (codes "PT0.02S") 20
seconds_are_read = record { is = seconds twentieth; some = omega arith; within = omega arith }

one_second : AreSeconds (codes "PT0000000000000000000000001S") 1000
unfolding digits_behind
one_second = whole {digits = codes "0000000000000000000000001"} (record { some = omega arith; all = refl })

pub zeros_are_read : IsInterval (codes "PT0000000000000000000000001S") 1000
zeros_are_read = record { is = seconds one_second; some = omega arith; within = omega arith }

zero_length : (text : List ℕ) (ms : ℕ) → StandsForValue ty.Time text (value ty.Time (pos 0)) → IsLength text ms → ms ≡ 0
zero_length text ms zero (seconds are) = absurd (no_literal text ms (value ty.Time (pos 0)) are zero)
zero_length text ms zero (literal stands) = same_value (value_of ty.Time text) ms 0 (value_reads ty.Time text (value ty.Time (pos ms)) stands) (value_reads ty.Time text (value ty.Time (pos 0)) zero)

pub zero_is_none : (ms : ℕ) → IsInterval (codes "T#0ms") ms → ⊥
zero_is_none ms i = let is = zero_length (codes "T#0ms") ms none i.is in let some = i.some in omega (arith, is, some)

unread : (o : Option ℕ) (ms : ℕ) → o ≡ None → o ≡ Some ms → ⊥
unread None ms h k = cc
unread (Some n) ms h k = cc

-- what isn't read as seconds, and begins as they do
no_length : (text xs : List ℕ) (ms : ℕ) → in_lower_case text ≡ 112 ∷ xs → seconds_of text ≡ None → ms ≤ 2 ^ 62 → IsLength text ms → ⊥
no_length text xs ms front never few (seconds are) = unread (seconds_of text) ms never (seconds_read text ms are few)
no_length text xs ms front never few (literal stands) = no_form xs (in_lower_case text) stands.0 (value ty.Time (pos ms)) stands.1 stands.2 front

no_lower_case : seconds_of (codes "pt1s") ≡ None
unfolding seconds_of
no_lower_case = refl

no_digit : seconds_of (codes "PT.5S") ≡ None
unfolding seconds_of seconds_behind seconds_with pointed_seconds number_of
no_digit = refl

no_whole : seconds_of (codes "PT0.0001S") ≡ None
unfolding seconds_of seconds_behind seconds_with pointed_seconds number_of digits_behind exact
no_whole = refl

pub lower_case_is_none : (ms : ℕ) → IsInterval (codes "pt1s") ms → ⊥
lower_case_is_none ms i = no_length (codes "pt1s") (codes "t1s") ms refl no_lower_case i.within i.is

pub no_digit_is_none : (ms : ℕ) → IsInterval (codes "PT.5S") ms → ⊥
no_digit_is_none ms i = no_length (codes "PT.5S") (codes "t.5s") ms refl no_digit i.within i.is

pub no_whole_is_none : (ms : ℕ) → IsInterval (codes "PT0.0001S") ms → ⊥
no_whole_is_none ms i = no_length (codes "PT0.0001S") (codes "t0.0001s") ms refl no_whole i.within i.is
