-- A printed value stands for itself.
use Rattle.std.proofs.Common.{◌≡◌, ◌<◌, ◌+◌, ◌*◌, ◌^◌, ◌++◌, ℕ, ℤ, pos, negsuc, zero, suc, true, false, List, [], ◌∷◌, refl, ap, arith, sym, ◌∙◌, subst}
use Rattle.std.specs.Prelude.{codes, decimal}
use Rattle.std.specs.Fmt.{signed_decimal}
use Rattle.std.specs.Char.{to_ascii_lowercase}
use Rattle.std.specs.List.{list_all}
use Rattle.std.specs.Str.Parse.{AllDigits, digits_value_after}
use Rattle.std.specs.Char as char
use Rattle.std.proofs.Math.Nat.{mul-one}
use Rattle.std.proofs.lemmas.Fmt.{decimal_is_IsNumeral_wide, length-decimal-le_wide}
use Rattle.std.proofs.lemmas.List.{map-append}
use Rattle.std.proofs.lemmas.Bool.{and_from, and_parts}
use Rattle.std.proofs.lemmas.Bool.Decides.{nat_tests}
use Rattle.std.proofs.lemmas.Int.{ints}
use Rattle.plcx_types.specs.declared.duration.TimeUnit.TheVariants as unit
use Rattle.plcx_types.specs.declared.ty.Ty.{Ty}
use Rattle.plcx_types.specs.declared.ty.Ty.TheVariants as ty
use Rattle.plcx_types.specs.declared.literal.Literal.TheVariants.{Typed}
use Rattle.plcx_types.specs.Name.{in_lower_case}
use Rattle.plcx_types.specs.Range.{InRange}
use Rattle.plcx_types.specs.TypeName.{same_ty, type_name}
use Rattle.plcx_types.specs.Value.{Value}
use Rattle.plcx_types.specs.Numeral.{is_digit, digit_value, number_from, IsNumeral, IsWholeNumber, plain, minus}
use Rattle.plcx_types.specs.Duration.{AreDigits, AreParts, skip, last, units, number, IsTime, ahead}
use Rattle.plcx_types.specs.Duration as duration
use Rattle.plcx_types.specs.Literal.{value, type_word, IsForm, typed, short_time, StandsForLiteral, StandsForValue, IsValueOf}
use Rattle.plcx_types.specs.Literal as form
use Rattle.plcx_types.specs.Printed.{printed, truth_word}
use Rattle.plcx_types.proofs.PartShape.{are_numeral}
use Rattle.plcx_types.proofs.Literals.{one_form}

one_digit : (c : ℕ) → char.digit_value c < 10 → is_digit 10 c ≡ true
one_digit c h = grind (arith, nat_tests)

same_value : (c : ℕ) → char.digit_value c < 10 → digit_value c ≡ char.digit_value c
same_value c h = grind (arith, nat_tests)

all_digits : (ds : List ℕ) → AllDigits 10 ds → list_all (is_digit 10) ds ≡ true
all_digits [] h = refl
all_digits (c ∷ cs) h = and_from (is_digit 10 c) (list_all (is_digit 10) cs) (one_digit c h.0) (all_digits cs h.1)

same_number : (n : ℕ) (ds : List ℕ) → AllDigits 10 ds → number_from 10 n ds ≡ digits_value_after 10 n ds
same_number n [] h = refl
same_number n (c ∷ cs) h = rw (one_digit c h.0, same_value c h.0) (same_number (n * 10 + char.digit_value c) cs h.1)

lower_digit : (c : ℕ) → is_digit 10 c ≡ true → to_ascii_lowercase c ≡ c
lower_digit c h = grind (arith, nat_tests)

lower_digits : (ds : List ℕ) → list_all (is_digit 10) ds ≡ true → in_lower_case ds ≡ ds
lower_digits [] h = refl
lower_digits (c ∷ cs) h =
    let parts = and_parts (is_digit 10 c) (list_all (is_digit 10) cs) h in
    let here = lower_digit c parts.0 in
    let rest = lower_digits cs parts.1 in
    cc

-- a number in decimal
record IsDecimal (n : ℕ) : Type 0 where
  are : AreDigits 20 (decimal n)
  is : number (decimal n) ≡ n

is_decimal : (n : ℕ) → n < 10 ^ 20 → IsDecimal n
is_decimal n small =
    let shape = decimal_is_IsNumeral_wide n (omega (arith, small)) in
    record {
      are = record { all = all_digits (decimal n) shape.0.1; some = shape.0.0; few = length-decimal-le_wide 20 n (omega arith) small (omega (arith, small)) };
      is = same_number 0 (decimal n) shape.0.1 ∙ shape.1;
    }

decimal_numeral : (n : ℕ) → n < 10 ^ 20 → IsNumeral 10 (decimal n) n
decimal_numeral n small = let d = is_decimal n small in record { digits = are_numeral (decimal n) d.are.all d.are.some; number = sym d.is; bounded = omega (arith, small) }

-- the number of a value is small, whichever side of 0 it is
abbrev IsSmall : ℤ → Type 0
IsSmall (pos n) = n < 10 ^ 20
IsSmall (negsuc n) = suc n < 10 ^ 20

signed_whole : (n : ℤ) → IsSmall n → IsWholeNumber (signed_decimal n) n
signed_whole (pos n) small = plain (decimal_numeral n small)
signed_whole (negsuc n) small = minus (decimal_numeral (suc n) small)

lower_signed : (n : ℤ) → IsSmall n → in_lower_case (signed_decimal n) ≡ signed_decimal n
lower_signed (pos n) small = lower_digits (decimal n) (is_decimal n small).are.all
lower_signed (negsuc n) small = ap (λ ds. 45 ∷ ds) (lower_digits (decimal (suc n)) (is_decimal (suc n) small).are.all)

in_milliseconds : (n : ℕ) → n < 10 ^ 20 → AreParts units (decimal n ++ codes "ms") n
in_milliseconds n small =
    let d = is_decimal n small in
    skip (skip (skip (skip (subst (λ m. AreParts (unit.Millisecond ∷ []) (decimal n ++ codes "ms") m) (mul-one (number (decimal n)) ∙ d.is) (last d.are)))))

signed_time : (n : ℤ) → IsSmall n → IsTime (signed_decimal n ++ codes "ms") n
signed_time (pos n) small = ahead (in_milliseconds n small)
signed_time (negsuc n) small = duration.back (in_milliseconds (suc n) small)

range_small : (t : Ty) (n : ℤ) → InRange t n → IsSmall n
range_small ty.Bool (pos n) h = omega (arith, ints, h.1)
range_small ty.Bool (negsuc n) h = omega (arith, ints, h.0)
range_small ty.Byte (pos n) h = omega (arith, ints, h.1)
range_small ty.Byte (negsuc n) h = omega (arith, ints, h.0)
range_small ty.Word (pos n) h = omega (arith, ints, h.1)
range_small ty.Word (negsuc n) h = omega (arith, ints, h.0)
range_small ty.Dword (pos n) h = omega (arith, ints, h.1)
range_small ty.Dword (negsuc n) h = omega (arith, ints, h.0)
range_small ty.Lword (pos n) h = omega (arith, ints, h.1)
range_small ty.Lword (negsuc n) h = omega (arith, ints, h.0)
range_small ty.Sint (pos n) h = omega (arith, ints, h.1)
range_small ty.Sint (negsuc n) h = omega (arith, ints, h.0)
range_small ty.Int (pos n) h = omega (arith, ints, h.1)
range_small ty.Int (negsuc n) h = omega (arith, ints, h.0)
range_small ty.Dint (pos n) h = omega (arith, ints, h.1)
range_small ty.Dint (negsuc n) h = omega (arith, ints, h.0)
range_small ty.Lint (pos n) h = omega (arith, ints, h.1)
range_small ty.Lint (negsuc n) h = omega (arith, ints, h.0)
range_small ty.Usint (pos n) h = omega (arith, ints, h.1)
range_small ty.Usint (negsuc n) h = omega (arith, ints, h.0)
range_small ty.Uint (pos n) h = omega (arith, ints, h.1)
range_small ty.Uint (negsuc n) h = omega (arith, ints, h.0)
range_small ty.Udint (pos n) h = omega (arith, ints, h.1)
range_small ty.Udint (negsuc n) h = omega (arith, ints, h.0)
range_small ty.Ulint (pos n) h = omega (arith, ints, h.1)
range_small ty.Ulint (negsuc n) h = omega (arith, ints, h.0)
range_small ty.Time (pos n) h = omega (arith, ints, h.1)
range_small ty.Time (negsuc n) h = omega (arith, ints, h.0)

-- a name in lower case
lower_name : (t : Ty) (rest : List ℕ) → in_lower_case (type_name t ++ (codes "#" ++ rest)) ≡ type_word t ++ (codes "#" ++ in_lower_case rest)
lower_name ty.Bool rest = refl
lower_name ty.Byte rest = refl
lower_name ty.Word rest = refl
lower_name ty.Dword rest = refl
lower_name ty.Lword rest = refl
lower_name ty.Sint rest = refl
lower_name ty.Int rest = refl
lower_name ty.Dint rest = refl
lower_name ty.Lint rest = refl
lower_name ty.Usint rest = refl
lower_name ty.Uint rest = refl
lower_name ty.Udint rest = refl
lower_name ty.Ulint rest = refl
lower_name ty.Time rest = refl

named_stands : (t : Ty) (n : ℤ) → same_ty t ty.Time ≡ false → InRange t n → IsForm (in_lower_case (type_name t ++ (codes "#" ++ signed_decimal n))) (Typed (value t n))
named_stands t n other range =
    let small = range_small t n range in
    let lower : in_lower_case (type_name t ++ (codes "#" ++ signed_decimal n)) ≡ type_word t ++ (codes "#" ++ signed_decimal n) = lower_name t (signed_decimal n) ∙ ap (λ ds. type_word t ++ (codes "#" ++ ds)) (lower_signed n small) in
    subst (λ text. IsForm text (Typed (value t n))) (sym lower) (typed (form.IsNumber.whole other (signed_whole n small)) range)

timed_stands : (n : ℤ) → InRange ty.Time n → IsForm (in_lower_case (codes "T#" ++ (signed_decimal n ++ codes "ms"))) (Typed (value ty.Time n))
timed_stands n range =
    let small = range_small ty.Time n range in
    let lower : in_lower_case (codes "T#" ++ (signed_decimal n ++ codes "ms")) ≡ codes "t#" ++ (signed_decimal n ++ codes "ms") = ap (λ ds. codes "t#" ++ ds) (map-append to_ascii_lowercase (signed_decimal n) (codes "ms") ∙ ap (λ ds. ds ++ codes "ms") (lower_signed n small)) in
    subst (λ text. IsForm text (Typed (value ty.Time n))) (sym lower) (short_time (signed_time n small) range)

truth_stands : (n : ℤ) → InRange ty.Bool n → IsForm (in_lower_case (truth_word n)) (Typed (value ty.Bool n))
truth_stands (pos zero) range = form.IsForm.truth form.falsehood
truth_stands (pos (suc zero)) range = form.IsForm.truth form.IsTruth.truth
truth_stands (pos (suc (suc n))) range = absurd (omega (arith, ints, range.1))
truth_stands (negsuc n) range = absurd (omega (arith, ints, range.0))

value_stands : (t : Ty) (n : ℤ) → InRange t n → StandsForLiteral (printed (value t n)) (Typed (value t n))
value_stands ty.Bool n range = truth_stands n range
value_stands ty.Time n range = timed_stands n range
value_stands ty.Byte n range = named_stands ty.Byte n refl range
value_stands ty.Word n range = named_stands ty.Word n refl range
value_stands ty.Dword n range = named_stands ty.Dword n refl range
value_stands ty.Lword n range = named_stands ty.Lword n refl range
value_stands ty.Sint n range = named_stands ty.Sint n refl range
value_stands ty.Int n range = named_stands ty.Int n refl range
value_stands ty.Dint n range = named_stands ty.Dint n refl range
value_stands ty.Lint n range = named_stands ty.Lint n refl range
value_stands ty.Usint n range = named_stands ty.Usint n refl range
value_stands ty.Uint n range = named_stands ty.Uint n refl range
value_stands ty.Udint n range = named_stands ty.Udint n refl range
value_stands ty.Ulint n range = named_stands ty.Ulint n refl range

pub printed_stands : (v : Value) → InRange v.ty v.n → StandsForLiteral (printed v) (Typed v)
printed_stands v range = value_stands v.ty v.n range

pub printed_again : (v : Value) → InRange v.ty v.n → StandsForValue v.ty (printed v) v
printed_again v range = (Typed v, printed_stands v range, (refl, refl))

pub printed_once : (v w : Value) → InRange v.ty v.n → StandsForValue v.ty (printed v) w → w ≡ v
printed_once v w range is =
    let same : is.0 ≡ Typed v = one_form (in_lower_case (printed v)) is.0 (Typed v) is.1 (printed_stands v range) in
    let own : IsValueOf v.ty (Typed v) w = subst (λ l. IsValueOf v.ty l w) same is.2 in
    own.1
