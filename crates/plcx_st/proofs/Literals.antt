-- Printed literals and labels are tokens, and stand for what was printed.
use Rattle.std.proofs.Common.{◌≡◌, ◌<◌, ◌≤◌, ◌+◌, ◌*◌, ℕ, ℤ, true, false, List, [], ◌∷◌, ◌++◌, length, refl, ap, sym, subst, ◌∙◌, arith, min}
use Rattle.std.specs.Prelude.{codes}
use Rattle.std.specs.Fmt.{decimal}
use Rattle.std.specs.List.{list_all}
use Rattle.std.specs.Char as char
use Rattle.std.specs.Str.Parse.{AllDigits, digits_value_after}
use Rattle.std.proofs.lemmas.Fmt.{decimal_is_IsNumeral_wide}
use Rattle.std.proofs.lemmas.Bool.{and_from, and_parts}
use Rattle.std.proofs.lemmas.Bool.Decides.{nat_tests}
use Rattle.plcx_types.specs.declared.ty.Ty.{Ty}
use Rattle.plcx_types.specs.declared.ty.Ty.TheVariants as ty
use Rattle.plcx_types.specs.declared.literal.Literal.{Literal}
use Rattle.plcx_types.specs.declared.literal.Literal.TheVariants.{Typed, Whole}
use Rattle.plcx_types.specs.Name.{is_next_byte}
use Rattle.plcx_types.specs.Numeral.{is_digit, digit_value, number_from}
use Rattle.plcx_types.specs.Literal as literal
use Rattle.plcx_types.specs.Literal.{IsForm, value}
use Rattle.plcx_types.specs.Range.{InRange}
use Rattle.plcx_types.specs.Value.{Value}
use Rattle.plcx_types.specs.Printed.{printed}
use Rattle.plcx_types.proofs.Printing.{printed_stands}
use Rattle.plcx_lex.specs.Number as typed
use Rattle.plcx_lex.specs.Number.{IsTyped, IsLiteral}
use Rattle.plcx_lex.specs.Lexis.{is_decimal, IsToken}
use Rattle.plcx_lex.specs.declared.token.TokenKind.TheVariants as kind
use Rattle.plcx_st.proofs.Inside.{head, lower_next, typed_head}

-- ---- literals

typed_form : {text : List ℕ} {l : Literal} → IsForm text l → (v : Value) → l ≡ Typed v → IsTyped text v.ty v.n
typed_form (literal.IsForm.truth {text = text} {n = n} h) v e = (let same : value ty.Bool n ≡ v = cc in subst (λ (w : Value). IsTyped text w.ty w.n) same (typed.truth h))
typed_form (literal.IsForm.whole {n = n} h) v e = (let bad : Whole n ≡ Typed v = e in absurd cc)
typed_form (literal.IsForm.typed {t = t} {text = text} {n = n} h range) v e = (let same : value t n ≡ v = cc in subst (λ (w : Value). IsTyped (literal.type_word t ++ (codes "#" ++ text)) w.ty w.n) same (typed.typed h))
typed_form (literal.IsForm.short_time {text = text} {n = n} h range) v e = (let same : value ty.Time n ≡ v = cc in subst (λ (w : Value). IsTyped (codes "t#" ++ text) w.ty w.n) same (typed.short_time h))

pub literal_printed : (v : Value) → InRange v.ty v.n → IsLiteral (printed v) v.ty v.n
literal_printed v range = typed_form (printed_stands v range) v refl

pub number_token : (v : Value) → InRange v.ty v.n → IsToken kind.Number (printed v)
number_token v range = (v.ty, v.n, literal_printed v range)

literal_head : (text : List ℕ) (t : Ty) (n : ℤ) → IsLiteral text t n → is_next_byte (head text) ≡ true
literal_head [] t n h = (let bad : false ≡ true = typed_head h in absurd cc)
literal_head (b ∷ text) t n h = sym (lower_next b) ∙ typed_head h

pub number_head : (v : Value) → InRange v.ty v.n → is_next_byte (head (printed v)) ≡ true
number_head v range = literal_head (printed v) v.ty v.n (literal_printed v range)

-- ---- labels

one_decimal : (c : ℕ) → char.digit_value c < 10 → is_decimal c ≡ true
one_decimal c h = grind (arith, nat_tests)

all_decimal : (ds : List ℕ) → AllDigits 10 ds → list_all is_decimal ds ≡ true
all_decimal [] h = refl
all_decimal (c ∷ cs) h = and_from (is_decimal c) (list_all is_decimal cs) (one_decimal c h.0) (all_decimal cs h.1)

one_digit : (c : ℕ) → char.digit_value c < 10 → is_digit 10 c ≡ true
one_digit c h = grind (arith, nat_tests)

same_value : (c : ℕ) → char.digit_value c < 10 → digit_value c ≡ char.digit_value c
same_value c h = grind (arith, nat_tests)

same_number : (n : ℕ) (ds : List ℕ) → AllDigits 10 ds → number_from 10 n ds ≡ digits_value_after 10 n ds
same_number n [] h = refl
same_number n (c ∷ cs) h = rw (one_digit c h.0, same_value c h.0) (same_number (n * 10 + char.digit_value c) cs h.1)

pub label_token : (n : ℕ) → n ≤ 2147483647 → IsToken kind.Digits (decimal n)
label_token n le = let shape = decimal_is_IsNumeral_wide n (omega (arith, le)) in (all_decimal (decimal n) shape.0.1, shape.0.0)

pub label_number : (n : ℕ) → n ≤ 2147483647 → min (number_from 10 0 (decimal n)) 2147483648 ≡ n
label_number n le =
    let shape = decimal_is_IsNumeral_wide n (omega (arith, le)) in
    let is : number_from 10 0 (decimal n) ≡ n = same_number 0 (decimal n) shape.0.1 ∙ shape.1 in
    ap (λ m. min m 2147483648) is ∙ omega (arith, le)

decimal_next : (b : ℕ) → is_decimal b ≡ true → is_next_byte b ≡ true
decimal_next b h = grind (arith, nat_tests)

digits_head : (ds : List ℕ) → 0 < length ds → list_all is_decimal ds ≡ true → is_next_byte (head ds) ≡ true
digits_head [] some h = absurd (omega arith)
digits_head (c ∷ cs) some h = decimal_next c (and_parts (is_decimal c) (list_all is_decimal cs) h).0

pub label_head : (n : ℕ) → n ≤ 2147483647 → is_next_byte (head (decimal n)) ≡ true
label_head n le = let t = label_token n le in digits_head (decimal n) t.1 t.0
