-- Seconds as attributes spell them are no literal of TIME.
use Rattle.std.proofs.Common.{◌≡◌, ◌++◌, ℕ, List, ◌∷◌, refl, sym, ap, arith, ◌∙◌}
use Rattle.std.specs.Prelude.{codes}
use Rattle.plcx_types.specs.declared.ty.Ty.{Ty}
use Rattle.plcx_types.specs.declared.ty.Ty.TheVariants as ty
use Rattle.plcx_types.specs.declared.literal.Literal.{Literal}
use Rattle.plcx_types.specs.Name.{in_lower_case}
use Rattle.plcx_types.specs.Literal.{IsForm, truth, whole, typed, short_time, type_word, IsValueOf, StandsForValue}
use Rattle.plcx_types.specs.Value.{Value}
use Rattle.plcx_plan.specs.Intervals.{AreSeconds}
use Rattle.plcx_plan.specs.Intervals as interval

first_is : (a b : ℕ) (xs ys : List ℕ) → a ∷ xs ≡ b ∷ ys → a ≡ b
first_is a b xs ys h = cc

-- no literal of TIME begins with this letter
pub no_form : (xs text : List ℕ) (l : Literal) (w : Value) → IsForm text l → IsValueOf ty.Time l w → text ≡ 112 ∷ xs → ⊥
no_form xs text l w (truth are) is e = let no_time = is.0 in cc
no_form xs text l w (whole are) is e = let no_time = is.0 in cc
no_form xs text l w (typed {t = t} {text = behind} are within) is e =
    let time : type_word t ++ (codes "#" ++ behind) ≡ type_word ty.Time ++ (codes "#" ++ behind) = ap (λ (u : Ty). type_word u ++ (codes "#" ++ behind)) is.0 in
    let first = first_is 116 112 _ xs (sym time ∙ e) in
    omega (arith, first)
no_form xs text l w (short_time {text = behind} are within) is e = let first = first_is 116 112 _ xs e in omega (arith, first)

-- seconds begin with it, in lower case
begins : (text : List ℕ) (ms : ℕ) → AreSeconds text ms → (xs : List ℕ) × (in_lower_case text ≡ 112 ∷ xs)
begins text ms (interval.whole are) = (_, refl)
begins text ms (interval.point are behind few is) = (_, refl)

pub no_literal : (text : List ℕ) (ms : ℕ) (v : Value) → AreSeconds text ms → StandsForValue ty.Time text v → ⊥
no_literal text ms v are stands = let front = begins text ms are in no_form front.0 (in_lower_case text) stands.0 v stands.1 stands.2 front.1
