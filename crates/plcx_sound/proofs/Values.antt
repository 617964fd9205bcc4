-- The value that a text stands for is one of its type.
use Rattle.std.proofs.Common.{◌≡◌, ℕ, ℤ, pos, List, Some, refl, sym, subst, ap, ◌∙◌}
use Rattle.plcx_types.specs.Range.{InRange}
use Rattle.plcx_types.specs.Value.{Value}
use Rattle.plcx_types.specs.ReadLiteral.{value_of}
use Rattle.plcx_types.specs.Literal.{IsTruth, IsForm, IsValueOf}
use Rattle.plcx_types.specs.Literal as form
use Rattle.plcx_types.specs.Name.{in_lower_case}
use Rattle.plcx_types.specs.declared.ty.Ty.TheVariants as ty
use Rattle.plcx_types.specs.declared.ty.Ty.{Ty}
use Rattle.plcx_types.specs.declared.literal.Literal.{Literal}
use Rattle.plcx_types.specs.declared.literal.Literal.TheVariants.{Typed, Whole}
use Rattle.plcx_types.proofs.Literals.{value_is}
use Rattle.plcx_types.proofs.TypeTable.{within_range}

abbrev LiteralSuits : Literal → Type 0
LiteralSuits (Typed v) = InRange v.ty v.n
LiteralSuits (Whole n) = Unit {0}

truth_suits : (text : List ℕ) (n : ℤ) → IsTruth text n → InRange ty.Bool n
truth_suits _ _ form.IsTruth.truth = within_range ty.Bool (pos 1) refl
truth_suits _ _ form.IsTruth.falsehood = within_range ty.Bool (pos 0) refl

form_suits : (text : List ℕ) (l : Literal) → IsForm text l → LiteralSuits l
form_suits text _ (form.IsForm.truth {n = n} is) = truth_suits text n is
form_suits text _ (form.IsForm.whole is) = tt
form_suits _ _ (form.IsForm.typed is within) = within
form_suits _ _ (form.IsForm.short_time is within) = within

value_suits : (t : Ty) (l : Literal) (v : Value) → LiteralSuits l → IsValueOf t l v → (v.ty ≡ t) × InRange t v.n
value_suits t (Typed w) v within is = (ap (λ (x : Value). x.ty) is.1 ∙ is.0, subst (λ (x : Value). InRange t x.n) (sym is.1) (subst (λ (u : Ty). InRange u w.n) is.0 within))
value_suits t (Whole n) v within is = (ap (λ (x : Value). x.ty) is.2, subst (λ (x : Value). InRange t x.n) (sym is.2) is.1)

pub value_within : (t : Ty) (text : List ℕ) (v : Value) → value_of t text ≡ Some v → (v.ty ≡ t) × InRange t v.n
value_within t text v is = let stands = value_is t text v is in value_suits t stands.0 v (form_suits (in_lower_case text) stands.0 stands.1) stands.2
