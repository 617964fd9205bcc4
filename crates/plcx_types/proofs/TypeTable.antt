-- The table of types.
use Rattle.std.proofs.Common.{◌≡◌, ℤ, Bool, true, false, T, Some, get_or, ◌<◌, lit<, refl, ap, sym, ◌∙◌, subst}
use Rattle.std.specs.Int.Signed.{le_z, le_z_yes}
use Rattle.std.proofs.lemmas.Bool.{eqb-true, eq-eqb, and_parts, and_from}
use Rattle.plcx_types.specs.declared.ty.Ty.{Ty}
use Rattle.plcx_types.specs.declared.ty.Ty.TheVariants as ty
use Rattle.plcx_types.specs.Range.{InRange, bounds_of, fits}
use Rattle.plcx_types.specs.TypeName.{all_types, position_of_type, same_ty, type_name, type_named}

-- each type stands at its place
pub at_its_place : (t : Ty) → get_or all_types (position_of_type t) ty.Bool ≡ t
at_its_place ty.Bool = refl
at_its_place ty.Byte = refl
at_its_place ty.Word = refl
at_its_place ty.Dword = refl
at_its_place ty.Lword = refl
at_its_place ty.Sint = refl
at_its_place ty.Int = refl
at_its_place ty.Dint = refl
at_its_place ty.Lint = refl
at_its_place ty.Usint = refl
at_its_place ty.Uint = refl
at_its_place ty.Udint = refl
at_its_place ty.Ulint = refl
at_its_place ty.Time = refl

pub position_below : (t : Ty) → position_of_type t < 14
position_below ty.Bool = lit< tt
position_below ty.Byte = lit< tt
position_below ty.Word = lit< tt
position_below ty.Dword = lit< tt
position_below ty.Lword = lit< tt
position_below ty.Sint = lit< tt
position_below ty.Int = lit< tt
position_below ty.Dint = lit< tt
position_below ty.Lint = lit< tt
position_below ty.Usint = lit< tt
position_below ty.Uint = lit< tt
position_below ty.Udint = lit< tt
position_below ty.Ulint = lit< tt
position_below ty.Time = lit< tt

pub same_is : (t u : Ty) → same_ty t u ≡ true → t ≡ u
same_is t u h = sym (at_its_place t) ∙ ap (λ i. get_or all_types i ty.Bool) (eqb-true (position_of_type t) (position_of_type u) h) ∙ at_its_place u

pub same_refl : (t : Ty) → same_ty t t ≡ true
same_refl t = eq-eqb (position_of_type t) (position_of_type t) refl

held : (b : Bool) → T b → b ≡ true
held true h = refl
held false h = absurd h

-- the test of a range as the range
pub within_range : (t : Ty) (n : ℤ) → fits t n ≡ true → InRange t n
within_range t n h =
    let parts = and_parts (le_z (bounds_of t).low n) (le_z n (bounds_of t).high) h in
    (le_z_yes (subst T (sym parts.0) tt), le_z_yes (subst T (sym parts.1) tt))

pub range_within : (t : Ty) (n : ℤ) → InRange t n → fits t n ≡ true
range_within t n h = and_from (le_z (bounds_of t).low n) (le_z n (bounds_of t).high) (held _ h.0.le) (held _ h.1.le)

pub named_again : (t : Ty) → type_named (type_name t) ≡ Some t
named_again ty.Bool = refl
named_again ty.Byte = refl
named_again ty.Word = refl
named_again ty.Dword = refl
named_again ty.Lword = refl
named_again ty.Sint = refl
named_again ty.Int = refl
named_again ty.Dint = refl
named_again ty.Lint = refl
named_again ty.Usint = refl
named_again ty.Uint = refl
named_again ty.Udint = refl
named_again ty.Ulint = refl
named_again ty.Time = refl
