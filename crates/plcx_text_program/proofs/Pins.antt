-- What names lead to among the pins of a standard block.
use Rattle.std.proofs.Common.{◌≡◌, ℕ, suc, ◌+◌, Bool, true, false, cond, List, [], ◌∷◌, Option, Some, map, option_map, length, refl, sym, ap, ap₂, ◌∙◌, arith}
use Rattle.std.specs.Prelude.{unwrap_or}
use Rattle.std.specs.List.{find, position, position_from}
use Rattle.std.proofs.lemmas.Iterator.Adapters.{position_from-zero}
use Rattle.plcx_types.specs.declared.ty.Ty.{Ty}
use Rattle.plcx_types.specs.declared.ty.Ty.TheVariants as ty
use Rattle.plcx_types.specs.Name.{in_lower_case}
use Rattle.plcx_types.specs.TypeName.{type_name}
use Rattle.plcx_std.specs.declared.pin.Role.{Role}
use Rattle.plcx_std.specs.declared.pin.Role.TheVariants as role
use Rattle.plcx_std.specs.declared.pin.StdPin.{StdPin}
use Rattle.plcx_std.specs.Pins.{Pin, shown}
use Rattle.plcx_meaning.specs.Tree.{PouText}
use Rattle.plcx_meaning.specs.Layout.{Variable, variable_named, World, Meaning, Elementary, Composed, meaning, is_kept}
use Rattle.plcx_meaning.specs.Execute.{world_of}
use Rattle.plcx_conditions.specs.Known.{same_name}
use Rattle.plcx_known.specs.Parts.{role_class, pin_variable}
use Rattle.plcx_known.proofs.Places.{place_map, find_map}
use Rattle.plcx_numbered.specs.Numbers.{behind, places, inner_depth}
use Rattle.plcx_numbered.specs.Numbers.{Place as Lying}
use Rattle.plcx_text_numbered.specs.Numbers.{leaf_count, leaf_number}

-- the type of a pin is elementary
pub type_meant : (world : World) (t : Ty) → meaning world (type_name t) ≡ Elementary t
type_meant world ty.Bool = refl
type_meant world ty.Byte = refl
type_meant world ty.Word = refl
type_meant world ty.Dword = refl
type_meant world ty.Lword = refl
type_meant world ty.Sint = refl
type_meant world ty.Int = refl
type_meant world ty.Dint = refl
type_meant world ty.Lint = refl
type_meant world ty.Usint = refl
type_meant world ty.Uint = refl
type_meant world ty.Udint = refl
type_meant world ty.Ulint = refl
type_meant world ty.Time = refl

kept : (r : Role) → is_kept (role_class r) ≡ true
kept role.In = refl
kept role.Out = refl
kept role.Hidden = refl

-- a pin has one leaf
one_leaf : (unit : List PouText) (p : Pin) → leaf_count unit (pin_variable p) ≡ 1
one_leaf unit p = by (is_kept (role_class p.role)) (meaning (world_of unit) (type_name p.ty)) (kept p.role) (type_meant (world_of unit) p.ty)
  where
    by : (b : Bool) (m : Meaning) → b ≡ true → m ≡ Elementary p.ty
        → length (cond b (elim m as (λ (x : Meaning). List Lying) [ Elementary t ↦ (in_lower_case p.name ∷ [], t) ∷ [] | Composed vs ↦ behind (in_lower_case p.name) (places inner_depth (world_of unit) vs) ]) []) ≡ 1
    by b m e f = rw (e, f) refl

-- the leaves before the pin of a name, and all where there is none
leaf_from : (unit : List PouText) (name : List ℕ) (i : ℕ) (ps : List Pin)
    → unwrap_or (position_from (λ (p : Pin). same_name p.name name) i ps) (i + length ps) ≡ i + leaf_number unit (in_lower_case name) (map pin_variable ps)
leaf_from unit name i [] = refl
leaf_from unit name i (p ∷ ps) = by (same_name p.name name) (leaf_from unit name (i + 1) ps)
  where
    rest : ℕ
    rest = leaf_number unit (in_lower_case name) (map pin_variable ps)

    by : (b : Bool) → unwrap_or (position_from (λ (q : Pin). same_name q.name name) (i + 1) ps) (i + 1 + length ps) ≡ i + 1 + rest
        → unwrap_or (cond b (Some i) (position_from (λ (q : Pin). same_name q.name name) (i + 1) ps)) (i + suc (length ps)) ≡ i + cond b 0 (leaf_count unit (pin_variable p) + rest)
    by true h = omega arith
    by false h =
        let count : i + suc (length ps) ≡ i + 1 + length ps = omega arith in
        let more : i + 1 + rest ≡ i + (1 + rest) = omega arith in
        ap (unwrap_or (position_from (λ (q : Pin). same_name q.name name) (i + 1) ps)) count ∙ h ∙ more ∙ ap (λ n. i + (n + rest)) (sym (one_leaf unit p))

pub pin_leaf : (unit : List PouText) (name : List ℕ) (ps : List StdPin)
    → unwrap_or (position (λ (p : StdPin). same_name (shown p).name name) ps) (length ps) ≡ leaf_number unit (in_lower_case name) (map pin_variable (map shown ps))
pin_leaf unit name ps =
    let zero_more : 0 + leaf_number unit (in_lower_case name) (map pin_variable (map shown ps)) ≡ leaf_number unit (in_lower_case name) (map pin_variable (map shown ps)) = omega arith in
    ap₂ unwrap_or (position_from-zero (λ (p : StdPin). same_name (shown p).name name) ps ∙ sym (place_map (λ (p : Pin). same_name p.name name) shown 0 ps)) (sym (as_many ps)) ∙ leaf_from unit name 0 (map shown ps) ∙ zero_more
  where
    as_many : (qs : List StdPin) → 0 + length (map shown qs) ≡ length qs
    as_many [] = refl
    as_many (q ∷ qs) = let h = as_many qs in omega arith

-- ---- the pin itself

found_pin : (b : Bool) (p : Pin) (o : Option Variable) (q : Option Pin) → o ≡ option_map pin_variable q → cond b (Some (pin_variable p)) o ≡ option_map pin_variable (cond b (Some p) q)
found_pin true p o q h = refl
found_pin false p o q h = h

named_pin : (name : List ℕ) (ps : List Pin) → variable_named (in_lower_case name) (map pin_variable ps) ≡ option_map pin_variable (find (λ (p : Pin). same_name p.name name) ps)
named_pin name [] = refl
named_pin name (p ∷ ps) = found_pin (same_name p.name name) p _ _ (named_pin name ps)

pub pin_is : (name : List ℕ) (ps : List StdPin) (o : Option StdPin) → o ≡ find (λ (p : StdPin). same_name (shown p).name name) ps
    → variable_named (in_lower_case name) (map pin_variable (map shown ps)) ≡ option_map pin_variable (option_map shown o)
pin_is name ps o e =
    named_pin name (map shown ps) ∙ ap (option_map pin_variable) (find_map shown (λ (p : Pin). same_name p.name name) ps ∙ ap (option_map shown) (sym e))
