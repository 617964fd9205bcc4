-- The variables of instances.
use Rattle.std.specs.Prelude.{ℕ, List, None, map}
use Rattle.std.specs.List.{filter}
use Rattle.plcx_types.specs.TypeName.{type_name}
use Rattle.plcx_std.specs.declared.pin.Role.{Role}
use Rattle.plcx_std.specs.declared.pin.Role.TheVariants as role
use Rattle.plcx_std.specs.Pins.{Pin}
use Rattle.plcx_meaning.specs.Tree.{Class, Local, Input, Output, Plain, PouText}
use Rattle.plcx_meaning.specs.Layout.{Variable}
use Rattle.plcx_conditions.specs.Placed.{Pou, bare}
use Rattle.plcx_conditions.specs.Known.{seen_in}
use Rattle.plcx_conditions.specs.Statements.{is_in_out}
use Rattle.plcx_known.specs.declared.types.VarType.{VarType}
use Rattle.plcx_known.specs.Types.{parts_of}
use Rattle.plcx_known.specs.Owned.{Typed, own_of}

-- the variables of each POU of a unit
abbrev pub owners_of : List Pou → List (List Typed)
owners_of unit = map (own_of (bare unit)) unit

-- the names of variables that lead to in-outs
abbrev pub in_outs_among : List PouText → List Variable → List (List ℕ)
in_outs_among unit vs = map (λ (v : Variable). v.name) (filter (λ (v : Variable). is_in_out (seen_in unit vs v.name)) vs)

-- those of an instance of a type
abbrev pub in_outs_of : List PouText → VarType → List (List ℕ)
in_outs_of unit type = in_outs_among unit (parts_of unit type)

-- ---- standard blocks

-- a pin as a variable of its block
abbrev pub role_class : Role → Class
role_class role.In = Input
role_class role.Out = Output
role_class role.Hidden = Local

abbrev pub pin_variable : Pin → Variable
pin_variable p = record { class = role_class p.role; mark = Plain; name = p.name; ty = type_name p.ty; initial = None }
