-- What the tables of a unit tell of the names in the body of a POU.
use Rattle.std.specs.Prelude.{◌≡◌, ◌<◌, ℕ, true, List, [], Option, Some, None, length, map, slice_get}
use Rattle.plcx_types.specs.declared.ty.Ty.{Ty}
use Rattle.plcx_types.specs.declared.ty.Ty.TheVariants as ty
use Rattle.plcx_types.specs.Name.{in_lower_case}
use Rattle.plcx_std.specs.declared.kind.StdKind.{StdKind}
use Rattle.plcx_std.specs.declared.kind.StdKind.TheVariants as kind
use Rattle.plcx_std.specs.Kind.{kind_named}
use Rattle.plcx_meaning.specs.Base.{are_distinct}
use Rattle.plcx_meaning.specs.Tree.{Class, Input, Output, InOut, FunctionBlock, PouText}
use Rattle.plcx_meaning.specs.Layout.{Variable, variable_named}
use Rattle.plcx_meaning.specs.Execute.{Formal, Takes, Binds, NoFormal, formal, world_of}
use Rattle.plcx_meaning.specs.Typed.{member_type}
use Rattle.plcx_st.specs.declared.tree.PouText as code
use Rattle.plcx_st.specs.Meant.{pou_meant}
use Rattle.plcx_known.specs.declared.types.VarType.{VarType}
use Rattle.plcx_known.specs.declared.types.VarType.TheVariants as type
use Rattle.plcx_known.specs.Types.{parts_of}
use Rattle.plcx_numbered.specs.Numbers.{in_out_names}
use Rattle.plcx_text_numbered.specs.Prepared.{or_bool}
use Rattle.plcx_text_numbered.specs.Numbers.{leaf_number, place_named}
use Rattle.plcx_text_pieces.specs.Called.{Callee, Block, User, Numbers, numbers_of}
use Rattle.plcx_text_order.specs.Made.{owner}
use Rattle.plcx_text_lines.specs.declared.numbers.Part.{Part}
use Rattle.plcx_text_lines.specs.Shown.{shown_formal}
use Rattle.plcx_text_tables.specs.Tabled.{Numbered, Shown, type_in}
use Rattle.plcx_text_tables.specs.Laws.{IsTableOf}

-- a POU of nothing
abbrev pub no_pou : PouText
no_pou = record { kind = FunctionBlock; name = []; blocks = []; body = [] }

abbrev pub pou_or : Option PouText → PouText
pou_or o = elim o [ Some p ↦ p | None ↦ no_pou ]

-- the POU at a place
abbrev pub pou_at : List PouText → ℕ → PouText
pou_at unit place = pou_or (slice_get unit place)

-- the numbers that the body of the POU at a place uses
abbrev pub numbers_at : List PouText → ℕ → Numbers
numbers_at unit place = numbers_of (owner unit place (pou_at unit place))

-- no two POUs have one name, and one is at the place
abbrev pub IsThere : List code.PouText → ℕ → Type 0
IsThere pous place = (are_distinct (map (λ (p : PouText). in_lower_case p.name) (map pou_meant pous)) ≡ true) × (place < length pous)

-- the table of the POU at a place
pub record IsTableAt (unit : List PouText) (place : ℕ) (t : Shown) : Type 0 where
  pub pou : PouText
  pub there : slice_get unit place ≡ Some pou
  pub table : IsTableOf unit pou t

-- the names of the in-outs of a table, if there is one
abbrev pub in_outs_or : Option Shown → List (List ℕ)
in_outs_or None = []
in_outs_or (Some t) = t.in_outs

-- the type of the variable that was found, where that is no instance
abbrev pub type_found : Option Numbered → Ty
type_found None = ty.Bool
type_found (Some n) = type_in n.type

-- the type of what can be read of an instance: of an output
abbrev pub class_read : Class → Ty → Ty
class_read class t = elim class [ Output ↦ t | _ ↦ ty.Bool ]

-- where it is elementary
abbrev pub type_read : Class → VarType → Ty
type_read class type.Unknown = ty.Bool
type_read class (type.Elementary t) = class_read class t
type_read class (type.Standard k) = ty.Bool
type_read class (type.Block place) = ty.Bool

-- a variable of an elementary type as a formal name
abbrev pub formal_class : Class → Ty → Formal
formal_class class t = elim class [ Input ↦ Takes t | InOut ↦ Binds t | _ ↦ NoFormal ]

-- and one of any type
abbrev pub formal_type : Class → VarType → Formal
formal_type class type.Unknown = NoFormal
formal_type class (type.Elementary t) = formal_class class t
formal_type class (type.Standard k) = NoFormal
formal_type class (type.Block place) = NoFormal

-- what can be read of the variable that was found in an instance
abbrev pub read_found : Option Numbered → Ty
read_found None = ty.Bool
read_found (Some n) = type_read n.class n.type

-- and what it is as a formal name
abbrev pub formal_found : Option Numbered → Formal
formal_found None = NoFormal
formal_found (Some n) = formal_type n.class n.type

-- what a name leads to among the variables of an instance, whose first leaf is 0
pub record IsPartOf (unit : List PouText) (vs : List Variable) (name : List ℕ) (p : Part) : Type 0 where
  pub leaf : p.leaf ≡ leaf_number unit (in_lower_case name) vs
  pub ty : p.ty ≡ or_bool (member_type (world_of unit) (variable_named (in_lower_case name) vs))
  pub formal : shown_formal p.formal ≡ formal (world_of unit) (variable_named (in_lower_case name) vs)

-- what the variable of these numbers calls
abbrev pub called_by : List PouText → Numbered → Option StdKind → Callee
called_by unit n (Some k) = Block k n.leaf
called_by unit n None = User (place_named n.named unit) n.leaf (in_out_names (parts_of unit n.type))

-- and the variable that was found
abbrev pub called : List PouText → Option Numbered → Callee
called unit None = Block kind.Ton 0
called unit (Some n) = called_by unit n (kind_named n.named)
