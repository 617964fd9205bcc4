-- What the name of a type stands for, by the places of POUs.
use Rattle.std.specs.Prelude.{ℕ, List, [], Option, Some, None, slice_get}
use Rattle.std.specs.List.{position_from}
use Rattle.plcx_types.specs.TypeName.{type_named}
use Rattle.plcx_std.specs.Kind.{kind_named}
use Rattle.plcx_meaning.specs.Tree.{PouText}
use Rattle.plcx_meaning.specs.Layout.{Variable, variables_of, Meaning, Elementary, Composed}
use Rattle.plcx_meaning.specs.Standard.{pin_blocks}
use Rattle.plcx_conditions.specs.Known.{same_name, block_alone}
use Rattle.plcx_known.specs.declared.types.VarType.{VarType}
use Rattle.plcx_known.specs.declared.types.VarType.TheVariants as type

-- the place of the first POU of a name, whatever its kind
abbrev pub place_named : List ℕ → List PouText → Option ℕ
place_named name unit = position_from (λ (p : PouText). same_name p.name name) 0 unit

-- the function block at a place
abbrev pub block_at : List PouText → ℕ → Option PouText
block_at unit place = block_alone (slice_get unit place)

-- what the POU at a place is as a type
abbrev pub block_type : List PouText → Option ℕ → VarType
block_type unit None = type.Unknown
block_type unit (Some place) = elim (block_at unit place) [ None ↦ type.Unknown | Some p ↦ type.Block place ]

-- what is none of the elementary types
abbrev pub composed_type : List PouText → List ℕ → VarType
composed_type unit name = elim (kind_named name) [ Some k ↦ type.Standard k | None ↦ block_type unit (place_named name unit) ]

-- What the name of a type stands for. Elementary types come first, then standard blocks, also where a POU bears their name.
abbrev pub type_of : List PouText → List ℕ → VarType
type_of unit name = elim (type_named name) [ Some t ↦ type.Elementary t | None ↦ composed_type unit name ]

-- the function block of the unit that it is
abbrev pub block_of : List PouText → VarType → Option PouText
block_of unit type.Unknown = None
block_of unit (type.Elementary t) = None
block_of unit (type.Standard k) = None
block_of unit (type.Block place) = slice_get unit place

-- the variables of a POU, where there is one
abbrev pub variables_in : Option PouText → List Variable
variables_in None = []
variables_in (Some p) = variables_of p.blocks

-- the variables of an instance of it
abbrev pub parts_of : List PouText → VarType → List Variable
parts_of unit type.Unknown = []
parts_of unit (type.Elementary t) = []
parts_of unit (type.Standard k) = variables_of (pin_blocks k)
parts_of unit (type.Block place) = variables_in (slice_get unit place)

-- what it means, where it is known
abbrev pub meaning_of : List PouText → VarType → Option Meaning
meaning_of unit type.Unknown = None
meaning_of unit (type.Elementary t) = Some (Elementary t)
meaning_of unit (type.Standard k) = Some (Composed (parts_of unit (type.Standard k)))
meaning_of unit (type.Block place) = Some (Composed (parts_of unit (type.Block place)))
