-- Serves proofs: initial values that are of their variables' types.
use Rattle.std.specs.Prelude.{◌≡◌, List, Some}
use Rattle.plcx_types.specs.declared.ty.Ty.{Ty}
use Rattle.plcx_types.specs.Lists.{Each}
use Rattle.plcx_types.specs.Range.{InRange}
use Rattle.plcx_conditions.specs.Placed.{Literal}
use Rattle.plcx_known.specs.declared.types.VarType.TheVariants as type
use Rattle.plcx_known.specs.Owned.{Typed}

-- the number of a literal is one of the type
abbrev pub Suits : Typed → Type 0
Suits t = (ty : Ty) (v : Literal) → t.type ≡ type.Elementary ty → t.variable.declaration.initial ≡ Some v → InRange ty v.value.n

-- so is each of some variables
abbrev pub AllSuit : List Typed → Type 0
AllSuit ts = Each Suits ts

-- and of those of all POUs
abbrev pub OwnersSuit : List (List Typed) → Type 0
OwnersSuit owners = Each AllSuit owners
