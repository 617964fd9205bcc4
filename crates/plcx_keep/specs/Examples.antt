-- Layouts and states for worked examples.
use Rattle.std.specs.Prelude.{ℕ, ℤ, pos, true, List, [], ◌∷◌, Option, Some, codes}
use Rattle.plcx_types.specs.declared.ty.Ty.{Ty}
use Rattle.plcx_types.specs.declared.ty.Ty.TheVariants.{Bool, Int}
use Rattle.plcx_types.specs.Literal.{value}
use Rattle.plcx_types.specs.Value.{Value}
use Rattle.plcx_state.specs.declared.layout.Leaf.{Leaf}
use Rattle.plcx_keep.specs.declared.carry.Fate.TheVariants.{Fresh}
use Rattle.plcx_keep.specs.declared.carry.CarryRow.{CarryRow}
use Rattle.plcx_keep.specs.declared.carry.Lost.{Lost}
use Rattle.plcx_keep.specs.declared.carry.Carry.{Carry}
use Rattle.plcx_keep.specs.Carries.{row, lost_value}

-- a retained leaf of the program itself, of this name and type, which begins with this number
abbrev pub leaf : List ℕ → Ty → ℤ → Leaf
leaf name t n = record { path = name ∷ []; ty = t; initial = value t n; retained = true; settable = true; shown = true }

-- a layout with the leaf C alone
abbrev pub alone : Ty → List Leaf
alone t = leaf (codes "C") t (pos 0) ∷ []

-- with C of type INT and a BOOL behind it
abbrev pub with_switch : List Leaf
with_switch = leaf (codes "C") Int (pos 0) ∷ leaf (codes "D") Bool (pos 0) ∷ []

-- the state of one leaf that has this value
abbrev pub only : Ty → ℤ → List (Option Value)
only t n = Some (value t n) ∷ []

-- rows and lost values
abbrev pub carry : List CarryRow → List Lost → Carry
carry rows lost = record { rows = rows; lost = lost }

-- C is fresh, and its old value is lost
abbrev pub begun_anew : Ty → Value → Carry
begun_anew t old = carry (row 0 Fresh (value t (pos 0)) ∷ []) (lost_value 0 old ∷ [])
