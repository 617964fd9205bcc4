-- What becomes of retained values where a program changes: of each retained leaf of its new layout, and which values are lost.
use Rattle.std.specs.Prelude.{ℕ, ◌+◌, ◌++◌, Bool, true, false, not, ◌&&◌, List, [], ◌∷◌, Option, Some, None, slice_get, if◌then◌else◌}
use Rattle.std.specs.List.{list_any}
use Rattle.std.specs.Option.{option_and_then}
use Rattle.plcx_types.specs.declared.ty.Ty.{Ty}
use Rattle.plcx_types.specs.Literal.{value}
use Rattle.plcx_types.specs.Range.{fits}
use Rattle.plcx_types.specs.TypeName.{same_ty}
use Rattle.plcx_types.specs.Value.{Value}
use Rattle.plcx_funcs.specs.Types.{is_whole}
use Rattle.plcx_meaning.specs.Base.{Path, same_path}
use Rattle.plcx_state.specs.declared.layout.Leaf.{Leaf}
use Rattle.plcx_state.specs.Layouts.{meant_path, leaf_at, is_kept}
use Rattle.plcx_keep.specs.declared.carry.Fate.{Fate}
use Rattle.plcx_keep.specs.declared.carry.Fate.TheVariants.{Kept, Changed, Fresh}
use Rattle.plcx_keep.specs.declared.carry.CarryRow.{CarryRow}
use Rattle.plcx_keep.specs.declared.carry.Lost.{Lost}
use Rattle.plcx_keep.specs.declared.carry.Carry.{Carry}

-- the value that a retained state has for the leaf of a number
abbrev pub value_of : List (Option Value) → ℕ → Option Value
value_of kept number = option_and_then (λ (v : Option Value). v) (slice_get kept number)

-- the value that it has for the leaf at a path, if there is such a leaf
abbrev pub value_at : List Leaf → List (Option Value) → Path → Option Value
value_at leaves kept p = option_and_then (value_of kept) (leaf_at p leaves)

-- the number of an old value is one of the new type; both are types of whole numbers
abbrev pub can_change : Value → Ty → Bool
can_change old t = is_whole old.ty && (is_whole t && fits t old.n)

-- the leaf of this number has this fate, and then this value
abbrev pub row : ℕ → Fate → Value → CarryRow
row number fate v = record { leaf = number; fate = fate; value = v }

-- what becomes of a leaf, by the old value at its path: it is kept where that is of its type, changed where the types differ and
-- the number can be one of its type, and else fresh
abbrev pub row_of : ℕ → Leaf → Option Value → CarryRow
row_of number leaf None = row number Fresh leaf.initial
row_of number leaf (Some old) = if same_ty old.ty leaf.ty then row number Kept old
    else (if can_change old leaf.ty then row number Changed (value leaf.ty old.n) else row number Fresh leaf.initial)

-- the row of a leaf whose value is part of a retained state, where old has the old value at each path
abbrev pub row_if_kept : (Path → Option Value) → ℕ → Leaf → List CarryRow
row_if_kept old number leaf = if is_kept leaf then row_of number leaf (old (meant_path leaf.path)) ∷ [] else []

-- the rows of leaves in order, which are counted from a number on
abbrev pub rows_from : (Path → Option Value) → ℕ → List Leaf → List CarryRow
rows_from old number [] = []
rows_from old number (leaf ∷ leaves) = row_if_kept old number leaf ++ rows_from old (number + 1) leaves

-- what is kept or changed has its value from the old state
abbrev pub is_from_old : Fate → Bool
is_from_old Kept = true
is_from_old Changed = true
is_from_old Fresh = false

-- the new leaf has this path, and is kept or changed from this value
abbrev pub is_carried_to : Path → Value → Leaf → Bool
is_carried_to p old leaf = same_path p (meant_path leaf.path) && (is_kept leaf && is_from_old (row_of 0 leaf (Some old)).fate)

-- the old value at a path is lost: no new leaf is kept or changed from it
abbrev pub is_lost : List Leaf → Path → Value → Bool
is_lost after p old = not (list_any (is_carried_to p old) after)

-- the old value of the leaf of this number is lost
abbrev pub lost_value : ℕ → Value → Lost
lost_value number v = record { leaf = number; value = v }

-- the value that the old state has for the leaf of a number, where there is one and it is lost
abbrev pub lost_if : List Leaf → ℕ → Leaf → Option Value → List Lost
lost_if after number leaf None = []
lost_if after number leaf (Some old) = if is_lost after (meant_path leaf.path) old then lost_value number old ∷ [] else []

-- the lost values of leaves in order, which are counted from a number on
abbrev pub lost_from : List Leaf → List (Option Value) → ℕ → List Leaf → List Lost
lost_from after kept number [] = []
lost_from after kept number (leaf ∷ leaves) = lost_if after number leaf (value_of kept number) ++ lost_from after kept (number + 1) leaves

-- what becomes of a retained state of one layout in another: rows in the order of the new one, lost values in that of the old one
abbrev pub carry_of : List Leaf → List (Option Value) → List Leaf → Carry
carry_of before kept after = record { rows = rows_from (value_at before kept) 0 after; lost = lost_from after kept 0 before }
