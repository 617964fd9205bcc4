-- The retained state that rows make.
use Rattle.std.specs.Prelude.{◌≡◌, ◌<◌, ◌+◌, ℕ, List, [], ◌∷◌, Option, Some, map, length, slice_get, if◌then◌else◌}
use Rattle.plcx_types.specs.Lists.{Each}
use Rattle.plcx_types.specs.Value.{Value}
use Rattle.plcx_state.specs.declared.layout.Leaf.{Leaf}
use Rattle.plcx_state.specs.Layouts.{is_kept}
use Rattle.plcx_state.specs.Retains.{IsRetainedOf}
use Rattle.plcx_keep.specs.declared.carry.CarryRow.{CarryRow}
use Rattle.plcx_keep.specs.declared.carry.Lost.{Lost}

-- the numbers of the leaves whose values are part of a retained state, counted from a number on
abbrev pub kept_from : ℕ → List Leaf → List ℕ
kept_from number [] = []
kept_from number (leaf ∷ leaves) = if is_kept leaf then number ∷ kept_from (number + 1) leaves else kept_from (number + 1) leaves

-- the row's value is of the type of its leaf
abbrev pub IsTypedRow : List Leaf → CarryRow → Type 0
IsTypedRow leaves row = (leaf : Leaf) → slice_get leaves row.leaf ≡ Some leaf → row.value.ty ≡ leaf.ty

-- there is one row for each of these leaves, in order, with a value of its type
pub record AreRowsOf (leaves : List Leaf) (rows : List CarryRow) : Type 0 where
  pub numbers : map (λ (row : CarryRow). row.leaf) rows ≡ kept_from 0 leaves
  pub typed : Each (IsTypedRow leaves) rows

-- the leaves of rows are leaves of the layout
abbrev pub AreRowsWithin : List Leaf → List CarryRow → Type 0
AreRowsWithin leaves rows = Each (λ (row : CarryRow). row.leaf < length leaves) rows

-- and so are those of lost values
abbrev pub AreLostWithin : List Leaf → List Lost → Type 0
AreLostWithin leaves all = Each (λ (lost : Lost). lost.leaf < length leaves) all

-- a state has the value of a row
abbrev pub HasRow : List (Option Value) → CarryRow → Type 0
HasRow kept row = slice_get kept row.leaf ≡ Some (Some row.value)

-- the retained state that has the value of each row
pub record IsCarried (leaves : List Leaf) (rows : List CarryRow) (kept : List (Option Value)) : Type 0 where
  pub state : IsRetainedOf leaves kept
  pub values : Each (HasRow kept) rows
