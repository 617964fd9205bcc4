-- Laws of carrying: from a layout to itself, and over two changes in a row.
use Rattle.std.specs.Prelude.{◌≡◌, ℕ, List, [], Option, Some, slice_get}
use Rattle.plcx_types.specs.Lists.{Each}
use Rattle.plcx_types.specs.Value.{Value}
use Rattle.plcx_meaning.specs.Base.{Path}
use Rattle.plcx_state.specs.declared.layout.Leaf.{Leaf}
use Rattle.plcx_state.specs.Layouts.{meant_path}
use Rattle.plcx_keep.specs.declared.carry.Fate.TheVariants.{Kept}
use Rattle.plcx_keep.specs.declared.carry.CarryRow.{CarryRow}
use Rattle.plcx_keep.specs.Carries.{carry_of, value_at}
use Rattle.plcx_keep.specs.States.{IsCarried}

-- from a layout to itself each leaf is kept and no value is lost, and the rows make the same state
pub record IsUnchanged (leaves : List Leaf) (kept : List (Option Value)) : Type 0 where
  pub rows : Each (λ (row : CarryRow). row.fate ≡ Kept) (carry_of leaves kept leaves).rows
  pub lost : (carry_of leaves kept leaves).lost ≡ []
  pub state : (more : List (Option Value)) → IsCarried leaves (carry_of leaves kept leaves).rows more → more ≡ kept

-- a row keeps the leaf at this path, and its value is this one
pub record KeepsAt (leaves : List Leaf) (rows : List CarryRow) (p : Path) (v : Value) : Type 0 where
  pub place : ℕ
  pub row : CarryRow
  pub there : slice_get rows place ≡ Some row
  pub leaf : Leaf
  pub leaf_is : slice_get leaves row.leaf ≡ Some leaf
  pub path : meant_path leaf.path ≡ p
  pub kept : row.fate ≡ Kept
  pub value : row.value ≡ v

-- a leaf that is kept from a state of the first layout in the middle one, and from there in the last one, has its first value
unfoldable pub KeepsTwice : List Leaf → List Leaf → List Leaf → List (Option Value) → List (Option Value) → Type 0
KeepsTwice before middle after kept more = (p : Path) (v w : Value) → KeepsAt middle (carry_of before kept middle).rows p v → KeepsAt after (carry_of middle more after).rows p w
    → (w ≡ v) × (value_at before kept p ≡ Some w)
