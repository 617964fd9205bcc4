-- The program of a name in a unit, its layout, and its retained states.
use Rattle.std.specs.Prelude.{◌≡◌, ℕ, true, List, Option, Some, slice_get, is_some}
use Rattle.plcx_types.specs.Value.{Value}
use Rattle.plcx_meaning.specs.Tree.{PouText}
use Rattle.plcx_meaning.specs.Execute.{program_named}
use Rattle.plcx_state.specs.Layouts.{Laid}
use Rattle.plcx_state.specs.Retains.{IsRetainedOf}
use Rattle.plcx_text_stored.specs.LaidFor.{IsLaidFor}

-- the program of a name stands at this place
pub record IsProgramAt (unit : List PouText) (name : List ℕ) (place : ℕ) : Type 0 where
  pub program : PouText
  pub named : program_named name unit ≡ Some program
  pub there : slice_get unit place ≡ Some program

-- there is a program of this name, and the layout is that program's
pub record IsLaidAs (unit : List PouText) (name : List ℕ) (l : Laid) : Type 0 where
  pub there : is_some (program_named name unit) ≡ true
  pub laid : (p : PouText) → program_named name unit ≡ Some p → IsLaidFor unit p l

-- a retained state of a program, by a layout of it
pub record IsKeptFor (unit : List PouText) (p : PouText) (kept : List (Option Value)) : Type 0 where
  pub laid : Laid
  pub is_laid : IsLaidFor unit p laid
  pub is : IsRetainedOf laid.leaves kept
