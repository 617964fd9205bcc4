-- The program of a name in a project, its layout, and its retained states.
use Rattle.std.specs.Prelude.{◌≡◌, ℕ, true, List, Option, Some, slice_get, is_some}
use Rattle.plcx_types.specs.Value.{Value}
use Rattle.plcx_meaning.specs.Diagram.{Pou, Project, program_named}
use Rattle.plcx_state.specs.Layouts.{Laid}
use Rattle.plcx_state.specs.Retains.{IsRetainedOf}
use Rattle.plcx_stored.specs.LaidFor.{IsLaidFor}

-- the program of a name stands at this place
pub record IsProgramAt (project : Project) (name : List ℕ) (place : ℕ) : Type 0 where
  pub program : Pou
  pub named : program_named name project ≡ Some program
  pub there : slice_get project place ≡ Some program

-- there is a program of this name, and the layout is that program's
pub record IsLaidAs (project : Project) (name : List ℕ) (l : Laid) : Type 0 where
  pub there : is_some (program_named name project) ≡ true
  pub laid : (p : Pou) → program_named name project ≡ Some p → IsLaidFor project p l

-- a retained state of a program, by a layout of it
pub record IsKeptFor (project : Project) (p : Pou) (kept : List (Option Value)) : Type 0 where
  pub laid : Laid
  pub is_laid : IsLaidFor project p laid
  pub is : IsRetainedOf laid.leaves kept
