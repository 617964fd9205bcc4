-- When a program stands ready for a scan, between two events.
use Rattle.std.specs.Prelude.{◌≡◌, ◌<◌, ◌≤◌, ℕ, true, List, [], Some, get_or, length, slice_get}
use Rattle.plcx_meaning.specs.Tree.{FunctionBlock, is_program, PouText}
use Rattle.plcx_state.specs.Layouts.{Laid}
use Rattle.plcx_state.specs.Stores.{IsStoreOf}
use Rattle.plcx_steps.specs.declared.program.Body.{Body}
use Rattle.plcx_steps.specs.declared.program.Program.{Program}
use Rattle.plcx_steps.specs.declared.state.State.{State}
use Rattle.plcx_steps.specs.Sound.{most_inputs}
use Rattle.plcx_frames.specs.declared.preparing.Frame.{Frame}
use Rattle.plcx_frames.specs.Frames.{HasFrame}
use Rattle.plcx_text_steps.specs.declared.text.Text.{Text}
use Rattle.plcx_text_numbered.specs.Texts.{IsTextOf}
use Rattle.plcx_text_stored.specs.LaidFor.{IsLaidFor}

-- a POU of nothing
abbrev pub no_pou : PouText
no_pou = record { kind = FunctionBlock; name = []; blocks = []; body = [] }

-- the POU at a place
abbrev pub pou_at : List PouText → ℕ → PouText
pou_at unit place = get_or unit place no_pou

-- The POU at this place of the unit is a program, and is prepared; its layout, store, wires and in-outs are there. What is told by more than one proof is
-- only said to be so.
pub record IsStanding (unit : List PouText) (place : ℕ) (l : Laid) (program : Program) (text : Text) (state : State) (frame : Frame) : Type 0 where
  pub there : place < length unit
  pub program_there : is_program (pou_at unit place).kind ≡ true
  pub laid : ∥ IsLaidFor unit (pou_at unit place) l ∥₁
  pub prepared : ∥ IsTextOf unit program text ∥₁
  pub store : IsStoreOf l state.store
  pub inputs : most_inputs ≤ length state.inputs.items
  pub framed : (body : Body) → slice_get program.bodies.items place ≡ Some body → HasFrame body frame
