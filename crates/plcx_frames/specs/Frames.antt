-- Frames that have room for a body, and inputs that have a value in a store.
use Rattle.std.specs.Prelude.{◌+◌, ◌≤◌, List, length}
use Rattle.plcx_types.specs.Value.{Value}
use Rattle.plcx_state.specs.Stores.{HasValue}
use Rattle.plcx_scan.specs.declared.event.Input.{Input}
use Rattle.plcx_steps.specs.declared.program.Body.{Body}
use Rattle.plcx_frames.specs.declared.preparing.Frame.{Frame}

-- there are wires and in-outs enough for a body, and for all that it calls
pub record HasFrame (body : Body) (frame : Frame) : Type 0 where
  pub wide : body.first_wire + body.width ≤ length frame.wires.items
  pub deep : body.first_in_out ≤ length frame.in_outs.items

-- an input is of the type of its leaf
abbrev pub Puts : List Value → Input → Type 0
Puts values input = HasValue values input.leaf input.value.ty
