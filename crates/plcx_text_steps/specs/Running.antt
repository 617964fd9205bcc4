-- How the code of a scan comes out, in the words of the numbered meaning, and what it may presume.
use Rattle.std.specs.Prelude.{◌≡◌, ℕ, ◌+◌, ◌≤◌, List, Some, length, slice_get, slice_range}
use Rattle.std.specs.declared.result.Result.{Result}
use Rattle.std.specs.declared.result.Result.TheVariants.{Ok, Err}
use Rattle.plcx_types.specs.Value.{Value}
use Rattle.plcx_meaning.specs.Base.{Outcome, Ended, Stopped}
use Rattle.plcx_steps.specs.declared.program.Operand.{Operand}
use Rattle.plcx_steps.specs.declared.program.Body.{Body}
use Rattle.plcx_steps.specs.declared.program.Program.{Program}
use Rattle.plcx_steps.specs.declared.program.Instance.{Instance}
use Rattle.plcx_steps.specs.declared.state.State.{State}
use Rattle.plcx_steps.specs.declared.state.Stop.{Stop}
use Rattle.plcx_steps.specs.declared.acting.Spot.{Spot}
use Rattle.plcx_steps.specs.Running.{cause_of}
use Rattle.plcx_steps.specs.Sound.{most_inputs, Enters, HasRoom}
use Rattle.plcx_steps.specs.Typed.{Shape, SameTypes, HasTypes, IsTypedEntry}
use Rattle.plcx_text_steps.specs.declared.text.Line.{Line}
use Rattle.plcx_text_steps.specs.declared.text.Entry.{Entry}
use Rattle.plcx_text_steps.specs.declared.text.Text.{Text}
use Rattle.plcx_text_steps.specs.Numbered.{Numbers, inner}
use Rattle.plcx_text_steps.specs.Sound.{Begins, IsSound}
use Rattle.plcx_text_steps.specs.Typed.{IsTypedLine, AreTypedLines, IsTyped}

-- the numbers of a state
abbrev pub numbers : State → Numbers
numbers s = record { values = s.store.values; memories = s.store.memories; left = s.left }

-- what code tells, as an outcome
abbrev pub outcome : {L : Type 0} → Result (Unit {0}) Stop → L → Numbers → Outcome Numbers L
outcome (Ok u) local n = Ended n local
outcome (Err e) local n = Stopped (cause_of e) n

-- The numbers of the text are sound; the body is that of the spot's POU, which has room at its instance; its wires are there, and those of other bodies and
-- what in-outs stand for below it; and there is room for the inputs of functions.
pub record IsAt (text : Text) (spot : Spot) (owner : Body) (state : State) (own : List Value) (below below_in_outs : ℕ) : Type 0 where
  pub sound : IsSound spot.program.now text
  pub body : slice_get spot.program.now.bodies.items spot.pou ≡ Some owner
  pub room : HasRoom owner spot.at spot.in_outs.now (length state.store.values) (length state.store.memories)
  pub width : length own ≡ owner.width
  pub frame : owner.first_wire ≤ below
  pub in_out_frame : owner.first_in_out ≤ below_in_outs
  pub inputs : most_inputs ≤ length state.inputs.items

-- the types of the text, of the instance at a spot, and of its wires
pub record IsTypedAt (text : Text) (spot : Spot) (values memories wires : List Value) : Type 0 where
  pub shapes : List Shape
  pub shape : Shape
  pub entry : Entry
  pub has_shape : slice_get shapes spot.pou ≡ Some shape
  pub begins : slice_get text.entries.items spot.pou ≡ Some entry
  pub typed : IsTyped shapes spot.program.now text
  pub types : HasTypes shape spot.at spot.in_outs.now values memories
  pub wires_typed : SameTypes entry.wires.items wires

-- and of a line, and of lines
pub record LineTyped (text : Text) (spot : Spot) (values memories wires : List Value) (l : Line) : Type 0 where
  pub spot_typed : IsTypedAt text spot values memories wires
  pub line : IsTypedLine spot_typed.shapes spot.program.now spot_typed.shape spot_typed.entry.wires.items l

pub record LinesTyped (text : Text) (spot : Spot) (values memories wires : List Value) (ls : List Line) : Type 0 where
  pub spot_typed : IsTypedAt text spot values memories wires
  pub lines : AreTypedLines spot_typed.shapes spot.program.now spot_typed.shape spot_typed.entry.wires.items ls

-- a call of a POU as an inner instance, with the operands that its in-outs are bound to
pub record IsCall (text : Text) (spot : Spot) (owner : Body) (depth pou : ℕ) (at : Instance) (bindings : List Operand) (values memories wires : List Value) : Type 0 where
  pub leaves : ℕ
  pub first : ℕ
  pub count : ℕ
  pub is_inner : at ≡ inner spot.at leaves
  pub are_bindings : bindings ≡ slice_range spot.program.now.bindings.items first (first + count)
  pub enters : Enters spot.program.now owner pou leaves 0 first count
  pub begins : Begins text depth pou
  pub spot_typed : IsTypedAt text spot values memories wires
  pub entry : IsTypedEntry spot_typed.shapes spot.program.now spot_typed.shape pou leaves 0 first count

-- the POU of a number has its types at a place
pub record StandsTyped (program : Program) (text : Text) (pou : ℕ) (at : Instance) (in_outs : List ℕ) (values memories : List Value) : Type 0 where
  pub shapes : List Shape
  pub shape : Shape
  pub is : slice_get shapes pou ≡ Some shape
  pub typed : IsTyped shapes program text
  pub types : HasTypes shape at in_outs values memories
