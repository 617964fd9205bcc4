-- A store between two scans: its values are the state of the diagram.
use Rattle.std.specs.Prelude.{◌≡◌, ℕ, Bool, true, false, List, slice_set}
use Rattle.std.specs.List.{fold}
use Rattle.std.specs.declared.result.Result.{Result}
use Rattle.std.specs.declared.result.Result.TheVariants.{Ok, Err}
use Rattle.plcx_types.specs.Value.{Value}
use Rattle.plcx_meaning.specs.Diagram.{Pou, Project}
use Rattle.plcx_meaning.specs.Evaluate.{Heard, DiagramState, diagram_machine}
use Rattle.plcx_meaning.specs.Run.{Event, Told, TheEnd, TheStop, Side, tells, after}
use Rattle.plcx_meaning.specs.Watch.{heard_at}
use Rattle.plcx_state.specs.Stores.{Stored}
use Rattle.plcx_scan.specs.declared.event.Input.{Input}
use Rattle.plcx_steps.specs.declared.state.Stop.{Stop}
use Rattle.plcx_steps.specs.Running.{cause_of}
use Rattle.plcx_numbered.specs.Agreeing.{Holds, plain_path, plain_cell}
use Rattle.plcx_numbered.specs.Numbers.{shape_of}

-- a store has the value of each leaf and of each memory of the program that the diagram has
pub record AgreesWith (project : Project) (p : Pou) (d : DiagramState) (s : Stored) : Type 0 where
  pub store : Holds plain_path (shape_of project p).paths d.store s.values
  pub memories : Holds plain_cell (shape_of project p).cells (λ c. d.memories c.0 c.1) s.memories

-- an input is set
abbrev pub with_input : List Value → Input → List Value
with_input values input = slice_set values input.leaf input.value

-- and inputs, one after another
abbrev pub with_inputs : List Input → List Value → List Value
with_inputs inputs values = fold with_input values inputs

-- how a scan of what is prepared came out, as it is told
abbrev pub told_by : Result (Unit {0}) Stop → Told
told_by (Ok u) = TheEnd
told_by (Err stop) = TheStop (cause_of stop)

-- it stopped before its end, which halts a side
abbrev pub is_stopped : Result (Unit {0}) Stop → Bool
is_stopped (Ok u) = false
is_stopped (Err stop) = true

-- A scan over a store is that of a side of the diagram: it is told alike, and behind it the side is halted or not, the store agrees with the side's state,
-- and a watch has heard what is heard of the diagram.
pub record IsScanOf {M : Type 0} (project : Project) (p : Pou) (turns : ℕ) (e : Event) (g : Side DiagramState) (tell : M → Heard → M)
    (result : Result (Unit {0}) Stop) (new : Stored) (before behind : M) : Type 0 where
  pub told : tells (diagram_machine project p) turns e g ≡ told_by result
  pub agrees : AgreesWith project p (after (diagram_machine project p) turns e g).state new
  pub halted : (after (diagram_machine project p) turns e g).halted ≡ is_stopped result
  pub heard : behind ≡ fold tell before (heard_at project p turns e g)
