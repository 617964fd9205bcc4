-- Serves proofs: the layouts and the sides of a plan's instances.
use Rattle.std.specs.Prelude.{◌≡◌, ℕ, List, Option, Some, length, slice_get, ⊤}
use Rattle.plcx_meaning.specs.Diagram.{Pou, Project, program_named}
use Rattle.plcx_state.specs.Layouts.{Laid, IsLaid}
use Rattle.plcx_state.specs.Retains.{initially_kept}
use Rattle.plcx_opening.specs.Opening.{IsLaidAs}
use Rattle.plcx_eval.specs.declared.side.DiagramSide.{DiagramSide}
use Rattle.plcx_eval.specs.Sides.{IsOpened}
use Rattle.plcx_simulate.specs.Programs.{programs_of}
use Rattle.plcx_tasks.specs.declared.planning.Instance.{Instance}
use Rattle.plcx_tasks.specs.declared.planning.TaskPlan.{TaskPlan}
use Rattle.plcx_ticked.specs.Files.{IsWrongRow}
use Rattle.plcx_ticked.specs.Cycles.{AreOwned}
use Rattle.plcx_cycle.specs.declared.error.CycleError.{CycleError}
use Rattle.plcx_cycle.specs.declared.error.CycleError.TheVariants.{Tasks, TicksRead, Row, NoMemory}

-- the program of an instance is among the diagrams
abbrev pub HasDiagram : Project → Instance → Type 0
HasDiagram project x = (p : Pou) × (program_named x.program project ≡ Some p)

-- the layout is that of the instance's program
pub record IsLaidOut (project : Project) (x : Instance) (l : Laid) : Type 0 where
  pub laid_as : IsLaidAs project x.program l
  pub is_laid : IsLaid l

-- each instance has its side, which is opened with initial values
pub record AreOpened (project : Project) (xs : List Instance) (lays : List Laid) (sides : List DiagramSide) : Type 0 where
  pub long : length sides ≡ length xs
  pub each : (i : ℕ) (x : Instance) (l : Laid) (s : DiagramSide) → slice_get xs i ≡ Some x → slice_get lays i ≡ Some l → slice_get sides i ≡ Some s → IsOpened project x.program (initially_kept l.leaves) s

-- a plan's instances have these leaves
abbrev pub HaveLeaves : Project → TaskPlan → Type 0
HaveLeaves project plan = (lays : List Laid) × AreOwned (programs_of project) plan lays

-- why the run of a plan leaves no text
abbrev pub WhyNotRun : Option (List ℕ) → Type 0 → Project → TaskPlan → CycleError → Type 0
WhyNotRun told rose project plan (Tasks kind at) = ⊥
WhyNotRun told rose project plan TicksRead = HaveLeaves project plan × rose
WhyNotRun told rose project plan (Row row) = (h : HaveLeaves project plan) × IsWrongRow told plan h.0 row
WhyNotRun told rose project plan NoMemory = ⊤
