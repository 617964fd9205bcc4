-- The run of the tasks of a file's resource: what it comes to.
use Rattle.std.specs.Prelude.{ℕ, List, Option, Result, Ok, Err, ⊤}
use Rattle.plcx_xml.specs.declared.tree.Node.{Node}
use Rattle.plcx_xml.specs.declared.tree.Node.TheOpen.{Node-F}
use Rattle.plcx_xml.specs.declared.tree.Element.{Element}
use Rattle.plcx_meaning.specs.Diagram as diagram
use Rattle.plcx_model.specs.declared.project.Project.{Project}
use Rattle.plcx_words.specs.Command.{TaskRun}
use Rattle.plcx_state.specs.Layouts.{Laid}
use Rattle.plcx_simulate.specs.Programs.{programs_of}
use Rattle.plcx_tasks.specs.declared.planning.TaskPlan.{TaskPlan}
use Rattle.plcx_ticked.specs.Files.{IsWrongRow}
use Rattle.plcx_ticked.specs.Cycles.{AreOwned, Cycles}
use Rattle.plcx_plan.specs.Plans.{StandsForPlan, IsFaultOf}
use Rattle.plcx_cycle.specs.declared.error.CycleError.{CycleError}
use Rattle.plcx_cycle.specs.declared.error.CycleError.TheVariants.{Tasks, TicksRead, Row, NoMemory}

-- a tree has a plan, each of whose instances has its program among the diagrams
pub record IsPlanned (root : Node-F Node Element) (project : Project) (diagrams : diagram.Project) : Type 0 where
  pub plan : TaskPlan
  pub is : StandsForPlan root project plan
  pub lays : List Laid
  pub owned : AreOwned (programs_of diagrams) plan lays

-- the run leaves this text, which is that of the tree's plan over the file of ticks
pub record IsCycled (told : List ℕ → Option (List ℕ)) (root : Node-F Node Element) (project : Project) (diagrams : diagram.Project) (r : TaskRun) (text : List ℕ) : Type 0 where
  pub plan : TaskPlan
  pub is : StandsForPlan root project plan
  pub cycles : Cycles (told r.ticks) (programs_of diagrams) r.turns plan text

-- Why a run leaves no text: what comes first of tasks that are wrong, a file of ticks that can't be read, and such a file that is wrong at a row; want of
-- memory at any time.
abbrev pub WhyNotCycled : (List ℕ → Option (List ℕ)) → Type 0 → Node-F Node Element → Project → diagram.Project → TaskRun → CycleError → Type 0
WhyNotCycled told rose root project diagrams r (Tasks kind at) = IsFaultOf root project kind at
WhyNotCycled told rose root project diagrams r TicksRead = IsPlanned root project diagrams × rose
WhyNotCycled told rose root project diagrams r (Row row) = (p : IsPlanned root project diagrams) × IsWrongRow (told r.ticks) p.plan p.lays row
WhyNotCycled told rose root project diagrams r NoMemory = ⊤

-- what a run comes to: its text, or why there is none
abbrev pub ComesTo : (List ℕ → Option (List ℕ)) → Type 0 → Node-F Node Element → Project → diagram.Project → TaskRun → Result (List ℕ) CycleError → Type 0
ComesTo told rose root project diagrams r (Ok text) = IsCycled told root project diagrams r text
ComesTo told rose root project diagrams r (Err e) = WhyNotCycled told rose root project diagrams r e
