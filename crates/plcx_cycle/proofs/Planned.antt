-- The run of a plan that a root stands for.
use Rattle.std.specs.Prelude.{ℕ, List, Option}
use Rattle.plcx_xml.specs.declared.tree.Node.{Node}
use Rattle.plcx_xml.specs.declared.tree.Node.TheOpen.{Node-F}
use Rattle.plcx_xml.specs.declared.tree.Element.{Element}
use Rattle.plcx_meaning.specs.Diagram as diagram
use Rattle.plcx_model.specs.declared.project.Project.{Project}
use Rattle.plcx_words.specs.Command.{TaskRun}
use Rattle.plcx_tasks.specs.declared.planning.TaskPlan.{TaskPlan}
use Rattle.plcx_plan.specs.Plans.{StandsForPlan}
use Rattle.plcx_cycle.specs.Cycles.{WhyNotCycled}
use Rattle.plcx_cycle.specs.Sides.{WhyNotRun}
use Rattle.plcx_cycle.specs.declared.error.CycleError.{CycleError}
use Rattle.plcx_cycle.specs.declared.error.CycleError.TheVariants.{Tasks, TicksRead, Row, NoMemory}

-- where it leaves no text, so does the run of the root's tasks
pub why_cycled : (told : List ℕ → Option (List ℕ)) (rose : Type 0) (root : Node-F Node Element) (project : Project) (diagrams : diagram.Project) (r : TaskRun) (plan : TaskPlan)
    → StandsForPlan root project plan → (e : CycleError) → WhyNotRun (told r.ticks) rose diagrams plan e → WhyNotCycled told rose root project diagrams r e
why_cycled told rose root project diagrams r plan is (Tasks kind at) h = absurd h
why_cycled told rose root project diagrams r plan is TicksRead h = (record { plan = plan; is = is; lays = h.0.0; owned = h.0.1 }, h.1)
why_cycled told rose root project diagrams r plan is (Row row) h = (record { plan = plan; is = is; lays = h.0.0; owned = h.0.1 }, h.1)
why_cycled told rose root project diagrams r plan is NoMemory h = tt
