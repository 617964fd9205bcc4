-- Runs of a plan's tasks over a file of ticks: what they leave, for the programs of a file.
use Rattle.std.specs.Prelude.{◌≡◌, ℕ, List, Option, Some, map, slice_get}
use Rattle.plcx_types.specs.Lists.{Each}
use Rattle.plcx_meaning.specs.Run.{Machine, Side, begin_side}
use Rattle.plcx_meaning.specs.Traces.{lines_from}
use Rattle.plcx_state.specs.declared.layout.Leaf.{Leaf}
use Rattle.plcx_state.specs.Layouts.{Laid, IsLaid, all_meant}
use Rattle.plcx_state.specs.Retains.{Pairwise, initially_kept, kept_at}
use Rattle.plcx_scan.specs.Events.{meant_events}
use Rattle.plcx_traced.specs.Programs.{Programs}
use Rattle.plcx_tasks.specs.declared.planning.Instance.{Instance}
use Rattle.plcx_tasks.specs.declared.planning.TaskPlan.{TaskPlan}
use Rattle.plcx_tasks.specs.declared.rows.TaskRow.{TaskRow}
use Rattle.plcx_tasks.specs.declared.ticking.TaskEvent.{TaskEvent}
use Rattle.plcx_tasks.specs.Tasks.{own_events}
use Rattle.plcx_tasks.specs.Orders.{AreRowPlaces}
use Rattle.plcx_tasks.specs.Runs.{place_of, lines_of, IsTaskRow}
use Rattle.plcx_ticks.specs.Texts.{task_text}
use Rattle.plcx_ticks.specs.Ticks.{AreNamedApart, HasPlainLeaves}
use Rattle.plcx_ticked.specs.Files.{TellsTicks}

-- an instance has its program, whose leaves are numbered
pub record IsOwned {P G : Type 0} (ps : Programs P G) (x : Instance) (l : Laid) : Type 0 where
  pub program : P
  pub is : ps.named x.program ≡ Some program
  pub is_laid : IsLaid l
  pub leaves_are : all_meant l.leaves ≡ (ps.machine program).layout

-- a side with these leaves before its first event: they have their initial values
abbrev pub begun : {G : Type 0} → Machine G → List Leaf → Side G
begun m leaves = begin_side m (kept_at leaves (initially_kept leaves))

-- the rows of an instance have the lines of its own list of events alone, as its program leaves them
abbrev pub HasOwnLines : {P G : Type 0} → Programs P G → (turns : ℕ) → TaskPlan → List TaskEvent → List TaskRow → (place : ℕ) → Instance → Laid → Type 0
HasOwnLines {P} {G} ps turns plan events rows place x l = (program : P) → ps.named x.program ≡ Some program
    → lines_of place rows ≡ lines_from (ps.machine program) turns (meant_events l.leaves (own_events plan events place)) (begun (ps.machine program) l.leaves)

-- the rows of events: those that the plan orders, and each instance's are its own
pub record AreRows {P G : Type 0} (ps : Programs P G) (turns : ℕ) (plan : TaskPlan) (lays : List Laid) (events : List TaskEvent) (rows : List TaskRow) : Type 0 where
  pub places : AreRowPlaces plan events (map place_of rows)
  pub lines : (place : ℕ) (x : Instance) (l : Laid) → slice_get plan.instances place ≡ Some x → slice_get lays place ≡ Some l → HasOwnLines ps turns plan events rows place x l
  pub shown : Each (IsTaskRow lays) rows

-- the layouts of a plan's instances, each of its own program
pub record AreOwned {P G : Type 0} (ps : Programs P G) (plan : TaskPlan) (lays : List Laid) : Type 0 where
  pub owned : Pairwise (IsOwned ps) plan.instances lays

-- The run of a plan over a file of ticks leaves this text, which is that of its rows. The names of its instances differ, and those of leaves are plain, so that
-- what is printed is of one leaf of one instance.
pub record Cycles {P G : Type 0} (told : Option (List ℕ)) (ps : Programs P G) (turns : ℕ) (plan : TaskPlan) (text : List ℕ) : Type 0 where
  pub lays : List Laid
  pub owned : AreOwned ps plan lays
  pub apart : AreNamedApart plan.instances
  pub plain : Each HasPlainLeaves lays
  pub events : List TaskEvent
  pub tells : TellsTicks told plan lays events
  pub rows : List TaskRow
  pub are_rows : AreRows ps turns plan lays events rows
  pub text_is : text ≡ task_text plan lays rows
