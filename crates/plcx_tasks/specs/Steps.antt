-- Serves proofs: a run as one list of steps, each of one instance.
use Rattle.std.specs.Prelude.{◌≡◌, ◌<◌, ◌+◌, ◌++◌, ℕ, ℤ, Bool, false, nat_eq, List, [], ◌∷◌, Option, Some, None, map, length, slice_get, slice_index_or, if◌then◌else◌}
use Rattle.std.specs.List.{flat_map}
use Rattle.plcx_types.specs.Lists.{Each}
use Rattle.plcx_types.specs.Value.{Value}
use Rattle.plcx_scan.specs.declared.event.Input.{Input}
use Rattle.plcx_state.specs.Layouts.{Laid}
use Rattle.plcx_scan.specs.Events.{Event, Scan, Warm, Cold, CanFollow}
use Rattle.plcx_tasks.specs.declared.planning.Task.{Task}
use Rattle.plcx_tasks.specs.declared.planning.Instance.{Instance}
use Rattle.plcx_tasks.specs.declared.planning.TaskPlan.{TaskPlan}
use Rattle.plcx_tasks.specs.declared.ticking.TaskInput.{TaskInput}
use Rattle.plcx_tasks.specs.declared.ticking.TaskEvent.{TaskEvent}
use Rattle.plcx_tasks.specs.declared.ticking.TaskEvent.TheVariants as event
use Rattle.plcx_tasks.specs.declared.ranking.Rank.{Rank}
use Rattle.plcx_tasks.specs.declared.clocking.Clock.{Clock}
use Rattle.plcx_tasks.specs.declared.scheduling.OwnEvent.{OwnEvent}
use Rattle.plcx_tasks.specs.declared.scheduling.OwnEvent.TheVariants as own
use Rattle.plcx_tasks.specs.declared.scheduling.Restart.{Restart}
use Rattle.plcx_tasks.specs.declared.scheduling.Restart.TheVariants as restart
use Rattle.plcx_tasks.specs.declared.scheduling.Step.{Step}
use Rattle.plcx_tasks.specs.Tasks.{is_due, last_run, runs, given, waiting}
use Rattle.plcx_tasks.specs.Orders.{ranks_of, IsInOrder}

-- an entry of a table by leaves as an input
abbrev pub entry_input : ℕ × Value → Input
entry_input e = record { leaf = e.0; value = e.1 }

-- and an entry that may be missing
abbrev pub entry_inputs : Option (ℕ × Value) → List Input
entry_inputs None = []
entry_inputs (Some e) = entry_input e ∷ []

-- a step as an event of its instance
abbrev pub event_of : OwnEvent → Event
event_of (own.Scan time inputs) = Scan time inputs
event_of (own.Again restart.Warm) = Warm
event_of (own.Again restart.Cold) = Cold

-- a restart as an event of the resource
abbrev pub restart_event : Restart → TaskEvent
restart_event restart.Warm = event.Warm
restart_event restart.Cold = event.Cold

-- a step by its parts
abbrev pub step_of : ℕ → ℕ → OwnEvent → Step
step_of number instance what = record { event = number; instance = instance; what = what }

-- what a step is to an instance
abbrev pub own_of : ℕ → Step → List Event
own_of i s = if nat_eq s.instance i then event_of s.what ∷ [] else []

-- and steps, in order
abbrev pub own_in : List Step → ℕ → List Event
own_in steps i = flat_map (own_of i) steps

-- which event a step is of, and which instance
abbrev pub step_place : Step → ℕ × ℕ
step_place s = (s.event, s.instance)

-- the scan of an instance at a tick, if the tick runs its task
abbrev pub scan_at : List Task → ℕ → ℤ → List TaskInput → List TaskEvent → Rank → List Step
scan_at tasks number time inputs before r =
    if runs tasks time before r.task then step_of number r.instance (own.Scan time (given r.instance (waiting tasks r.task r.instance before) inputs)) ∷ [] else []

-- the restart of an instance
abbrev pub restart_at : ℕ → Restart → Rank → Step
restart_at number again r = step_of number r.instance (own.Again again)

-- the steps of an event
abbrev pub steps_at : TaskPlan → List Rank → ℕ → List TaskEvent → TaskEvent → List Step
steps_at plan order number before (event.Tick time inputs) = flat_map (scan_at plan.tasks number time inputs before) order
steps_at plan order number before event.Warm = map (restart_at number restart.Warm) (ranks_of plan)
steps_at plan order number before event.Cold = map (restart_at number restart.Cold) (ranks_of plan)

-- and of events, which are numbered from a number on, behind others
abbrev pub steps_from : TaskPlan → List Rank → ℕ → List TaskEvent → List TaskEvent → List Step
steps_from plan order number before [] = []
steps_from plan order number before (e ∷ es) = steps_at plan order number before e ++ steps_from plan order (number + 1) (e ∷ before) es

-- the clock of a task after events
abbrev pub clock_at : List TaskEvent → Task → Clock
clock_at before task = record { interval = task.interval; last = last_run task.interval before }

-- a clock says that its task is due
abbrev pub is_clock_due : ℤ → Clock → Bool
is_clock_due time c = is_due c.interval time c.last

-- a clock after a tick
abbrev pub clock_after : ℤ → Clock → Clock
clock_after time c = if is_due c.interval time c.last then record c { last = Some time } else c

-- a flag is there and set
abbrev pub is_set : Option Bool → Bool
is_set None = false
is_set (Some flag) = flag

-- what is kept for an instance; nothing past the end
abbrev pub kept_for : List (List Input) → ℕ → List Input
kept_for pending i = slice_index_or pending i []

-- the scan of an instance, by flags of the tasks and what is kept for the instances
abbrev pub scan_of : List Bool → List (List Input) → ℕ → ℤ → Rank → List Step
scan_of due pending number time r = if is_set (slice_get due r.task) then step_of number r.instance (own.Scan time (kept_for pending r.instance)) ∷ [] else []

-- what is left of inputs once the scans of these are over
abbrev pub left_behind : List Bool → ℕ → List Input → List Rank → List Input
left_behind due i past [] = past
left_behind due i past (r ∷ rs) = left_behind due i (if nat_eq r.instance i then (if is_set (slice_get due r.task) then [] else past) else past) rs

-- what is kept for each instance after events
pub record AreKept (plan : TaskPlan) (before : List TaskEvent) (pending : List (List Input)) : Type 0 where
  pub long : length pending ≡ length plan.instances
  pub kept : (i : ℕ) (x : Instance) → slice_get plan.instances i ≡ Some x → slice_get pending i ≡ Some (waiting plan.tasks x.task i before)

-- what is kept after events: when tasks ran last, and what is given to instances
pub record Keeps (plan : TaskPlan) (before : List TaskEvent) (clocks : List Clock) (pending : List (List Input)) : Type 0 where
  pub clocks_are : clocks ≡ map (clock_at before) plan.tasks
  pub kept : AreKept plan before pending

-- an event, behind others of a plan: the steps after it, and what is kept
pub record IsLed (plan : TaskPlan) (order : List Rank) (number : ℕ) (before : List TaskEvent) (e : TaskEvent) (clocks : List Clock)
    (pending : List (List Input)) (steps more : List Step) : Type 0 where
  pub steps_are : more ≡ steps ++ steps_at plan order number before e
  pub keeps : Keeps plan (e ∷ before) clocks pending

-- an event of a plan leads from what is kept and the steps so far to those after it
abbrev pub LeadsIn : TaskPlan → (ranks order : List Rank) → (number : ℕ) → TaskEvent → List Clock → List (List Input) → List Clock → List (List Input) → (steps more : List Step) → Type 0
LeadsIn plan ranks order number e clocks pending clocks_new pending_new steps more = (before : List TaskEvent)
    → ranks ≡ ranks_of plan → IsInOrder plan order → Keeps plan before clocks pending → IsLed plan order number before e clocks_new pending_new steps more

-- and so for each plan of these ranks
abbrev pub Leads : (ranks order : List Rank) → (number : ℕ) → TaskEvent → List Clock → List (List Input) → List Clock → List (List Input) → (steps more : List Step) → Type 0
Leads ranks order number e clocks pending clocks_new pending_new steps more = (plan : TaskPlan) → LeadsIn plan ranks order number e clocks pending clocks_new pending_new steps more

-- the rank is of one of so many instances
abbrev pub AreWithin : ℕ → Rank → Type 0
AreWithin count r = r.instance < count

-- the input is for one of so many instances
abbrev pub IsGivenWithin : ℕ → TaskInput → Type 0
IsGivenWithin count x = x.instance < count

-- so are those of an event
abbrev pub IsEventWithin : ℕ → TaskEvent → Type 0
IsEventWithin count (event.Tick time inputs) = Each (IsGivenWithin count) inputs
IsEventWithin count event.Warm = Unit {0}
IsEventWithin count event.Cold = Unit {0}

-- the steps of events that are numbered from 1
pub record AreSteps (plan : TaskPlan) (events : List TaskEvent) (steps : List Step) : Type 0 where
  pub order : List Rank
  pub is : IsInOrder plan order
  pub steps_are : steps ≡ steps_from plan order 1 [] events

-- a step is of one of so many instances
abbrev pub AreStepsWithin : ℕ → Step → Type 0
AreStepsWithin count s = s.instance < count

-- what the steps are to each side can come next to it
abbrev pub CanStep : {S : Type 0} → (S → Laid) → (S → ℕ) → List S → List Step → Type 0
CanStep {S} laid last sides steps = (i : ℕ) (s : S) → slice_get sides i ≡ Some s → CanFollow (laid s).leaves (last s) (own_in steps i)
