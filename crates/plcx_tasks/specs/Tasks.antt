-- When tasks run, and what each instance is given: said over the events so far, of which the last comes first.
use Rattle.std.specs.Prelude.{◌≡◌, ◌++◌, ℕ, ℤ, nat_abs, ◌-ℤ◌, int_le, Bool, true, false, nat_eq, List, [], ◌∷◌, Option, Some, None, slice_get, if◌then◌else◌}
use Rattle.plcx_types.specs.Lists.{Each}
use Rattle.plcx_state.specs.Layouts.{Laid}
use Rattle.plcx_scan.specs.declared.event.Input.{Input}
use Rattle.plcx_scan.specs.Events.{Event, Scan, Warm, Cold, IsNext, IsInput}
use Rattle.plcx_tasks.specs.declared.planning.Task.{Task}
use Rattle.plcx_tasks.specs.declared.planning.Instance.{Instance}
use Rattle.plcx_tasks.specs.declared.planning.TaskPlan.{TaskPlan}
use Rattle.plcx_tasks.specs.declared.ticking.TaskInput.{TaskInput}
use Rattle.plcx_tasks.specs.declared.ticking.TaskEvent.{TaskEvent}
use Rattle.plcx_tasks.specs.declared.ticking.TaskEvent.TheVariants as event

-- a run at this time is an interval or more behind the last one; what hasn't run is due at once
abbrev pub is_due : (interval time : ℤ) → Option ℤ → Bool
is_due interval time None = true
is_due interval time (Some last) = int_le interval (time -ℤ last)

-- when a task of this interval ran last since the start or the last restart
abbrev pub last_run : ℤ → List TaskEvent → Option ℤ
last_run interval [] = None
last_run interval (event.Tick time inputs ∷ before) = if is_due interval time (last_run interval before) then Some time else last_run interval before
last_run interval (event.Warm ∷ before) = None
last_run interval (event.Cold ∷ before) = None

-- a task is due at a tick of this time
abbrev pub is_task_due : ℤ → List TaskEvent → Option Task → Bool
is_task_due time before None = false
is_task_due time before (Some task) = is_due task.interval time (last_run task.interval before)

-- the tick runs the task at this place
abbrev pub runs : List Task → ℤ → List TaskEvent → ℕ → Bool
runs tasks time before place = is_task_due time before (slice_get tasks place)

-- the input of an instance
abbrev pub input_of : TaskInput → Input
input_of x = record { leaf = x.leaf; value = x.value }

-- a value for a leaf takes the place of an earlier one for it
abbrev pub with_input : List Input → Input → List Input
with_input [] x = x ∷ []
with_input (y ∷ ys) x = if nat_eq x.leaf y.leaf then record y { value = x.value } ∷ ys else y ∷ with_input ys x

-- inputs, and those of these that are for the instance: per leaf the last value
abbrev pub given : ℕ → List Input → List TaskInput → List Input
given instance past [] = past
given instance past (x ∷ xs) = given instance (if nat_eq x.instance instance then with_input past (input_of x) else past) xs

-- what an instance of a task was given since its last scan or restart
abbrev pub waiting : List Task → (task instance : ℕ) → List TaskEvent → List Input
waiting tasks task instance [] = []
waiting tasks task instance (event.Tick time inputs ∷ before) = if runs tasks time before task then [] else given instance (waiting tasks task instance before) inputs
waiting tasks task instance (event.Warm ∷ before) = []
waiting tasks task instance (event.Cold ∷ before) = []

-- what an event is to an instance of a task: a tick that runs it is a scan with what it was given since, this tick included
abbrev pub own_event : List Task → (task instance : ℕ) → List TaskEvent → TaskEvent → List Event
own_event tasks task instance before (event.Tick time inputs) =
    if runs tasks time before task then Scan time (given instance (waiting tasks task instance before) inputs) ∷ [] else []
own_event tasks task instance before event.Warm = Warm ∷ []
own_event tasks task instance before event.Cold = Cold ∷ []

-- and events, behind others
abbrev pub own_from : List Task → (task instance : ℕ) → List TaskEvent → List TaskEvent → List Event
own_from tasks task instance before [] = []
own_from tasks task instance before (e ∷ es) = own_event tasks task instance before e ++ own_from tasks task instance (e ∷ before) es

-- the events of an instance, if it is there
abbrev pub own_if : List Task → ℕ → List TaskEvent → Option Instance → List Event
own_if tasks instance events None = []
own_if tasks instance events (Some x) = own_from tasks x.task instance [] events

-- the own list of an instance: the scans and restarts that the events are to it alone
abbrev pub own_events : TaskPlan → List TaskEvent → ℕ → List Event
own_events plan events instance = own_if plan.tasks instance events (slice_get plan.instances instance)

-- an input is for an instance with these leaves and memories, and fits it
pub record IsTaskInput (lays : List Laid) (x : TaskInput) : Type 0 where
  pub own : Laid
  pub there : slice_get lays x.instance ≡ Some own
  pub fits : IsInput own.leaves (input_of x)

-- an event that may come next, where the last tick was at this time
abbrev pub CanComeNext : List Laid → ℕ → TaskEvent → Type 0
CanComeNext lays last (event.Tick time inputs) = IsNext last time × Each (IsTaskInput lays) inputs
CanComeNext lays last event.Warm = Unit {0}
CanComeNext lays last event.Cold = Unit {0}

-- the time of the last tick after an event
abbrev pub tick_after : ℕ → TaskEvent → ℕ
tick_after last (event.Tick time inputs) = nat_abs time
tick_after last event.Warm = last
tick_after last event.Cold = last

-- events that may come one after another
abbrev pub AreTicks : List Laid → ℕ → List TaskEvent → Type 0
AreTicks lays last [] = Unit {0}
AreTicks lays last (e ∷ es) = CanComeNext lays last e × AreTicks lays (tick_after last e) es
