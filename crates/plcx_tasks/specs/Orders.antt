-- The order in which a tick runs instances, and which rows come of events.
use Rattle.std.specs.Prelude.{◌≡◌, ◌<◌, ◌+◌, ◌^◌, ◌++◌, ℕ, List, [], ◌∷◌, Option, Some, None, map, filter, length, slice_get}
use Rattle.std.specs.List.Sorted.{IsPermutation, IsSorted}
use Rattle.std.specs.Ordering.{nat_cmp, ordering_then}
use Rattle.std.specs.declared.cmp.Ordering.{Ordering}
use Rattle.plcx_types.specs.Lists.{Each}
use Rattle.plcx_tasks.specs.declared.planning.Task.{Task}
use Rattle.plcx_tasks.specs.declared.planning.Instance.{Instance}
use Rattle.plcx_tasks.specs.declared.planning.TaskPlan.{TaskPlan}
use Rattle.plcx_tasks.specs.declared.ticking.TaskEvent.{TaskEvent}
use Rattle.plcx_tasks.specs.declared.ticking.TaskEvent.TheVariants as event
use Rattle.plcx_tasks.specs.declared.ranking.Rank.{Rank}
use Rattle.plcx_tasks.specs.Tasks.{runs}

-- the task of each instance is one of the plan's, and there are not too many instances to be numbered
pub record IsPlan (plan : TaskPlan) : Type 0 where
  pub tasks : Each (λ (x : Instance). x.task < length plan.tasks) plan.instances
  pub few : length plan.instances < 2 ^ 32

-- the priority of a task, if it is there
abbrev pub priority_in : Option Task → ℕ
priority_in None = 0
priority_in (Some task) = task.priority

-- what an instance is ranked by: the priority of its task, the task's place, and its own
abbrev pub rank_of : List Task → ℕ → Instance → Rank
rank_of tasks number x = record { priority = priority_in (slice_get tasks x.task); task = x.task; instance = number }

-- the ranks of instances that are numbered from a number on
abbrev pub ranks_from : List Task → ℕ → List Instance → List Rank
ranks_from tasks number [] = []
ranks_from tasks number (x ∷ xs) = rank_of tasks number x ∷ ranks_from tasks (number + 1) xs

-- those of all instances, by their places
abbrev pub ranks_of : TaskPlan → List Rank
ranks_of plan = ranks_from plan.tasks 0 plan.instances

-- the least priority first, then the first task, then the first instance
abbrev pub rank_cmp : Rank → Rank → Ordering
rank_cmp a b = ordering_then (nat_cmp a.priority b.priority) (ordering_then (nat_cmp a.task b.task) (nat_cmp a.instance b.instance))

-- the instances of a plan in the order of their ranks
pub record IsInOrder (plan : TaskPlan) (order : List Rank) : Type 0 where
  pub all : IsPermutation (ranks_of plan) order
  pub sorted : IsSorted rank_cmp order

-- the instances that have a row for an event: at a tick those of the due tasks in this order, at a restart all by their places
abbrev pub told_at : TaskPlan → List Rank → List TaskEvent → TaskEvent → List Rank
told_at plan order before (event.Tick time inputs) = filter (λ (r : Rank). runs plan.tasks time before r.task) order
told_at plan order before event.Warm = ranks_of plan
told_at plan order before event.Cold = ranks_of plan

-- which event a row is of, and which instance
abbrev pub row_place : ℕ → Rank → ℕ × ℕ
row_place number r = (number, r.instance)

-- the rows of events that are numbered from a number on, behind others
abbrev pub places_from : TaskPlan → List Rank → ℕ → List TaskEvent → List TaskEvent → List (ℕ × ℕ)
places_from plan order number before [] = []
places_from plan order number before (e ∷ es) = map (row_place number) (told_at plan order before e) ++ places_from plan order (number + 1) (e ∷ before) es

-- these are the rows of the events, which are numbered from 1
pub record AreRowPlaces (plan : TaskPlan) (events : List TaskEvent) (places : List (ℕ × ℕ)) : Type 0 where
  pub order : List Rank
  pub is : IsInOrder plan order
  pub places_are : places ≡ places_from plan order 1 [] events
