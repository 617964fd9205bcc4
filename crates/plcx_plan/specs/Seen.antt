-- For proofs alone: what is read so far, and what a step over an item makes of it.
use Rattle.std.specs.Prelude.{◌≡◌, ◌≤◌, ℕ, Bool, true, ◌||◌, ◌&&◌, not, nat_lt, List, [], ◌∷◌, ◌++◌, length, Option, Some, None}
use Rattle.std.specs.List.{AllZip}
use Rattle.plcx_types.specs.Limits.{max_tasks, max_instances}
use Rattle.plcx_model.specs.declared.project.Project.{Project}
use Rattle.plcx_table.specs.Walk.{start_of}
use Rattle.plcx_tasks.specs.declared.planning.Task.{Task}
use Rattle.plcx_tasks.specs.declared.planning.Instance.{Instance}
use Rattle.plcx_tasks.specs.declared.planning.TaskPlan.{TaskPlan}
use Rattle.plcx_xml.specs.declared.tree.Element.{Element}
use Rattle.plcx_plan.specs.declared.condition.Role.TheVariants as role
use Rattle.plcx_plan.specs.declared.condition.TaskKind.{TaskKind}
use Rattle.plcx_plan.specs.declared.walk.Looked.{Looked}
use Rattle.plcx_plan.specs.declared.progress.Progress.{Progress}
use Rattle.plcx_plan.specs.Items.{Item, elements, same_role}
use Rattle.plcx_plan.specs.Conditions.{Placed, Check, IsTaskAt, checks_at, checks_of, FirstFault}
use Rattle.plcx_plan.specs.declared.error.TaskError.{TaskError}
use Rattle.plcx_plan.specs.declared.error.TaskError.TheVariants as error
use Rattle.plcx_plan.specs.Plans.{placed_as, IsInstanceAt, IsPlanned, TaskVerdict}
use Rattle.plcx_plan.specs.Reading.{Notes}

-- an element that is looked at
abbrev pub shown : Looked → Item
shown x = record { role = x.role; element = x.element.now }

-- each instance stands behind a task, where one stands before them or not
abbrev pub are_led : Bool → List Item → Bool
are_led led [] = true
are_led led (x ∷ xs) = (led || not (same_role x.role role.Instance)) && are_led (led || same_role x.role role.Task) xs

-- what is read of the items before those that are left
pub record IsRead (project : Project) (all before rest : List Item) (p : Progress) : Type 0 where
  pub resource : p.has_resource ≡ nat_lt 0 (length (elements role.Resource before))
  pub task_names : Notes (elements role.Task before) p.task_names.keys
  pub instance_names : Notes (elements role.Instance before) p.instance_names.keys
  pub task_count : length p.tasks.items ≡ length (elements role.Task before)
  pub instance_count : length p.instances.items ≡ length (elements role.Instance before)
  pub led : are_led (nat_lt 0 (length p.tasks.items)) rest ≡ true
  pub tasks : (ts : List Task) → AllZip IsTaskAt (placed_as role.Task before rest) ts → AllZip IsTaskAt (placed_as role.Task [] all) (p.tasks.items ++ ts)
  pub instances : (xs : List Instance) → AllZip (IsInstanceAt project) (placed_as role.Instance before rest) xs
      → AllZip (IsInstanceAt project) (placed_as role.Instance [] all) (p.instances.items ++ xs)

-- what is wrong at an item is the first of its conditions that fails
abbrev pub IsFaultAt : Project → List Item → Placed → Option TaskKind → Type 0
IsFaultAt project all p None = (cs : List Check) (v : Option (TaskKind × ℕ)) → FirstFault project all cs v → FirstFault project all (checks_at p ++ cs) v
IsFaultAt project all p (Some k) = (cs : List Check) → FirstFault project all (checks_at p ++ cs) (Some (k, start_of p.item.element))

-- where nothing is wrong at an item, it is read
abbrev pub IsReadWith : Project → List Item → Placed → List Item → Progress → Option TaskKind → Type 0
IsReadWith project all p rest after None = IsRead project all (p.item ∷ p.before) rest after
IsReadWith project all p rest after (Some k) = Unit {0}

-- a step over an item
pub record IsStep (project : Project) (all before rest : List Item) (x : Item) (after : Progress) (fault : Option TaskKind) : Type 0 where
  pub fault_is : IsFaultAt project all (record { before = before; item = x }) fault
  pub read : IsReadWith project all (record { before = before; item = x }) rest after fault

-- whatever was read before it
abbrev pub Steps : Project → List Item → Item → (old after : Progress) → Option TaskKind → Type 0
Steps project all x old after fault = (before rest : List Item) → IsRead project all before (x ∷ rest) old → IsStep project all before rest x after fault

-- no more tasks and instances than there may be
pub record IsFew (p : Progress) : Type 0 where
  pub tasks : length p.tasks.items ≤ max_tasks
  pub instances : length p.instances.items ≤ max_instances

-- items in which no condition fails have this plan
pub record IsPlanIn (project : Project) (items : List Item) (plan : TaskPlan) : Type 0 where
  pub verdict : FirstFault project items (checks_of [] items) None
  pub planned : IsPlanned project items plan

-- why items give no plan
abbrev pub RefusesIn : Project → List Item → TaskError → Type 0
RefusesIn project items (error.Broken k at) = FirstFault project items (checks_of [] items) (Some (k, at))
RefusesIn project items error.NoMemory = Unit {0}

-- why the root of a file gives no plan
abbrev pub RefusesElement : Element → Project → TaskError → Type 0
RefusesElement root project (error.Broken k at) = TaskVerdict root project (Some (k, at))
RefusesElement root project error.NoMemory = Unit {0}
