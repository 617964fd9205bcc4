-- The plan of a file's tasks, or what is wrong with them.
use Rattle.std.specs.Prelude.{◌≡◌, ◌+◌, ℕ, List, [], length, filter, slice_get, Option, Some, None}
use Rattle.std.specs.List.{AllZip}
use Rattle.plcx_types.specs.Name.{in_lower_case}
use Rattle.plcx_xml.specs.declared.tree.Element.{Element}
use Rattle.plcx_xml.specs.declared.tree.Node.{Node}
use Rattle.plcx_xml.specs.declared.tree.Node.TheOpen.{Node-F}
use Rattle.plcx_model.specs.declared.project.PouKind.TheVariants.{Program}
use Rattle.plcx_model.specs.declared.project.Pou.{Pou}
use Rattle.plcx_model.specs.declared.project.Project.{Project}
use Rattle.plcx_tasks.specs.declared.planning.Instance.{Instance}
use Rattle.plcx_tasks.specs.declared.planning.TaskPlan.{TaskPlan}
use Rattle.plcx_plan.specs.declared.condition.Role.{Role}
use Rattle.plcx_plan.specs.declared.condition.Role.TheVariants as role
use Rattle.plcx_plan.specs.declared.condition.TaskKind.{TaskKind}
use Rattle.plcx_plan.specs.declared.condition.TaskKind.TheVariants as kind
use Rattle.plcx_plan.specs.declared.error.TaskError.{TaskError}
use Rattle.plcx_plan.specs.declared.error.TaskError.TheVariants as error
use Rattle.plcx_plan.specs.Items.{Item, items_in, same_role}
use Rattle.plcx_plan.specs.Conditions.{Placed, placed, earlier, IsTaskAt, IsNameAt, IsOfProgram, checks_of, FirstFault}

-- the first condition that fails on the tasks of a file: what is wrong, and at which byte
abbrev pub TaskVerdict : Element → Project → Option (TaskKind × ℕ) → Type 0
TaskVerdict root project v = FirstFault project (items_in root) (checks_of [] (items_in root)) v

-- the items that are this, behind those before them
abbrev pub placed_as : Role → List Item → List Item → List Placed
placed_as r before items = filter (λ (p : Placed). same_role p.item.role r) (placed before items)

-- an instance has its name, its program, and the place of the last task before it
pub record IsInstanceAt (project : Project) (p : Placed) (x : Instance) : Type 0 where
  pub named : IsNameAt p x.name
  pub pou : Pou
  pub program : IsOfProgram project.pous p.item.element pou
  pub program_is : x.program ≡ pou.name
  pub task : x.task + 1 ≡ length (earlier role.Task p)

-- a plan has the tasks and the instances of these items, in their order
pub record IsPlanned (project : Project) (items : List Item) (plan : TaskPlan) : Type 0 where
  pub tasks : AllZip IsTaskAt (placed_as role.Task [] items) plan.tasks
  pub instances : AllZip (IsInstanceAt project) (placed_as role.Instance [] items) plan.instances

-- a tree in which no condition fails has this plan
pub record IsPlanOf (root : Element) (project : Project) (plan : TaskPlan) : Type 0 where
  pub verdict : TaskVerdict root project None
  pub planned : IsPlanned project (items_in root) plan

-- a root has this plan
abbrev pub StandsForPlan : Node-F Node Element → Project → TaskPlan → Type 0
StandsForPlan (Node-F.Element root) project plan = IsPlanOf root project plan
StandsForPlan (Node-F.Text t) project plan = ⊥

-- the first that is wrong with the tasks of a root, and its byte; a text has no resource
abbrev pub IsFaultOf : Node-F Node Element → Project → TaskKind → ℕ → Type 0
IsFaultOf (Node-F.Element root) project k at = TaskVerdict root project (Some (k, at))
IsFaultOf (Node-F.Text t) project k at = (k ≡ kind.Count) × (at ≡ t.span.start)

-- why a root gives no plan
abbrev pub RefusesPlan : Node-F Node Element → Project → TaskError → Type 0
RefusesPlan root project (error.Broken k at) = IsFaultOf root project k at
RefusesPlan root project error.NoMemory = Unit {0}

-- the program of an instance is one of the project
pub record HasProgram (project : Project) (x : Instance) : Type 0 where
  pub pou : Pou
  pub place : ℕ
  pub there : slice_get project.pous place ≡ Some pou
  pub program : pou.kind ≡ Program
  pub named : pou.name ≡ x.program

-- two instances have different names, whatever the case of their letters
abbrev pub DifferInName : Instance → Instance → Type 0
DifferInName x y = in_lower_case x.name ≡ in_lower_case y.name → ⊥
