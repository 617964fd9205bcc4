-- The conditions on the tasks of a file's resource, each at an element, and the first that fails.
use Rattle.std.specs.Prelude.{◌≡◌, ◌≤◌, ◌<◌, ℕ, pos, Bool, true, false, ◌&&◌, List, [], ◌∷◌, length, map, codes, slice_get, Option, Some, None}
use Rattle.std.specs.List.{flat_map, position_from}
use Rattle.std.specs.Option.{option_and_then}
use Rattle.std.specs.Str.{bytes_eq}
use Rattle.plcx_types.specs.Limits.{max_tasks, max_instances}
use Rattle.plcx_types.specs.Name.{in_lower_case}
use Rattle.plcx_xml.specs.declared.tree.Element.{Element}
use Rattle.plcx_model.specs.declared.project.PouKind.{PouKind}
use Rattle.plcx_model.specs.declared.project.PouKind.TheVariants.{Program, FunctionBlock}
use Rattle.plcx_model.specs.declared.project.Pou.{Pou}
use Rattle.plcx_model.specs.declared.project.Project.{Project}
use Rattle.plcx_table.specs.Number.{number_of}
use Rattle.plcx_table.specs.Walk.{start_of}
use Rattle.plcx_tasks.specs.declared.planning.Task.{Task}
use Rattle.plcx_plan.specs.declared.condition.Role.{Role}
use Rattle.plcx_plan.specs.declared.condition.Role.TheVariants as role
use Rattle.plcx_plan.specs.declared.condition.TaskKind.{TaskKind}
use Rattle.plcx_plan.specs.declared.condition.TaskKind.TheVariants as kind
use Rattle.plcx_plan.specs.Attributes.{value_once, IsNamed, is_taken}
use Rattle.plcx_plan.specs.Intervals.{IsInterval}
use Rattle.plcx_plan.specs.Items.{Item, elements, has_instance}

-- the greatest priority
abbrev pub max_priority : ℕ
max_priority = 65535

-- an item, and those before it, the last first
pub record Placed : Type 0 where
  pub before : List Item
  pub item : Item

-- each of these items, behind those before it
abbrev pub placed : List Item → List Item → List Placed
placed before [] = []
placed before (x ∷ xs) = record { before = before; item = x } ∷ placed (x ∷ before) xs

-- the elements before it that are this
abbrev pub earlier : Role → Placed → List Element
earlier r p = elements r p.before

-- a task has a name, a priority and an interval, each once and of its form
pub record IsTask (e : Element) (task : Task) : Type 0 where
  pub named : IsNamed e task.name
  pub priority : option_and_then number_of (value_once (codes "priority") e) ≡ Some task.priority
  pub within : task.priority ≤ max_priority
  pub text : List ℕ
  pub value : value_once (codes "interval") e ≡ Some text
  pub ms : ℕ
  pub interval : IsInterval text ms
  pub interval_is : task.interval ≡ pos ms

-- the item is a task, with the name of no earlier one
pub record IsTaskAt (p : Placed) (task : Task) : Type 0 where
  pub is : IsTask p.item.element task
  pub free : is_taken (earlier role.Task p) task.name ≡ false

-- the item is an instance, with the name of no earlier one
pub record IsNameAt (p : Placed) (name : List ℕ) : Type 0 where
  pub is : IsNamed p.item.element name
  pub free : is_taken (earlier role.Instance p) name ≡ false

-- a POU of this kind is a program
abbrev pub is_program : PouKind → Bool
is_program Program = true
is_program FunctionBlock = false

-- a program of that name, which is given in lower case
abbrev pub is_program_named : List ℕ → Pou → Bool
is_program_named key p = is_program p.kind && bytes_eq key (in_lower_case p.name)

-- the place of the program of that name
unfoldable pub program_at : List Pou → List ℕ → Option ℕ
program_at pous key = position_from (is_program_named key) 0 pous

-- an element is of this program by its `typeName`, in any case
pub record IsOfProgram (pous : List Pou) (e : Element) (pou : Pou) : Type 0 where
  pub name : List ℕ
  pub value : value_once (codes "typeName") e ≡ Some name
  pub place : ℕ
  pub found : program_at pous (in_lower_case name) ≡ Some place
  pub there : slice_get pous place ≡ Some pou

-- the conditions
pub data Condition : Type 0 where
  SomeResource OneResource SomeInstance FewTasks GoodTask FewInstances GoodInstance KnownProgram : Condition

-- those on an element by what it is, in the order in which they are tested
abbrev pub conditions : Role → List Condition
conditions role.Root = SomeResource ∷ []
conditions role.Resource = OneResource ∷ SomeInstance ∷ []
conditions role.Task = FewTasks ∷ GoodTask ∷ []
conditions role.Instance = FewInstances ∷ GoodInstance ∷ KnownProgram ∷ []
conditions role.Other = []

-- a condition of an item fails, among all of these items
abbrev pub Fails : Project → List Item → Condition → Placed → Type 0
Fails project all SomeResource p = elements role.Resource all ≡ []
Fails project all OneResource p = 0 < length (earlier role.Resource p)
Fails project all SomeInstance p = has_instance p.item.element ≡ false
Fails project all FewTasks p = max_tasks ≤ length (earlier role.Task p)
Fails project all GoodTask p = (task : Task) → IsTaskAt p task → ⊥
Fails project all FewInstances p = max_instances ≤ length (earlier role.Instance p)
Fails project all GoodInstance p = (name : List ℕ) → IsNameAt p name → ⊥
Fails project all KnownProgram p = (pou : Pou) → IsOfProgram project.pous p.item.element pou → ⊥

-- what is wrong where a condition fails
abbrev pub kind_of : Condition → TaskKind
kind_of GoodTask = kind.Task
kind_of GoodInstance = kind.Instance
kind_of KnownProgram = kind.Program
kind_of _ = kind.Count

-- a condition on an item
pub record Check : Type 0 where
  pub condition : Condition
  pub placed : Placed

-- the conditions on an item
abbrev pub checks_at : Placed → List Check
checks_at p = map (λ (c : Condition). record { condition = c; placed = p }) (conditions p.item.role)

-- the conditions on items, behind those before them, in document order
abbrev pub checks_of : List Item → List Item → List Check
checks_of before items = flat_map checks_at (placed before items)

-- what is wrong, and the byte where the element begins
abbrev pub fault_at : Check → TaskKind × ℕ
fault_at c = (kind_of c.condition, start_of c.placed.item.element)

-- the first of these conditions that fails; `None` where none does
pub data FirstFault (project : Project) (all : List Item) : List Check → Option (TaskKind × ℕ) → Type 0 where
  Kept : FirstFault project all [] None
  Here : {c : Check} {cs : List Check} → Fails project all c.condition c.placed → FirstFault project all (c ∷ cs) (Some (fault_at c))
  Later : {c : Check} {cs : List Check} {v : Option (TaskKind × ℕ)} → (Fails project all c.condition c.placed → ⊥) → FirstFault project all cs v → FirstFault project all (c ∷ cs) v
