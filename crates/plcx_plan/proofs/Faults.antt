-- What is wrong at an item, condition by condition.
use Rattle.std.proofs.Common.{◌≡◌, ◌≤◌, ◌<◌, ℕ, Bool, true, false, List, [], ◌∷◌, length, map, Some, None, refl}
use Rattle.std.specs.List.{list_any}
use Rattle.plcx_xml.specs.declared.tree.Element.{Element}
use Rattle.plcx_model.specs.declared.project.Pou.{Pou}
use Rattle.plcx_model.specs.declared.project.Project.{Project}
use Rattle.plcx_tasks.specs.declared.planning.Task.{Task}
use Rattle.plcx_plan.specs.declared.condition.Role.{Role}
use Rattle.plcx_plan.specs.declared.condition.Role.TheVariants as role
use Rattle.plcx_plan.specs.declared.condition.TaskKind.TheVariants as kind
use Rattle.plcx_plan.specs.declared.walk.Looked.{Looked}
use Rattle.plcx_plan.specs.Attributes.{IsNamed, is_taken}
use Rattle.plcx_plan.specs.Items.{Item, elements, same_role, has_instance}
use Rattle.plcx_plan.specs.Conditions.{Placed, IsTask, IsTaskAt, IsNameAt, IsOfProgram, Here, Later}
use Rattle.plcx_plan.specs.Seen.{shown, IsFaultAt}

-- an element behind these items
abbrev pub behind : List Item → Role → Element → Placed
behind before r e = record { before = before; item = record { role = r; element = e } }

both : (b : Bool) → b ≡ true → b ≡ false → ⊥
both true h k = cc
both false h k = cc

-- a list with an item isn't empty
some : {A : Type 0} (x : A) (xs : List A) → x ∷ xs ≡ [] → ⊥
some x xs h = cc

no_resource_by : (b : Bool) (x : Looked) (xs : List Looked) → same_role (shown x).role role.Resource ≡ b → list_any (λ y. same_role (shown y).role role.Resource) (x ∷ xs) ≡ false → (list_any (λ y. same_role (shown y).role role.Resource) xs ≡ false → elements role.Resource (map shown xs) ≡ []) → elements role.Resource (map shown (x ∷ xs)) ≡ []
no_resource_by true x xs is h more = absurd (let no = rw is at h in cc)
no_resource_by false x xs is h more = rw is (more (rw is at h))

pub no_resource : (xs : List Looked) → list_any (λ x. same_role (shown x).role role.Resource) xs ≡ false → elements role.Resource (map shown xs) ≡ []
no_resource [] h = refl
no_resource (x ∷ xs) h = no_resource_by (same_role (shown x).role role.Resource) x xs refl h (no_resource xs)

some_resource_by : (b : Bool) (x : Looked) (xs : List Looked) → same_role (shown x).role role.Resource ≡ b → list_any (λ y. same_role (shown y).role role.Resource) (x ∷ xs) ≡ true → (list_any (λ y. same_role (shown y).role role.Resource) xs ≡ true → elements role.Resource (map shown xs) ≡ [] → ⊥) → elements role.Resource (map shown (x ∷ xs)) ≡ [] → ⊥
some_resource_by true x xs is h more none = some (shown x).element (elements role.Resource (map shown xs)) (rw is at none)
some_resource_by false x xs is h more none = more (rw is at h) (rw is at none)

pub some_resource : (xs : List Looked) → list_any (λ x. same_role (shown x).role role.Resource) xs ≡ true → elements role.Resource (map shown xs) ≡ [] → ⊥
some_resource [] h none = cc
some_resource (x ∷ xs) h none = some_resource_by (same_role (shown x).role role.Resource) x xs refl h (some_resource xs) none

-- the name of an element is one
one_name : (e : Element) (a b : List ℕ) → IsNamed e a → IsNamed e b → a ≡ b
one_name e a b p q = let x = p.value in let y = q.value in cc

module _ (project : Project) (all before : List Item) (e : Element) where
  pub root_fails : elements role.Resource all ≡ [] → IsFaultAt project all (behind before role.Root e) (Some kind.Count)
  root_fails h = λ cs. Here h

  pub root_holds : (elements role.Resource all ≡ [] → ⊥) → IsFaultAt project all (behind before role.Root e) None
  root_holds h = λ cs v rest. Later h rest

  pub other_holds : IsFaultAt project all (behind before role.Other e) None
  other_holds = λ cs v rest. rest

  pub second_fails : 0 < length (elements role.Resource before) → IsFaultAt project all (behind before role.Resource e) (Some kind.Count)
  second_fails h = λ cs. Here h

  pub empty_fails : (0 < length (elements role.Resource before) → ⊥) → has_instance e ≡ false → IsFaultAt project all (behind before role.Resource e) (Some kind.Count)
  empty_fails one h = λ cs. Later one (Here h)

  pub resource_holds : (0 < length (elements role.Resource before) → ⊥) → has_instance e ≡ true → IsFaultAt project all (behind before role.Resource e) None
  resource_holds one h = λ cs v rest. Later one (Later (both (has_instance e) h) rest)

  pub tasks_fail : 64 ≤ length (elements role.Task before) → IsFaultAt project all (behind before role.Task e) (Some kind.Count)
  tasks_fail h = λ cs. Here h

  pub task_fails : (64 ≤ length (elements role.Task before) → ⊥) → ((task : Task) → IsTask e task → ⊥) → IsFaultAt project all (behind before role.Task e) (Some kind.Task)
  task_fails few never = λ cs. Later few (Here (λ t found. never t found.is))

  pub task_taken : (task : Task) → (64 ≤ length (elements role.Task before) → ⊥) → IsTask e task → is_taken (elements role.Task before) task.name ≡ true → IsFaultAt project all (behind before role.Task e) (Some kind.Task)
  task_taken task few is taken = λ cs. Later few (Here (λ t found.
      let same = one_name e t.name task.name found.is.named is.named in
      both (is_taken (elements role.Task before) t.name) (rw same taken) found.free))

  pub task_holds : (task : Task) → (64 ≤ length (elements role.Task before) → ⊥) → IsTaskAt (behind before role.Task e) task → IsFaultAt project all (behind before role.Task e) None
  task_holds task few found = λ cs v rest. Later few (Later (λ k. k task found) rest)

  pub instances_fail : 16 ≤ length (elements role.Instance before) → IsFaultAt project all (behind before role.Instance e) (Some kind.Count)
  instances_fail h = λ cs. Here h

  pub name_fails : (16 ≤ length (elements role.Instance before) → ⊥) → ((name : List ℕ) → IsNamed e name → ⊥) → IsFaultAt project all (behind before role.Instance e) (Some kind.Instance)
  name_fails few never = λ cs. Later few (Here (λ n found. never n found.is))

  pub name_taken : (name : List ℕ) → (16 ≤ length (elements role.Instance before) → ⊥) → IsNamed e name → is_taken (elements role.Instance before) name ≡ true → IsFaultAt project all (behind before role.Instance e) (Some kind.Instance)
  name_taken name few is taken = λ cs. Later few (Here (λ n found.
      let same = one_name e n name found.is is in
      both (is_taken (elements role.Instance before) n) (rw same taken) found.free))

  pub program_fails : (name : List ℕ) → (16 ≤ length (elements role.Instance before) → ⊥) → IsNameAt (behind before role.Instance e) name → ((pou : Pou) → IsOfProgram project.pous e pou → ⊥) → IsFaultAt project all (behind before role.Instance e) (Some kind.Program)
  program_fails name few named never = λ cs. Later few (Later (λ k. k name named) (Here never))

  pub instance_holds : (name : List ℕ) (pou : Pou) → (16 ≤ length (elements role.Instance before) → ⊥) → IsNameAt (behind before role.Instance e) name → IsOfProgram project.pous e pou → IsFaultAt project all (behind before role.Instance e) None
  instance_holds name pou few named typed = λ cs v rest. Later few (Later (λ k. k name named) (Later (λ k. k pou typed) rest))
