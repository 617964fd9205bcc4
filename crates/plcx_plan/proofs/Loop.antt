-- Item by item: what is read, and the conditions that are left.
use Rattle.std.proofs.Common.{◌≡◌, ℕ, true, false, List, [], ◌∷◌, Option, Some, None, refl, subst, append-nil}
use Rattle.std.specs.List.{AllZip}
use Rattle.plcx_model.specs.declared.project.Project.{Project}
use Rattle.plcx_table.specs.Walk.{start_of}
use Rattle.plcx_plan.specs.declared.condition.Role.TheVariants as role
use Rattle.plcx_plan.specs.declared.condition.TaskKind.{TaskKind}
use Rattle.plcx_plan.specs.declared.progress.Progress.{Progress}
use Rattle.plcx_plan.specs.Items.{Item}
use Rattle.plcx_plan.specs.Conditions.{IsTaskAt, checks_of, FirstFault, Kept}
use Rattle.plcx_plan.specs.Plans.{placed_as, IsInstanceAt}
use Rattle.plcx_plan.specs.Seen.{are_led, IsRead, Steps}

-- some items are read, and a first fault of the others is one of all
pub record IsUnderway (project : Project) (all rest : List Item) (p : Progress) : Type 0 where
  pub before : List Item
  pub read : IsRead project all before rest p
  pub checks : (v : Option (TaskKind × ℕ)) → FirstFault project all (checks_of before rest) v → FirstFault project all (checks_of [] all) v

pub begins : (project : Project) (all : List Item) (p : Progress) → are_led false all ≡ true → p.has_resource ≡ false → p.tasks.items ≡ [] → p.instances.items ≡ [] → p.task_names.keys ≡ [] → p.instance_names.keys ≡ [] → IsUnderway project all all p
begins project all p led resource tasks instances task_names instance_names = record {
  before = [];
  read = record {
    resource = resource;
    task_names = rw task_names (λ q. refl);
    instance_names = rw instance_names (λ q. refl);
    task_count = rw tasks refl;
    instance_count = rw instances refl;
    led = rw tasks led;
    tasks = rw tasks (λ ts h. h);
    instances = rw instances (λ xs h. h);
  };
  checks = λ v h. h;
}

pub goes_on : (project : Project) (all rest : List Item) (x : Item) (p q : Progress) → IsUnderway project all (x ∷ rest) p → Steps project all x p q None → IsUnderway project all rest q
goes_on project all rest x p q u steps =
    let s = steps u.before rest u.read in
    record {
      before = x ∷ u.before;
      read = s.read;
      checks = λ v h. u.checks v (s.fault_is (checks_of (x ∷ u.before) rest) v h);
    }

pub fails : (project : Project) (all rest : List Item) (x : Item) (p q : Progress) (k : TaskKind) → IsUnderway project all (x ∷ rest) p → Steps project all x p q (Some k) → FirstFault project all (checks_of [] all) (Some (k, start_of x.element))
fails project all rest x p q k u steps =
    let s = steps u.before rest u.read in
    u.checks (Some (k, start_of x.element)) (s.fault_is (checks_of (x ∷ u.before) rest))

pub kept : (project : Project) (all : List Item) (p : Progress) → IsUnderway project all [] p → FirstFault project all (checks_of [] all) None
kept project all p u = u.checks None Kept

pub tasks_read : (project : Project) (all : List Item) (p : Progress) → IsUnderway project all [] p → AllZip IsTaskAt (placed_as role.Task [] all) p.tasks.items
tasks_read project all p u = let are = u.read.tasks [] tt in subst (λ ts. AllZip IsTaskAt (placed_as role.Task [] all) ts) (append-nil p.tasks.items) are

pub instances_read : (project : Project) (all : List Item) (p : Progress) → IsUnderway project all [] p → AllZip (IsInstanceAt project) (placed_as role.Instance [] all) p.instances.items
instances_read project all p u = let are = u.read.instances [] tt in subst (λ xs. AllZip (IsInstanceAt project) (placed_as role.Instance [] all) xs) (append-nil p.instances.items) are
