-- What is read once an item more is read.
use Rattle.std.proofs.Common.{◌≡◌, ◌<◌, ◌+◌, ℕ, suc, Bool, true, false, ◌||◌, ◌&&◌, nat_lt, List, [], ◌∷◌, ◌++◌, length, refl, sym, subst, arith, append_assoc}
use Rattle.std.specs.List.{AllZip}
use Rattle.std.proofs.lemmas.Bool.Decides.{nat_tests}
use Rattle.std.proofs.lemmas.List.{length-append}
use Rattle.plcx_xml.specs.declared.tree.Element.{Element}
use Rattle.plcx_model.specs.declared.project.Pou.{Pou}
use Rattle.plcx_model.specs.declared.project.Project.{Project}
use Rattle.plcx_tasks.specs.declared.planning.Task.{Task}
use Rattle.plcx_tasks.specs.declared.planning.Instance.{Instance}
use Rattle.plcx_plan.specs.declared.condition.Role.TheVariants as role
use Rattle.plcx_plan.specs.declared.progress.Progress.{Progress}
use Rattle.plcx_plan.specs.Attributes.{IsNamed, is_taken}
use Rattle.plcx_plan.specs.Items.{Item, elements}
use Rattle.plcx_plan.specs.Conditions.{IsTaskAt, IsNameAt, IsOfProgram}
use Rattle.plcx_plan.specs.Plans.{placed_as, IsInstanceAt}
use Rattle.plcx_plan.specs.Reading.{Notes}
use Rattle.plcx_plan.specs.Seen.{are_led, IsRead}
use Rattle.plcx_plan.proofs.Faults.{behind}

-- an item that is neither a task nor an instance
led_past : (b : Bool) (rest : List Item) → ((b || true) && are_led (b || false) rest) ≡ true → are_led b rest ≡ true
led_past true rest h = h
led_past false rest h = h

led_task : (b : Bool) (rest : List Item) → ((b || true) && are_led (b || true) rest) ≡ true → are_led true rest ≡ true
led_task true rest h = h
led_task false rest h = h

led_instance : (b : Bool) (rest : List Item) → ((b || false) && are_led (b || false) rest) ≡ true → (b ≡ true) × (are_led b rest ≡ true)
led_instance true rest h = (refl, h)
led_instance false rest h = cc

pub is_above : (n : ℕ) → nat_lt 0 n ≡ true → 0 < n
is_above n h = grind (arith, nat_tests)

pub not_above : (n : ℕ) → nat_lt 0 n ≡ false → 0 < n → ⊥
not_above n h k = grind (arith, nat_tests)

above : (n : ℕ) → 0 < n → nat_lt 0 n ≡ true
above n h = grind (arith, nat_tests)

one_more : {A : Type 0} (xs : List A) (x : A) → length (xs ++ x ∷ []) ≡ length xs + 1
one_more xs x = length-append xs (x ∷ [])

next_zip : {A B : Type 0} (R : A → B → Type 0) (ls : List A) (xs : List B) (x : B) (ys : List B) → AllZip R ls (xs ++ x ∷ ys) → AllZip R ls ((xs ++ x ∷ []) ++ ys)
next_zip R ls xs x ys h = subst (λ zs. AllZip R ls zs) (sym (append_assoc xs (x ∷ []) ys)) h

-- an instance by its parts
pub instance_at : (project : Project) (before : List Item) (e : Element) (name : List ℕ) (x : Instance) (pou : Pou) → IsNamed e name → is_taken (elements role.Instance before) name ≡ false → x.name ≡ name
    → IsOfProgram project.pous e pou → x.program ≡ pou.name → x.task + 1 ≡ length (elements role.Task before) → IsInstanceAt project (behind before role.Instance e) x
instance_at project before e name x pou named free name_is of program_is task = record {
  named = subst (λ n. IsNameAt (behind before role.Instance e) n) (sym name_is) (record { is = named; free = free });
  pou = pou;
  program = of;
  program_is = program_is;
  task = task;
}

module _ (project : Project) (all before rest : List Item) (e : Element) (p : Progress) where
  pub root_read : IsRead project all before (record { role = role.Root; element = e } ∷ rest) p → IsRead project all (record { role = role.Root; element = e } ∷ before) rest p
  root_read i = record {
    resource = i.resource;
    task_names = i.task_names;
    instance_names = i.instance_names;
    task_count = i.task_count;
    instance_count = i.instance_count;
    led = led_past (nat_lt 0 (length p.tasks.items)) rest i.led;
    tasks = i.tasks;
    instances = i.instances;
  }

  pub other_read : IsRead project all before (record { role = role.Other; element = e } ∷ rest) p → IsRead project all (record { role = role.Other; element = e } ∷ before) rest p
  other_read i = record {
    resource = i.resource;
    task_names = i.task_names;
    instance_names = i.instance_names;
    task_count = i.task_count;
    instance_count = i.instance_count;
    led = led_past (nat_lt 0 (length p.tasks.items)) rest i.led;
    tasks = i.tasks;
    instances = i.instances;
  }

  pub resource_read : IsRead project all before (record { role = role.Resource; element = e } ∷ rest) p → IsRead project all (record { role = role.Resource; element = e } ∷ before) rest (record p { has_resource = true })
  resource_read i = record {
    resource = sym (above (suc (length (elements role.Resource before))) (omega arith));
    task_names = i.task_names;
    instance_names = i.instance_names;
    task_count = i.task_count;
    instance_count = i.instance_count;
    led = led_past (nat_lt 0 (length p.tasks.items)) rest i.led;
    tasks = i.tasks;
    instances = i.instances;
  }

  pub task_read : (task : Task) (q : Progress) → IsTaskAt (behind before role.Task e) task → Notes (e ∷ elements role.Task before) q.task_names.keys
      → q.has_resource ≡ p.has_resource → q.tasks.items ≡ p.tasks.items ++ task ∷ [] → q.instances.items ≡ p.instances.items → q.instance_names.keys ≡ p.instance_names.keys
      → IsRead project all before (record { role = role.Task; element = e } ∷ rest) p → IsRead project all (record { role = role.Task; element = e } ∷ before) rest q
  task_read task q found notes same_resource same_tasks same_instances same_names i =
      let longer : length q.tasks.items ≡ length p.tasks.items + 1 = rw same_tasks (one_more p.tasks.items task) in
      record {
        resource = rw same_resource i.resource;
        task_names = notes;
        instance_names = rw same_names i.instance_names;
        task_count = let n = i.task_count in omega (arith, longer, n);
        instance_count = rw same_instances i.instance_count;
        led = rw (above (length q.tasks.items) (omega (arith, longer))) (led_task (nat_lt 0 (length p.tasks.items)) rest i.led);
        tasks = λ ts h. rw same_tasks (next_zip IsTaskAt (placed_as role.Task [] all) p.tasks.items task ts (i.tasks (task ∷ ts) (found, h)));
        instances = rw same_instances i.instances;
      }

  -- a task stands before an instance
  pub task_before : IsRead project all before (record { role = role.Instance; element = e } ∷ rest) p → 0 < length p.tasks.items
  task_before i = is_above (length p.tasks.items) (led_instance (nat_lt 0 (length p.tasks.items)) rest i.led).0

  pub instance_read : (x : Instance) (q : Progress) → IsInstanceAt project (behind before role.Instance e) x → Notes (e ∷ elements role.Instance before) q.instance_names.keys
      → q.has_resource ≡ p.has_resource → q.instances.items ≡ p.instances.items ++ x ∷ [] → q.tasks.items ≡ p.tasks.items → q.task_names.keys ≡ p.task_names.keys
      → IsRead project all before (record { role = role.Instance; element = e } ∷ rest) p → IsRead project all (record { role = role.Instance; element = e } ∷ before) rest q
  instance_read x q found notes same_resource same_instances same_tasks same_names i =
      let longer : length q.instances.items ≡ length p.instances.items + 1 = rw same_instances (one_more p.instances.items x) in
      record {
        resource = rw same_resource i.resource;
        task_names = rw same_names i.task_names;
        instance_names = notes;
        task_count = rw same_tasks i.task_count;
        instance_count = let n = i.instance_count in omega (arith, longer, n);
        led = rw same_tasks (led_instance (nat_lt 0 (length p.tasks.items)) rest i.led).1;
        tasks = rw same_tasks i.tasks;
        instances = λ xs h. rw same_instances (next_zip (IsInstanceAt project) (placed_as role.Instance [] all) p.instances.items x xs (i.instances (x ∷ xs) (found, h)));
      }
