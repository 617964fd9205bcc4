use Rattle.std.proofs.Common.{◌≡◌, Some, None, true, false, arith, refl, sym, subst, ◌∙◌}
use Rattle.plcx_tasks.specs.declared.planning.Task.{Task}
use Rattle.plcx_plan.specs.declared.condition.Role.TheVariants as role
use Rattle.plcx_plan.specs.Attributes.{is_taken}
use Rattle.plcx_plan.specs.Items.{elements}
use Rattle.plcx_plan.specs.Conditions.{IsTask}
use Rattle.plcx_plan.proofs.Options.{if_some, if_none}
use Rattle.plcx_plan.proofs.Faults.{tasks_fail, task_fails, task_taken, task_holds}
use Rattle.plcx_plan.proofs.Advance.{task_read}
use Rattle.plcx_plan.proofs.progress.task_step.Goals as goal

pub returns-then-len-ge-MAX_TASKS-clause-step : goal.returns-then-len-ge-MAX_TASKS-clause-step
returns-then-len-ge-MAX_TASKS-clause-step c = λ project all before rest i.
    let count = i.task_count in
    record {
      fault_is = tasks_fail project all before c.args.element.now (omega (arith, c.if-len-ge-MAX_TASKS.true, c.len.ensures, count));
      read = tt;
    }

pub returns-in_default-clause-step : goal.returns-in_default-clause-step
returns-in_default-clause-step c = λ project all before rest i.
    let count = i.task_count in
    let none : c.in_ok-task.field-0 ≡ None = let is = c.in_default.is in cc in
    record {
      fault_is = task_fails project all before c.args.element.now (λ k. omega (arith, k, c.if-len-ge-MAX_TASKS.false, c.len.ensures, count))
          (if_none ((task : Task) → IsTask c.args.element.now task → ⊥) c.in_ok-task.field-0 none c.in_ok-task.ensures.none);
      read = tt;
    }

pub returns-then-branch-clause-step : goal.returns-then-branch-clause-step
returns-then-branch-clause-step c = λ project all before rest i.
    let count = i.task_count in
    let some : c.in_ok-task.field-0 ≡ Some c.in-Some.task = let is = c.in-Some.is in cc in
    let task = if_some (IsTask c.args.element.now) c.in_ok-task.field-0 c.in-Some.task some c.in_ok-task.ensures.some in
    let es = elements role.Task before in
    let taken : is_taken es c.in-Some.task.name ≡ true = subst (λ n. is_taken es n ≡ true) c.text.ensures.text (sym (c.in_ok-note.ensures.taken es i.task_names) ∙ c.if-branch.true) in
    record {
      fault_is = task_taken project all before c.args.element.now c.in-Some.task (λ k. omega (arith, k, c.if-len-ge-MAX_TASKS.false, c.len.ensures, count)) task taken;
      read = tt;
    }

pub returns-clause-step : goal.returns-clause-step
returns-clause-step c = λ project all before rest i.
    let count = i.task_count in
    let some : c.in_ok-task.field-0 ≡ Some c.in-Some.task = let is = c.in-Some.is in cc in
    let task = if_some (IsTask c.args.element.now) c.in_ok-task.field-0 c.in-Some.task some c.in_ok-task.ensures.some in
    let es = elements role.Task before in
    let free : is_taken es c.in-Some.task.name ≡ false = subst (λ n. is_taken es n ≡ false) c.text.ensures.text (sym (c.in_ok-note.ensures.taken es i.task_names) ∙ c.if-branch.false) in
    let notes = c.in_ok-note.ensures.noted c.if-branch.false es c.args.element.now (rw c.text.ensures.text task.named.value) i.task_names in
    record {
      fault_is = task_holds project all before c.args.element.now c.in-Some.task (λ k. omega (arith, k, c.if-len-ge-MAX_TASKS.false, c.len.ensures, count)) (record { is = task; free = free });
      read = task_read project all before rest c.args.element.now c.args.progress.now c.in-Some.task _ (record { is = task; free = free }) notes refl c.in_ok-push.ensures.items refl refl i;
    }
