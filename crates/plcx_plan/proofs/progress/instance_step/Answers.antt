use Rattle.std.proofs.Common.{◌≡◌, Some, None, false, arith, refl, sym, subst, ◌∙◌}
use Rattle.plcx_model.specs.declared.project.Pou.{Pou}
use Rattle.plcx_tasks.specs.declared.planning.Instance.{Instance}
use Rattle.plcx_plan.specs.declared.condition.Role.TheVariants as role
use Rattle.plcx_plan.specs.Attributes.{is_taken}
use Rattle.plcx_plan.specs.Items.{elements}
use Rattle.plcx_plan.specs.Conditions.{IsOfProgram}
use Rattle.plcx_plan.proofs.Options.{if_some, if_none}
use Rattle.plcx_plan.proofs.Faults.{instances_fail, name_fails, name_taken, program_fails, instance_holds}
use Rattle.plcx_plan.proofs.Advance.{task_before, instance_at, instance_read}
use Rattle.plcx_plan.proofs.progress.instance_step.Goals as goal

pub returns-then-len-ge-MAX_INSTANCES-clause-step : goal.returns-then-len-ge-MAX_INSTANCES-clause-step
returns-then-len-ge-MAX_INSTANCES-clause-step c = λ project all same before rest i.
    let count = i.instance_count in
    record {
      fault_is = instances_fail project all before c.args.element.now (omega (arith, c.if-len-ge-MAX_INSTANCES.true, c.len.ensures, count));
      read = tt;
    }

pub returns-in_default-clause-step : goal.returns-in_default-clause-step
returns-in_default-clause-step c = λ project all same before rest i.
    let count = i.instance_count in
    record {
      fault_is = name_fails project all before c.args.element.now (λ k. omega (arith, k, c.if-len-ge-MAX_INSTANCES.false, c.len.ensures, count)) c.in_default.ensures.none;
      read = tt;
    }

pub returns-then-branch-clause-step : goal.returns-then-branch-clause-step
returns-then-branch-clause-step c = λ project all same before rest i.
    let count = i.instance_count in
    let es = elements role.Instance before in
    record {
      fault_is = name_taken project all before c.args.element.now c.in-Some.name.now (λ k. omega (arith, k, c.if-len-ge-MAX_INSTANCES.false, c.len.ensures, count)) c.in-Some.ensures.some
          (sym (c.in_ok-note.ensures.taken es i.instance_names) ∙ c.if-branch.true);
      read = tt;
    }

pub returns-in_default-2-clause-step : goal.returns-in_default-2-clause-step
returns-in_default-2-clause-step c = λ project all same before rest i.
    let count = i.instance_count in
    let es = elements role.Instance before in
    let free : is_taken es c.in-Some.name.now ≡ false = sym (c.in_ok-note.ensures.taken es i.instance_names) ∙ c.if-branch.false in
    let none : c.in_ok-pou.field-0 ≡ None = let is = c.in_default-2.is in cc in
    let never = if_none ((pou : Pou) → IsOfProgram c.args.programs.now c.args.element.now pou → ⊥) c.in_ok-pou.field-0 none c.in_ok-pou.ensures.none in
    record {
      fault_is = program_fails project all before c.args.element.now c.in-Some.name.now (λ k. omega (arith, k, c.if-len-ge-MAX_INSTANCES.false, c.len.ensures, count)) (record { is = c.in-Some.ensures.some; free = free })
          (λ pou of. never pou (subst (λ ps. IsOfProgram ps c.args.element.now pou) same of));
      read = tt;
    }

pub returns-clause-step : goal.returns-clause-step
returns-clause-step c = λ project all same before rest i.
    let count = i.instance_count in
    let tasks = i.task_count in
    let e = c.args.element.now in
    let es = elements role.Instance before in
    let free : is_taken es c.in-Some.name.now ≡ false = sym (c.in_ok-note.ensures.taken es i.instance_names) ∙ c.if-branch.false in
    let some : c.in_ok-pou.field-0 ≡ Some c.in-Some-2.pou = let is = c.in-Some-2.is in cc in
    let of = subst (λ ps. IsOfProgram ps e c.in-Some-2.pou.now) (sym same) (if_some (λ pou. IsOfProgram c.args.programs.now e pou.now) c.in_ok-pou.field-0 c.in-Some-2.pou some c.in_ok-pou.ensures.some) in
    let notes = c.in_ok-note.ensures.noted c.if-branch.false es e (let named = c.in-Some.ensures.some in named.value) i.instance_names in
    let led = task_before project all before rest e c.args.progress.now i in
    let x : Instance = record { name = c.in_ok-ident.field-0; program = c.in_ok-copy.field-0; task = c.saturating_sub.result } in
    let at = instance_at project before e c.in-Some.name.now x c.in-Some-2.pou.now c.in-Some.ensures.some free c.in_ok-ident.ensures of c.in_ok-copy.ensures (omega (arith, c.saturating_sub.ensures, c.len-2.ensures, led, tasks)) in
    record {
      fault_is = instance_holds project all before e c.in-Some.name.now c.in-Some-2.pou.now (λ k. omega (arith, k, c.if-len-ge-MAX_INSTANCES.false, c.len.ensures, count)) (record { is = c.in-Some.ensures.some; free = free }) of;
      read = instance_read project all before rest e c.args.progress.now x _ at notes refl c.in_ok-push.ensures.items refl refl i;
    }
