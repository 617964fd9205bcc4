use Rattle.std.proofs.Common.{length, sym, ◌∙◌}
use Rattle.plcx_plan.specs.declared.condition.Role.TheVariants as role
use Rattle.plcx_plan.specs.Items.{elements}
use Rattle.plcx_plan.proofs.Faults.{second_fails, empty_fails, resource_holds}
use Rattle.plcx_plan.proofs.Advance.{is_above, not_above, resource_read}
use Rattle.plcx_plan.proofs.progress.resource_step.Goals as goal

pub returns-then-progress-clause-step : goal.returns-then-progress-clause-step
returns-then-progress-clause-step c = λ project all before rest i. record {
  fault_is = second_fails project all before c.args.resource.now (is_above (length (elements role.Resource before)) (sym i.resource ∙ c.if-progress.true));
  read = tt;
}

pub returns-then-not-has_instance-clause-step : goal.returns-then-not-has_instance-clause-step
returns-then-not-has_instance-clause-step c = λ project all before rest i. record {
  fault_is = empty_fails project all before c.args.resource.now (not_above (length (elements role.Resource before)) (sym i.resource ∙ c.if-progress.false)) (sym c.has_instance.ensures ∙ c.if-not-has_instance.true);
  read = tt;
}

pub returns-clause-step : goal.returns-clause-step
returns-clause-step c = λ project all before rest i. record {
  fault_is = resource_holds project all before c.args.resource.now (not_above (length (elements role.Resource before)) (sym i.resource ∙ c.if-progress.false)) (sym c.has_instance.ensures ∙ c.if-not-has_instance.false);
  read = resource_read project all before rest c.args.resource.now c.args.progress.now i;
}
