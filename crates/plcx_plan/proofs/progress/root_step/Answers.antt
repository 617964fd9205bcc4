use Rattle.std.proofs.Common.{map, sym, ◌∙◌}
use Rattle.plcx_plan.specs.Seen.{shown}
use Rattle.plcx_plan.proofs.Faults.{no_resource, some_resource, root_fails, root_holds}
use Rattle.plcx_plan.proofs.Advance.{root_read}
use Rattle.plcx_plan.proofs.progress.root_step.Goals as goal

pub returns-then-is_any_resource : goal.returns-then-is_any_resource
returns-then-is_any_resource c = λ project before rest i. record {
  fault_is = root_holds project (map shown c.args.items.now) before c.args.root.now (some_resource c.args.items.now (sym c.is_any_resource.ensures ∙ c.if-is_any_resource.true));
  read = root_read project (map shown c.args.items.now) before rest c.args.root.now c.args.progress.now i;
}

pub returns-else-is_any_resource : goal.returns-else-is_any_resource
returns-else-is_any_resource c = λ project before rest i. record {
  fault_is = root_fails project (map shown c.args.items.now) before c.args.root.now (no_resource c.args.items.now (sym c.is_any_resource.ensures ∙ c.if-is_any_resource.false));
  read = tt;
}
