use Rattle.plcx_plan.proofs.OnePlan.{plan_is_one}
use Rattle.plcx_plan.proofs.laws.one_plan.Goals as goal

pub returns : goal.returns
returns c = plan_is_one
