use Rattle.plcx_plan.proofs.OnePlan.{no_plan_with}
use Rattle.plcx_plan.proofs.laws.no_plan.Goals as goal

pub returns : goal.returns
returns c = no_plan_with
