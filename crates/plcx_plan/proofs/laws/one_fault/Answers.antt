use Rattle.plcx_plan.proofs.OnePlan.{fault_is_one}
use Rattle.plcx_plan.proofs.laws.one_fault.Goals as goal

pub returns : goal.returns
returns c = fault_is_one
