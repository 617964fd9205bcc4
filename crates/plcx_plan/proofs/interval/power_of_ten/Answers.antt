use Rattle.plcx_plan.proofs.Seconds.{power_some}
use Rattle.plcx_plan.proofs.interval.power_of_ten.Goals as goal

pub returns-clause-some : goal.returns-clause-some
returns-clause-some c = rw c.pow.ensures (power_some c.args.exponent)
