use Rattle.plcx_cycle.proofs.OneCycle.{one_cycle}
use Rattle.plcx_cycle.proofs.law.one_cycle.Goals as goal

pub returns : goal.returns
returns c = λ root project diagrams told r bytes is x y nx ny h k. one_cycle c.one_plan.ensures c.one_fault.ensures c.no_plan.ensures root project diagrams told r bytes is x y nx ny h k
