use Rattle.plcx_numbered.proofs.Holding.{lies_whole}
use Rattle.plcx_numbered.proofs.Bodies.{program_alike}
use Rattle.plcx_numbered.proofs.laws.scans_are_alike.Goals as goal

pub returns : goal.returns
returns g c = λ begun time project plans program prepared plan k is_plan low none apart d n a.
    program_alike plan.shape apart g.W.Watch.told begun time project plans program prepared plan k is_plan low none (lies_whole plan.shape) d n a
