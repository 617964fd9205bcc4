use Rattle.std.proofs.Common.{ap}
use Rattle.plcx_conditions.specs.First.{first_of}
use Rattle.plcx_unit.specs.declared.pieces.Judged.{Judged}
use Rattle.plcx_unit.proofs.here.Here.part_of_type.Goals as goal

pub returns-in-Unknown-clause-broken : goal.returns-in-Unknown-clause-broken
unfolding first_of
returns-in-Unknown-clause-broken c = rw c.in-Unknown.is (ap (λ (j : Judged). j.broken) c.nothing.ensures)
