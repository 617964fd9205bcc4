use Rattle.plcx_conditions.proofs.Firsts.{some_is, one_first}
use Rattle.plcx_conditions.proofs.laws.one_comes_first.Goals as goal

pub returns-clause-some : goal.returns-clause-some
returns-clause-some c = some_is

pub returns-clause-one : goal.returns-clause-one
returns-clause-one c = one_first
