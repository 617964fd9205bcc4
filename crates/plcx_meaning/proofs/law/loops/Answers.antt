use Rattle.plcx_meaning.proofs.Fuel.{while_law}
use Rattle.plcx_meaning.proofs.FuelOfDiagrams.{jumping_law}
use Rattle.plcx_meaning.proofs.law.loops.Goals as goal

pub returns-clause-diagram : goal.returns-clause-diagram
returns-clause-diagram c = jumping_law

pub returns-clause-text : goal.returns-clause-text
returns-clause-text c = while_law
