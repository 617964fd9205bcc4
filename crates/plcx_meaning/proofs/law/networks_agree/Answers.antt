use Rattle.plcx_meaning.proofs.Networks.{networks_law, bodies_law}
use Rattle.plcx_meaning.proofs.law.networks_agree.Goals as goal

pub returns-clause-networks : goal.returns-clause-networks
returns-clause-networks c = networks_law

pub returns-clause-bodies : goal.returns-clause-bodies
returns-clause-bodies c = bodies_law
