use Rattle.plcx_rules.proofs.Graphs.{have_graphs}
use Rattle.plcx_rules.proofs.laws.bodies_have_graphs.Goals as goal

pub returns : goal.returns
returns c = have_graphs
