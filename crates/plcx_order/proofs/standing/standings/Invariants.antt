use Rattle.plcx_model.specs.Shown.{graph_of}
use Rattle.plcx_order.specs.Classes.{AreStandings}
use Rattle.plcx_order.proofs.standing.standings.Given as goal

abbrev pub invariant-loop-v : goal.invariant-loop-v
invariant-loop-v l = AreStandings (graph_of l.wires) l.v l.all.items
