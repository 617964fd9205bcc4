use Rattle.plcx_model.specs.Graph.{elements}
use Rattle.plcx_model.specs.Shown.{graph_of}
use Rattle.plcx_order.proofs.LinkSteps.{standings_permuted}
use Rattle.plcx_order.proofs.standing.by_place.Goals as goal

pub returns-clause-all : goal.returns-clause-all
returns-clause-all c =
    let g = graph_of c.args.wires.now in
    standings_permuted g (elements g) c.in_ok-standings.field-0.items c.sorted.result.items c.sorted.ensures.same c.in_ok-standings.ensures
