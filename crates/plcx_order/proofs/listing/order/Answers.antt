use Rattle.plcx_model.specs.Shown.{graph_of}
use Rattle.plcx_order.proofs.InNetwork.{member_part}
use Rattle.plcx_order.proofs.Listings.{untouched_start}
use Rattle.plcx_order.proofs.listing.order.Goals as goal

pub list_network-requires-clause-untouched : goal.list_network-requires-clause-untouched
list_network-requires-clause-untouched g c =
    let graph = graph_of c.args.wires.now in
    untouched_start graph c.args.marks.now c.in_ok-waits.waits.awaited.items c.args.network.now c.requires.network (λ v. member_part graph c.args.network.now v c.requires.network) c.in_ok-waits.ensures.awaited
