use Rattle.plcx_model.specs.Shown.{graph_of}
use Rattle.plcx_order.proofs.AllNetworks.{all_untouched}
use Rattle.plcx_order.proofs.listing.orders.Goals as goal

pub list_networks-requires-clause-untouched : goal.list_networks-requires-clause-untouched
list_networks-requires-clause-untouched g c = all_untouched (graph_of c.args.wires.now) c.args.marks.now c.in_ok-waits.waits.awaited.items c.args.networks.now c.requires.networks.each c.in_ok-waits.ensures.awaited
