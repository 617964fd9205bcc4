use Rattle.plcx_model.specs.Graph.{elements}
use Rattle.plcx_model.specs.Shown.{graph_of}
use Rattle.plcx_order.specs.Counts.{IsListing, LeavesOthers, unlisted}
use Rattle.plcx_order.proofs.listing.list_network.Given as goal

abbrev pub invariant-loop-order : goal.invariant-loop-order
invariant-loop-order l = record {
  listing : IsListing (graph_of l.wires) l.network l.marks l.waits.awaited.items l.waits.count.items l.ready l.order.items;
  others : LeavesOthers (graph_of l.wires) l.network l.fn.waits.awaited.items l.waits.awaited.items;
}

abbrev pub decreases-loop-order : goal.decreases-loop-order
decreases-loop-order l = unlisted (elements (graph_of l.wires)) l.order.items
