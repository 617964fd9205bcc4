use Rattle.std.proofs.Common.{Ok, refl, sym, ap, subst}
use Rattle.plcx_model.specs.Shown.{graph_of}
use Rattle.plcx_order.specs.Counts.{IsListing}
use Rattle.plcx_order.proofs.Listings.{listing_start, listing_end}
use Rattle.plcx_order.proofs.listing.list_network.Goals as goal

pub loop-order-init : goal.loop-order-init
loop-order-init c =
    let g = graph_of c.args.wires.now in
    let a = c.args.waits.now.awaited.items in
    let counts = c.args.waits.now.count.items in
    record {
      listing = subst (IsListing g c.args.network.now c.args.marks.now a counts c.in_ok-ready.ready) (sym c.new-order.ensures.items) (listing_start g c.args.network.now c.args.marks.now a counts c.in_ok-ready.ready c.requires.network c.requires.marks c.requires.waiting c.requires.untouched c.in_ok-ready.ensures.once c.in_ok-ready.ensures.entries);
      others = record { all = λ i hi out. refl };
    }

pub returns-then-not-branch-clause-order : goal.returns-then-not-branch-clause-order
returns-then-not-branch-clause-order c =
    let e = c.in_ok-list_next.ensures in
    listing_end (graph_of c.args.wires.now) c.args.network.now c.args.marks.now c.list_next.new.waits.awaited.items c.list_next.new.waits.count.items c.list_next.new.ready c.list_next.new.order.items c.args.wires.now.graph c.requires.network e.listing (e.end (ap Ok c.if-not-branch.true))
