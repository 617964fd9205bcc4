use Rattle.std.proofs.Common.{◌<◌, length, sym, subst, arith, rules}
use Rattle.plcx_model.specs.Graph.{elements}
use Rattle.plcx_model.specs.Shown.{graph_of}
use Rattle.plcx_model.specs.Networks.{Listed}
use Rattle.plcx_order.specs.Counts.{IsListing, unlisted}
use Rattle.plcx_order.proofs.Listings.{taken, listing_more, leaves_others, fewer_unlisted}
use Rattle.plcx_order.proofs.listing.list_next.Goals as goal

pub bounds-last-x : goal.bounds-last-x
bounds-last-x c =
    let t = taken (graph_of c.args.wires.now) c.args.network.now c.args.marks.now c.args.waits.now.awaited.items c.args.waits.now.count.items c.args.ready.now c.args.order.now.items c.in-Some.entry c.pop.new.self c.args.wires.now.graph c.requires.network c.requires.listing c.in-Some.ensures.least in
    omega (arith, t.element, c.requires.last.count)

pub offset_bounds-last-x : goal.offset_bounds-last-x
offset_bounds-last-x c =
    let t = taken (graph_of c.args.wires.now) c.args.network.now c.args.marks.now c.args.waits.now.awaited.items c.args.waits.now.count.items c.args.ready.now c.args.order.now.items c.in-Some.entry c.pop.new.self c.args.wires.now.graph c.requires.network c.requires.listing c.in-Some.ensures.least in
    let below : c.in-Some.entry.element < length c.args.last.now = omega (arith, t.element, c.requires.last.count) in
    let bounds = c.type_inv.last in
    search rules

pub tell-requires-clause-entries : goal.tell-requires-clause-entries
tell-requires-clause-entries c =
    (taken (graph_of c.args.wires.now) c.args.network.now c.args.marks.now c.args.waits.now.awaited.items c.args.waits.now.count.items c.args.ready.now c.args.order.now.items c.in-Some.entry c.pop.new.self c.args.wires.now.graph c.requires.network c.requires.listing c.in-Some.ensures.least).entries

pub tell-requires-clause-inside : goal.tell-requires-clause-inside
tell-requires-clause-inside c = λ i hi from on.
    let t = taken (graph_of c.args.wires.now) c.args.network.now c.args.marks.now c.args.waits.now.awaited.items c.args.waits.now.count.items c.args.ready.now c.args.order.now.items c.in-Some.entry c.pop.new.self c.args.wires.now.graph c.requires.network c.requires.listing c.in-Some.ensures.least in
    c.requires.listing.out_of i hi (subst (Listed c.args.network.now) (sym from) t.inside) on

pub returns-clause-listing : goal.returns-clause-listing
returns-clause-listing c =
    let g = graph_of c.args.wires.now in
    let t = taken (graph_of c.args.wires.now) c.args.network.now c.args.marks.now c.args.waits.now.awaited.items c.args.waits.now.count.items c.args.ready.now c.args.order.now.items c.in-Some.entry c.pop.new.self c.args.wires.now.graph c.requires.network c.requires.listing c.in-Some.ensures.least in
    subst (IsListing g c.args.network.now c.args.marks.now c.tell.new.waits.awaited.items c.tell.new.waits.count.items c.tell.new.ready) (sym c.in_ok-push.ensures.items)
    (listing_more g c.args.network.now c.args.marks.now c.args.waits.now.awaited.items c.tell.new.waits.awaited.items c.args.waits.now.count.items c.tell.new.waits.count.items c.args.ready.now c.pop.new.self c.tell.new.ready c.args.order.now.items c.in-Some.entry c.args.wires.now.graph c.requires.network c.requires.listing t c.in_ok-tell.ensures.counted c.in_ok-tell.ensures.heard c.in_ok-tell.ensures.balance c.in_ok-tell.ensures.entries)

pub returns-clause-others : goal.returns-clause-others
returns-clause-others c =
    let t = taken (graph_of c.args.wires.now) c.args.network.now c.args.marks.now c.args.waits.now.awaited.items c.args.waits.now.count.items c.args.ready.now c.args.order.now.items c.in-Some.entry c.pop.new.self c.args.wires.now.graph c.requires.network c.requires.listing c.in-Some.ensures.least in
    leaves_others (graph_of c.args.wires.now) c.args.network.now c.args.waits.now.awaited.items c.tell.new.waits.awaited.items c.in-Some.entry.element t.inside c.in_ok-tell.ensures.heard

pub returns-clause-more : goal.returns-clause-more
returns-clause-more c = λ _.
    let n = elements (graph_of c.args.wires.now) in
    let t = taken (graph_of c.args.wires.now) c.args.network.now c.args.marks.now c.args.waits.now.awaited.items c.args.waits.now.count.items c.args.ready.now c.args.order.now.items c.in-Some.entry c.pop.new.self c.args.wires.now.graph c.requires.network c.requires.listing c.in-Some.ensures.least in
    subst (λ xs. unlisted n xs < unlisted n c.args.order.now.items) (sym c.in_ok-push.ensures.items) (fewer_unlisted n c.args.order.now.items c.in-Some.entry.element t.element t.new_there)
