use Rattle.std.proofs.Common.{◌≡◌, ◌≤◌, ◌+◌, [], take, get_or, sym, ◌∙◌, subst, arith}
use Rattle.std.proofs.lemmas.List.{get_or_read}
use Rattle.plcx_model.specs.Shown.{graph_of}
use Rattle.plcx_model.specs.Networks.{IsNetwork}
use Rattle.plcx_model.specs.Orders.{IsOrder, AreOrders}
use Rattle.plcx_order.specs.Counts.{IsUntouched, LeavesOthers}
use Rattle.plcx_order.proofs.AllNetworks.{each_at, network_at, untouched_stays, orders_more, orders_end}
use Rattle.plcx_order.proofs.listing.list_networks.Goals as goal

pub loop-k-init : goal.loop-k-init
loop-k-init c =
    let g = graph_of c.args.wires.now in
    record {
      orders = subst (AreOrders g []) (sym c.new-orders.ensures.items) tt;
      waiting = c.requires.waiting;
      untouched = λ j low h. each_at (IsUntouched g c.args.marks.now c.args.waits.now.awaited.items) c.args.networks.now j [] c.requires.untouched h;
    }

pub list_network-requires-clause-network : goal.list_network-requires-clause-network
list_network-requires-clause-network c =
    let read : c.as_slice-network.result.now ≡ get_or c.args.networks.now c.loop-k.k [] = c.as_slice-network.ensures ∙ get_or_read c.args.networks.now c.loop-k.k c.index-networks-k.result c.loop-k-test.true c.index-networks-k.is [] in
    let g = graph_of c.args.wires.now in
    subst (IsNetwork g) (sym read) (network_at g c.args.networks.now c.loop-k.k c.requires.networks c.loop-k-test.true)

pub list_network-requires-clause-untouched : goal.list_network-requires-clause-untouched
list_network-requires-clause-untouched c =
    let read : c.as_slice-network.result.now ≡ get_or c.args.networks.now c.loop-k.k [] = c.as_slice-network.ensures ∙ get_or_read c.args.networks.now c.loop-k.k c.index-networks-k.result c.loop-k-test.true c.index-networks-k.is [] in
    let low : c.loop-k.k ≤ c.loop-k.k = omega arith in
    subst (IsUntouched (graph_of c.args.wires.now) c.args.marks.now c.loop-k.waits.awaited.items) (sym read) (c.loop-k.invariant.untouched c.loop-k.k low c.loop-k-test.true)

pub loop-k-preserved : goal.loop-k-preserved
loop-k-preserved c =
    let g = graph_of c.args.wires.now in
    let k = c.loop-k.k in
    let networks = c.args.networks.now in
    let network : c.as_slice-network.result.now ≡ get_or networks k [] = c.as_slice-network.ensures ∙ get_or_read networks k c.index-networks-k.result c.loop-k-test.true c.index-networks-k.is [] in
    let order : IsOrder g (get_or networks k []) c.from_vec.result = subst (IsOrder g (get_or networks k [])) (sym c.from_vec.ensures) (subst (λ n. IsOrder g n c.in_ok-order.order.items) network c.in_ok-order.ensures.order) in
    let others = subst (λ n. LeavesOthers g n c.loop-k.waits.awaited.items c.list_network.new.waits.awaited.items) network c.in_ok-order.ensures.others in
    record {
      orders = subst (AreOrders g (take (k + 1) networks)) (sym c.in_ok-push.ensures.items) (orders_more g networks c.loop-k.orders.items k c.from_vec.result c.loop-k-test.true c.loop-k.invariant.orders order);
      waiting = c.in_ok-order.ensures.waiting;
      untouched = λ j low h. untouched_stays g c.args.marks.now c.loop-k.waits.awaited.items c.list_network.new.waits.awaited.items networks k j c.requires.networks (omega arith) h others (c.loop-k.invariant.untouched j (omega arith) h);
    }

pub returns : goal.returns
returns c = orders_end (graph_of c.args.wires.now) c.args.networks.now c.loop-k.orders.items c.loop-k.k (omega (arith, c.loop-k-test.false, c.loop-k.auto.k-end)) c.loop-k.invariant.orders
