use Rattle.std.proofs.Common.{◌≡◌, ◌<◌, ◌+◌, set, slice_index, sym, ◌∙◌, ap, subst, arith}
use Rattle.std.proofs.lemmas.List.{get_or_read}
use Rattle.plcx_model.specs.Graph.{from_at, to_at}
use Rattle.plcx_order.specs.Walks.{AreLast, IsLast}
use Rattle.plcx_order.proofs.ChainSteps.{last_more, table_more}
use Rattle.plcx_model.specs.Graph.{elements}
use Rattle.plcx_model.specs.Shown.{graph_of}
use Rattle.plcx_order.proofs.chains.chains.Goals as goal

pub loop-i-preserved : goal.loop-i-preserved
loop-i-preserved g c =
    let ws = (graph_of c.args.wires.now).wires in
    let n = (elements (graph_of c.args.wires.now)) in
    let i = c.loop-i.i in
    let last = c.loop-i.last.items in
    let from : c.look-wire.result.from.element ≡ from_at ws i = ap (λ w. w.from.element) c.look-wire.ensures.value in
    let into : c.look-wire.result.to.element ≡ to_at ws i = ap (λ w. w.to.element) c.look-wire.ensures.value in
    let old = c.loop-i.invariant.last in
    let below : from_at ws i < n = omega (arith, c.look-wire.ensures.from) in
    let read : c.index.result.now ≡ slice_index last (from_at ws i) = get_or_read last c.look-wire.result.from.element c.index.result.now (omega (arith, old.count)) c.index.ensures 0 ∙ ap (slice_index last) from in
    record {
      last = subst (λ x. AreLast n ws (i + 1) (set last x (i + 1))) (sym from) (last_more n ws i last old below);
      table = rw (c.in_ok-push.ensures.items, c.in_ok-push-2.ensures.items) (table_more ws i c.loop-i.before.items c.loop-i.to.items c.index.result.now c.look-wire.result.to.element c.loop-i.invariant.table (subst (IsLast ws i (from_at ws i)) (sym read) (old.each (from_at ws i) below)) into);
      cost = omega arith;
    }
