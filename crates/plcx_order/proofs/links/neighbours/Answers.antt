use Rattle.std.proofs.Common.{◌≡◌, ◌<◌, slice_index, refl, sym, subst, arith}
use Rattle.std.proofs.lemmas.List.{get_or_read}
use Rattle.plcx_model.specs.Graph.{from_at, to_at}
use Rattle.plcx_order.specs.Walks.{IsLast}
use Rattle.plcx_order.proofs.ChainSteps.{last_more, table_more}
use Rattle.plcx_order.proofs.links.neighbours.Goals as goal

pub loop-i-preserved : goal.loop-i-preserved
loop-i-preserved c =
    let ws = c.args.links.now in
    let n = c.args.count in
    let i = c.loop-i.i in
    let last = c.loop-i.last.items in
    let old = c.loop-i.invariant.last in
    let below : from_at ws i < n = c.requires.within i c.loop-i-test.true in
    let read : c.index.result.now ≡ slice_index last (from_at ws i) = get_or_read last (from_at ws i) c.index.result.now (omega (arith, old.count)) c.index.ensures 0 in
    record {
      last = last_more n ws i last old below;
      table = rw (c.in_ok-push.ensures.items, c.in_ok-push-2.ensures.items) (table_more ws i c.loop-i.before.items c.loop-i.to.items c.index.result.now (to_at ws i) c.loop-i.invariant.table (subst (IsLast ws i (from_at ws i)) (sym read) (old.each (from_at ws i) below)) refl);
    }
