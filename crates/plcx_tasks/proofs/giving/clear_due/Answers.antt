use Rattle.std.proofs.Common.{◌∙◌, ◌<◌, length, get_or, ap, arith}
use Rattle.plcx_tasks.specs.declared.ranking.Rank.{Rank}
use Rattle.plcx_tasks.specs.Steps.{AreWithin}
use Rattle.plcx_tasks.proofs.Putting.{one_cleared, cleared_long}
use Rattle.plcx_tasks.proofs.Stepping.{item_of, same_item}
use Rattle.plcx_tasks.proofs.giving.clear_due.Goals as goal

pub loop-rank-preserved : goal.loop-rank-preserved
loop-rank-preserved c =
    let inv = c.loop-rank.invariant in
    let long = inv.long in
    let none : Rank = record { priority = 0; task = 0; instance = 0 } in
    let r = get_or c.args.ranks.now c.loop-rank.rank-index none in
    let is = same_item c.args.ranks.now c.loop-rank.rank-index none c.loop-rank-test.true in
    let low : r.instance < length c.args.pending.now.items = item_of (AreWithin (length c.args.pending.now.items)) c.args.ranks.now c.loop-rank.rank-index r c.loop-rank-test.true is c.requires in
    record {
      long = ap length c.clear_if.ensures ∙ cleared_long c.loop-rank.pending.items r.instance c.is_set.result ∙ inv.long;
      left = one_cleared c.args.pending.now.items c.loop-rank.pending.items c.clear_if.new.pending.items c.args.due.now c.args.ranks.now c.loop-rank.rank-index r c.is_set.result
          (omega (arith, low, long)) c.loop-rank-test.true is c.is_set.ensures c.clear_if.ensures inv.left;
    }
