use Rattle.std.proofs.Common.{◌∙◌}
use Rattle.plcx_cover.proofs.Placed.{key_more}
use Rattle.plcx_cover.proofs.counting.keys_of.Goals as goal

pub loop-row-preserved : goal.loop-row-preserved
loop-row-preserved c = c.in_ok-insert.ensures.keys ∙ key_more c.args.rows.now c.loop-row.row-index _ c.loop-row.keys.keys c.key_of.result c.requires c.loop-row.invariant c.loop-row-test.true c.key_of.ensures
