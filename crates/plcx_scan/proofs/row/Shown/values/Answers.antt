use Rattle.plcx_scan.proofs.Picked.{picked_more}
use Rattle.plcx_scan.proofs.row.Shown.values.Goals as goal

pub loop-number-preserved : goal.loop-number-preserved
loop-number-preserved c = picked_more c.deref-number-items.result.now c.args.values.now c.new-shown.result.items c.loop-number.number-index _ _ _ c.loop-number-test.true c.loop-number.invariant c.in_ok-push_value.ensures
