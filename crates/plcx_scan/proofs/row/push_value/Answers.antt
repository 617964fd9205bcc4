use Rattle.plcx_scan.proofs.Picked.{past_end}
use Rattle.plcx_scan.proofs.row.push_value.Goals as goal

pub returns-in_default : goal.returns-in_default
returns-in_default c = past_end c.args.shown.now.items c.args.values.now c.args.number c.in_default.ensures.lookup.3
