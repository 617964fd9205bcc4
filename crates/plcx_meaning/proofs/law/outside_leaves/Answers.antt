use Rattle.plcx_meaning.proofs.Events.{layout_outside}
use Rattle.plcx_meaning.proofs.law.outside_leaves.Goals as goal

pub returns : goal.returns
returns c = layout_outside
