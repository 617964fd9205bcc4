use Rattle.plcx_meaning.proofs.Events.{layout_spelled}
use Rattle.plcx_meaning.proofs.law.spelled_leaves.Goals as goal

pub returns : goal.returns
returns c = layout_spelled
