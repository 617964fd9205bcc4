use Rattle.plcx_eval.proofs.Hearing.{in_order}
use Rattle.plcx_eval.proofs.watching.heard_in_order.Goals as goal

pub returns : goal.returns
returns c = in_order
