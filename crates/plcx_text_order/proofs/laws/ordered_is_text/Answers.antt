use Rattle.plcx_text_order.proofs.Ordered.{text_is}
use Rattle.plcx_text_order.proofs.laws.ordered_is_text.Goals as goal

pub returns : goal.returns
returns c = λ unit ready m reached program text has bare bodies framed. text_is unit ready m reached program text has bare bodies framed
