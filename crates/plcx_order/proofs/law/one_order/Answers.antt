use Rattle.plcx_order.proofs.OneOrder.{have_one_order}
use Rattle.plcx_order.proofs.law.one_order.Goals as goal

pub returns : goal.returns
returns c = have_one_order
