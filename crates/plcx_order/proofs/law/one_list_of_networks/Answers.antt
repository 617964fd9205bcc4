use Rattle.plcx_order.proofs.OneNetworks.{have_one_list}
use Rattle.plcx_order.proofs.law.one_list_of_networks.Goals as goal

pub returns : goal.returns
returns c = have_one_list
