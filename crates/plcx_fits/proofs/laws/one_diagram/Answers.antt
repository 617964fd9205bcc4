use Rattle.plcx_fits.proofs.OneDiagram.{one_diagram}
use Rattle.plcx_fits.proofs.laws.one_diagram.Goals as goal

pub returns : goal.returns
returns c = one_diagram c.one_order.ensures c.one_list_of_networks.ensures
