use Rattle.plcx_xml.proofs.OneFault.{fault-one}
use Rattle.plcx_xml.proofs.laws.one_fault.Goals as goal

pub returns : goal.returns
returns c = fault-one
