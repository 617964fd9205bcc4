use Rattle.plcx_xml.proofs.OneFile.{no-tree}
use Rattle.plcx_xml.proofs.laws.no_tree.Goals as goal

pub returns : goal.returns
returns c = no-tree
