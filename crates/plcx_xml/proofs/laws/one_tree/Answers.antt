use Rattle.plcx_xml.proofs.OneTree.{tree-one}
use Rattle.plcx_xml.proofs.laws.one_tree.Goals as goal

pub returns : goal.returns
returns c = tree-one
