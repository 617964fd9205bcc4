use Rattle.plcx_read.proofs.WholeText.{one_text}
use Rattle.plcx_read.proofs.text.one_unit.Goals as goal

pub returns : goal.returns
returns c = one_text
