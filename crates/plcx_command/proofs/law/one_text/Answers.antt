use Rattle.plcx_command.proofs.Composed.{one_compiled}
use Rattle.plcx_command.proofs.law.one_text.Goals as goal

pub returns : goal.returns
returns c = one_compiled c.one_list_of_diagrams.ensures
