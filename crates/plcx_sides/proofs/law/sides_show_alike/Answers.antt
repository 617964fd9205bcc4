use Rattle.plcx_sides.proofs.Both.{show}
use Rattle.plcx_sides.proofs.law.sides_show_alike.Goals as goal

pub returns : goal.returns
returns c = λ project name kept other d t opened turns es come e u behind a b. show project name kept other d t opened turns es e u behind c.machines_show_alike.ensures come a b
