use Rattle.plcx_sides.proofs.Both.{tell}
use Rattle.plcx_sides.proofs.law.sides_tell_alike.Goals as goal

pub returns : goal.returns
returns c = λ project name kept other d t opened turns es next come e u behind x y a b. tell project name kept other d t opened turns es e u behind c.machines_tell_alike.ensures next come x y a b
