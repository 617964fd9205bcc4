use Rattle.std.proofs.Common.{ap₂}
use Rattle.plcx_meaning.specs.Evaluate.{diagram_machine}
use Rattle.plcx_eval.proofs.side.DiagramSideSide.scan.Goals as goal

pub returns-clause-machine : goal.returns-clause-machine
returns-clause-machine c = ap₂ diagram_machine c.scan_watched.ensures.project c.scan_watched.ensures.program
