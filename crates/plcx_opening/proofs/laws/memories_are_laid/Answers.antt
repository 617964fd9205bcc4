use Rattle.plcx_opening.proofs.Remembering.{memories_laid}
use Rattle.plcx_opening.proofs.laws.memories_are_laid.Goals as goal

pub returns : goal.returns
returns c = memories_laid
