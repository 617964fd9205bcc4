use Rattle.plcx_layout.proofs.Laid.{leaves_laid}
use Rattle.plcx_layout.proofs.laws.leaves_are_laid.Goals as goal

pub returns : goal.returns
returns c = leaves_laid
