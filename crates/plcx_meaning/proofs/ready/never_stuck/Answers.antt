use Rattle.plcx_meaning.proofs.StuckBodies.{program_goes}
use Rattle.plcx_meaning.proofs.ready.never_stuck.Goals as goal

pub returns : goal.returns
returns c = λ unit ready name p named turns time inputs g. program_goes unit ready time name p named turns inputs g
