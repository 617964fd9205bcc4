use Rattle.plcx_runnable.proofs.Standing.{types_stay}
use Rattle.plcx_runnable.proofs.laws.types_stay.Goals as goal

pub returns : goal.returns
returns c = types_stay
