use Rattle.plcx_meaning.proofs.ReadyUnits.{unit_ready}
use Rattle.plcx_meaning.proofs.ready.texts_are_ready.Goals as goal

pub returns : goal.returns
returns c = unit_ready
