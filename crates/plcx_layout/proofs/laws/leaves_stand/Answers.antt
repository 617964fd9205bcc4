use Rattle.plcx_layout.proofs.Stands.{stand}
use Rattle.plcx_layout.proofs.laws.leaves_stand.Goals as goal

pub returns : goal.returns
returns c = stand c.checked_fits.ensures
