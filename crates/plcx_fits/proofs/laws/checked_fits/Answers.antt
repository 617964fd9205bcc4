use Rattle.plcx_fits.proofs.Ordered.{checked_fit}
use Rattle.plcx_fits.proofs.laws.checked_fits.Goals as goal

pub returns : goal.returns
returns c = checked_fit
