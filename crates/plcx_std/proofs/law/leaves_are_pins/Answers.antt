use Rattle.plcx_std.proofs.LeafTypes.{leaves_law}
use Rattle.plcx_std.proofs.law.leaves_are_pins.Goals as goal

pub returns : goal.returns
returns c = leaves_law
