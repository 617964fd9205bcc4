use Rattle.std.proofs.Common.{length}
use Rattle.plcx_types.proofs.duration.+parts.Given as goal

abbrev pub decreases-parts : goal.decreases-parts
decreases-parts l = length l.units.now
