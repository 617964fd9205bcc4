use Rattle.std.proofs.Common.{length}
use Rattle.plcx_xml.specs.Built.{Reached}
use Rattle.plcx_xml.proofs.reading.build_of.Given as goal

abbrev pub invariant-loop-rest : goal.invariant-loop-rest
invariant-loop-rest l = Reached l.front l.rest l.build

abbrev pub decreases-loop-rest : goal.decreases-loop-rest
decreases-loop-rest l = length l.rest
