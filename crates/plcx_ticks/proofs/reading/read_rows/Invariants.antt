use Rattle.std.proofs.Common.{length}
use Rattle.plcx_ticks.specs.ReadTicks.{AreRead}
use Rattle.plcx_ticks.proofs.reading.read_rows.Given as goal

abbrev pub invariant-rows : goal.invariant-rows
invariant-rows l = AreRead l.columns l.fn.records l.records l.events.items l.last

abbrev pub decreases-rows : goal.decreases-rows
decreases-rows l = length l.records
