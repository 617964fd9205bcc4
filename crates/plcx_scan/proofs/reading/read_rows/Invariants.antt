use Rattle.std.proofs.Common.{length}
use Rattle.plcx_scan.specs.ReadFiles.{AreRead}
use Rattle.plcx_scan.proofs.reading.read_rows.Given as goal

abbrev pub invariant-rows : goal.invariant-rows
invariant-rows l = AreRead l.columns l.fn.records l.records l.entries.items l.inputs.items l.last

abbrev pub decreases-rows : goal.decreases-rows
decreases-rows l = length l.records
