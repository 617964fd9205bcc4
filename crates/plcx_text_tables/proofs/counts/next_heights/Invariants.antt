use Rattle.std.proofs.Common.{◌≡◌, ◌++◌, drop}
use Rattle.plcx_text_tables.specs.Counts.{next_heights}
use Rattle.plcx_text_tables.proofs.counts.next_heights.Given as goal

abbrev pub invariant-loop-owner : goal.invariant-loop-owner
invariant-loop-owner l = l.next.items ++ next_heights (drop l.owner-index l.owners) l.heights ≡ next_heights l.owners l.heights
