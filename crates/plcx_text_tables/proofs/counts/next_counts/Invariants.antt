use Rattle.std.proofs.Common.{◌≡◌, ◌++◌, drop}
use Rattle.plcx_text_tables.specs.Counts.{next_counts}
use Rattle.plcx_text_tables.proofs.counts.next_counts.Given as goal

abbrev pub invariant-loop-owner : goal.invariant-loop-owner
invariant-loop-owner l = l.next.items ++ next_counts l.depth (drop l.owner-index l.owners) l.counts ≡ next_counts l.depth l.owners l.counts
