use Rattle.std.proofs.Common.{◌≡◌}
use Rattle.plcx_text_tables.specs.Counts.{counts}
use Rattle.plcx_text_tables.proofs.counts.counts.Given as goal

abbrev pub invariant-loop-depth : goal.invariant-loop-depth
invariant-loop-depth l = l.all.items ≡ counts l.depth l.owners
