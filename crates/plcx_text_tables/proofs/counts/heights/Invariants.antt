use Rattle.std.proofs.Common.{◌≡◌}
use Rattle.plcx_text_tables.specs.Counts.{heights}
use Rattle.plcx_text_tables.proofs.counts.heights.Given as goal

abbrev pub invariant-loop-level : goal.invariant-loop-level
invariant-loop-level l = l.all.items ≡ heights l._level l.owners
