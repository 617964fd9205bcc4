use Rattle.std.proofs.Common.{◌≡◌}
use Rattle.plcx_known.specs.Chains.{levels}
use Rattle.plcx_known.proofs.chains.level.Given as goal

abbrev pub invariant-loop-depth : goal.invariant-loop-depth
invariant-loop-depth l = l.level.items ≡ levels l._depth l.owners
