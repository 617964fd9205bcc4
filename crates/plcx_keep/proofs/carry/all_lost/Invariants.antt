use Rattle.std.proofs.Common.{◌≡◌, ◌++◌, drop}
use Rattle.plcx_keep.specs.Carries.{lost_from}
use Rattle.plcx_keep.proofs.carry.all_lost.Given as goal

abbrev pub invariant-loop-number : goal.invariant-loop-number
invariant-loop-number l = l.lost.items ++ lost_from l.after l.state l.number (drop l.number l.leaves) ≡ lost_from l.after l.state 0 l.leaves
