use Rattle.std.proofs.Common.{◌≡◌, ◌++◌, length, reverse}
use Rattle.plcx_profile.specs.Heads.{joined}
use Rattle.plcx_profile.proofs.settling.joined.Given as goal

-- what is left, and what is joined, the last first
abbrev pub invariant-loop-head : goal.invariant-loop-head
invariant-loop-head l = record {
  same : length l.heads.items ≡ length l.pous;
  made : joined l.heads.items l.pous ++ reverse l.all.items ≡ joined l.initial.heads.items l.initial.pous;
}

abbrev pub decreases-loop-head : goal.decreases-loop-head
decreases-loop-head l = length l.heads.items
