use Rattle.std.proofs.Common.{drop, map}
use Rattle.plcx_plan.specs.Seen.{shown, IsFew}
use Rattle.plcx_plan.proofs.Loop.{IsUnderway}
use Rattle.plcx_plan.proofs.reading.plan_in.Given as goal

-- the items before are read
abbrev pub invariant-loop-item : goal.invariant-loop-item
invariant-loop-item l = IsUnderway l.project (map shown l.items) (map shown (drop l.item-index l.items)) l.progress × IsFew l.progress
