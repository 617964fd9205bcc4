use Rattle.std.proofs.Common.{take}
use Rattle.plcx_view.specs.Checked.{ArePlans}
use Rattle.plcx_check.proofs.plans.plan.Given as goal

abbrev pub invariant-loop-place : goal.invariant-loop-place
invariant-loop-place l = ArePlans (take l.place l.pous) l.plans.items
