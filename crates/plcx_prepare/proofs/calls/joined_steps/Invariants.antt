use Rattle.std.proofs.Common.{◌≡◌, ◌++◌, take}
use Rattle.plcx_prepare.proofs.calls.joined_steps.Given as goal

abbrev pub invariant-loop-step : goal.invariant-loop-step
invariant-loop-step l = l.all.items ≡ l.fn.steps.items ++ take l.step-index l.step-items
