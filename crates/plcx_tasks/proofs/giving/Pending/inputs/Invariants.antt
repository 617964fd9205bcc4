use Rattle.std.proofs.Common.{◌≡◌, map, take}
use Rattle.plcx_tasks.specs.Steps.{entry_input}
use Rattle.plcx_tasks.proofs.giving.Pending.inputs.Given as goal

abbrev pub invariant-loop-place : goal.invariant-loop-place
invariant-loop-place l = l.inputs.items ≡ map entry_input (take l.place l.entries)
