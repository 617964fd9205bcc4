use Rattle.std.proofs.Common.{◌≡◌, ◌++◌, map, take}
use Rattle.plcx_tasks.specs.Steps.{restart_at}
use Rattle.plcx_tasks.proofs.scheduling.push_restarts.Given as goal

abbrev pub invariant-loop-rank : goal.invariant-loop-rank
invariant-loop-rank l = l.steps.items ≡ l.initial.steps.items ++ map (restart_at l.event l.restart) (take l.rank-index l.ranks)
