use Rattle.std.proofs.Common.{◌≡◌, ◌++◌, drop}
use Rattle.plcx_tasks.specs.Orders.{ranks_from}
use Rattle.plcx_tasks.proofs.ranking.ranks_of.Given as goal

abbrev pub invariant-loop-number : goal.invariant-loop-number
invariant-loop-number l = l.ranks.items ++ ranks_from l.plan.tasks l.number (drop l.number l.instance-items) ≡ ranks_from l.plan.tasks 0 l.instance-items
