use Rattle.std.proofs.Common.{◌≡◌, ◌+◌, map, drop}
use Rattle.std.specs.List.{sum_by}
use Rattle.plcx_tables.specs.Telling.{shown}
use Rattle.plcx_tables.specs.Levels.{leaf_weight}
use Rattle.plcx_tables.proofs.levels.leaves_of.Given as goal

abbrev pub invariant-loop-variable : goal.invariant-loop-variable
invariant-loop-variable l = l.count + sum_by (leaf_weight l.standard l.leaves) (map shown (drop l.variable-index l.variable-items)) ≡ sum_by (leaf_weight l.standard l.leaves) (map shown l.variable-items)
