use Rattle.std.proofs.Common.{◌≡◌, ◌+◌, map, drop}
use Rattle.std.specs.List.{sum_by}
use Rattle.plcx_tables.specs.Telling.{shown}
use Rattle.plcx_tables.specs.Levels.{memory_weight}
use Rattle.plcx_tables.proofs.levels.memories_of.Given as goal

abbrev pub invariant-loop-variable : goal.invariant-loop-variable
invariant-loop-variable l = l.count + sum_by (memory_weight l.memories) (map shown (drop l.variable-index l.variable-items)) ≡ l.initial.count + sum_by (memory_weight l.memories) (map shown l.variable-items)
