use Rattle.std.proofs.Common.{◌≡◌, max, map, drop}
use Rattle.plcx_tables.specs.Telling.{shown}
use Rattle.plcx_tables.specs.Levels.{greatest, level_weight}
use Rattle.plcx_tables.proofs.levels.level_of.Given as goal

abbrev pub invariant-loop-variable : goal.invariant-loop-variable
invariant-loop-variable l = max l.level (greatest (level_weight l.levels) (map shown (drop l.variable-index l.variable-items))) ≡ greatest (level_weight l.levels) (map shown l.variable-items)
