use Rattle.std.proofs.Common.{◌≡◌, ◌++◌, drop}
use Rattle.plcx_tables.specs.Placing.{placed_from}
use Rattle.plcx_tables.proofs.table.placed_in.Given as goal

abbrev pub invariant-loop-variable : goal.invariant-loop-variable
invariant-loop-variable l =
    l.placed.items ++ placed_from l.leaves l.memories l.leaf l.memory l.in_out (drop l.variable-index l.variable-items) ≡ placed_from l.leaves l.memories 0 l.own.memories.count 0 l.variable-items
