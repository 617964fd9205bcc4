use Rattle.std.proofs.Common.{take}
use Rattle.std.specs.List.{AllZip}
use Rattle.plcx_tables.specs.Tabled.{IsPlaced}
use Rattle.plcx_tables.proofs.table.tables_by.Given as goal

abbrev pub invariant-loop-own : goal.invariant-loop-own
invariant-loop-own l = AllZip (IsPlaced l.leaves l.memories l.levels) (take l.own-index l.owns) l.tables.items
