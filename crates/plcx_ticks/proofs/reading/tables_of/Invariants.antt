use Rattle.std.proofs.Common.{◌≡◌, take}
use Rattle.plcx_types.specs.Lists.{Each}
use Rattle.plcx_ticks.specs.ReadTicks.{tables_of, IsTable}
use Rattle.plcx_ticks.proofs.reading.tables_of.Given as goal

abbrev pub invariant-loop-layout : goal.invariant-loop-layout
invariant-loop-layout l = record {
  leaves : l.tables.items ≡ tables_of (take l.layout-index l.layouts);
  tables : Each IsTable l.tables.items;
}
