use Rattle.std.proofs.Common.{◌≡◌, ◌++◌, List, drop, option_map}
use Rattle.plcx_ticks.specs.declared.column.TickColumn.{TickColumn}
use Rattle.plcx_ticks.specs.ReadTicks.{columns_from}
use Rattle.plcx_ticks.proofs.column.named_columns.Given as goal

abbrev pub invariant-loop-i : goal.invariant-loop-i
invariant-loop-i l =
    option_map (λ (cs : List TickColumn). l.columns.items ++ cs) (columns_from l.instances l.tables (drop l.i l.header)) ≡ columns_from l.instances l.tables (drop 2 l.header)
