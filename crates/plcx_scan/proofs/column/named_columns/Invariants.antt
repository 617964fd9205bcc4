use Rattle.std.proofs.Common.{◌≡◌, ◌++◌, List, drop, length, option_map}
use Rattle.plcx_scan.specs.declared.column.Column.{Column}
use Rattle.plcx_scan.specs.ReadFiles.{columns_from, none_taken}
use Rattle.plcx_scan.proofs.column.named_columns.Given as goal

abbrev pub invariant-loop-i : goal.invariant-loop-i
invariant-loop-i l = record {
  columns : option_map (λ (cs : List Column). l.columns.items ++ cs) (columns_from l.table l.taken.items (drop l.i l.header)) ≡ columns_from l.table (none_taken l.table) (drop 2 l.header);
  long : length l.taken.items ≡ length l.table;
}
