use Rattle.std.proofs.Common.{◌≡◌, ◌++◌, drop, map}
use Rattle.plcx_text_tables.specs.Tabled.{table_of, shown_table}
use Rattle.plcx_text_tables.proofs.tables.tables_of.Given as goal

abbrev pub invariant-loop-owner : goal.invariant-loop-owner
invariant-loop-owner l = map shown_table l.all.items ++ map (table_of l.counts) (drop l.owner-index l.owners) ≡ map (table_of l.counts) l.owners
