use Rattle.std.proofs.Common.{◌≡◌, ℕ, ◌<◌, Some}
use Rattle.std.specs.Prelude.{slice_get}
use Rattle.plcx_tables.specs.declared.placed.Table.{Table}
use Rattle.plcx_tables.specs.Numbering.{FitsIn}
use Rattle.plcx_tables.proofs.fitting.all_fit.Given as goal

abbrev pub invariant-loop-table : goal.invariant-loop-table
invariant-loop-table l = (k : ℕ) (t : Table) → k < l.table-index → slice_get l.tables k ≡ Some t → FitsIn l.tables t
