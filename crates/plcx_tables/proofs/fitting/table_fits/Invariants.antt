use Rattle.std.proofs.Common.{◌≡◌, ℕ, ◌+◌, ◌^◌, ◌<◌, map, Some}
use Rattle.std.specs.Prelude.{slice_get}
use Rattle.plcx_tables.specs.declared.placed.Placed.{Placed}
use Rattle.plcx_tables.specs.declared.placed.Table.{Table}
use Rattle.plcx_tables.specs.Telling.{shown}
use Rattle.plcx_tables.specs.Placing.{span}
use Rattle.plcx_tables.proofs.fitting.table_fits.Given as goal

abbrev pub invariant-loop-placed : goal.invariant-loop-placed
invariant-loop-placed l = (k : ℕ) (p : Placed) → k < l.placed-index → slice_get l.placed-items k ≡ Some p → p.leaf + span (map (λ (t : Table). t.leaves) l.tables) (shown p.variable) < 2 ^ 32
