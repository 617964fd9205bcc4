use Rattle.std.proofs.Common.{◌≡◌, ◌++◌, drop}
use Rattle.plcx_keep.specs.Carries.{value_at, rows_from}
use Rattle.plcx_keep.proofs.carry.all_rows.Given as goal

abbrev pub invariant-loop-number : goal.invariant-loop-number
invariant-loop-number l = l.rows.items ++ rows_from (value_at l.before l.state) l.number (drop l.number l.leaves) ≡ rows_from (value_at l.before l.state) 0 l.leaves
