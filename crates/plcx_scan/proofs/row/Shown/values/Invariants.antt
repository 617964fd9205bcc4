use Rattle.std.proofs.Common.{◌≡◌, ◌++◌, take}
use Rattle.plcx_scan.specs.Rows.{picked}
use Rattle.plcx_scan.proofs.row.Shown.values.Given as goal

abbrev pub invariant-loop-number : goal.invariant-loop-number
invariant-loop-number l = l.shown.items ≡ l.initial.shown.items ++ picked (take l.number-index l.number-items) l.values
