use Rattle.std.proofs.Common.{◌≡◌, ◌++◌, drop}
use Rattle.plcx_scan.specs.Rows.{shown_from, shown_numbers}
use Rattle.plcx_scan.proofs.row.shown_numbers.Given as goal

abbrev pub invariant-loop-number : goal.invariant-loop-number
invariant-loop-number l = l.numbers.items ++ shown_from l.number (drop l.number l.leaves) ≡ shown_numbers l.leaves
