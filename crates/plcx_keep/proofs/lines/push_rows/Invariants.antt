use Rattle.std.proofs.Common.{◌≡◌, ◌++◌, take}
use Rattle.plcx_keep.specs.Texts.{rows_text}
use Rattle.plcx_keep.proofs.lines.push_rows.Given as goal

abbrev pub invariant-loop-row : goal.invariant-loop-row
invariant-loop-row l = l.text.items ≡ l.initial.text.items ++ rows_text l.leaves (take l.row-index l.rows)
