use Rattle.std.proofs.Common.{◌≡◌, ◌++◌, ◌+◌, drop}
use Rattle.plcx_scan.specs.Texts.{rows_text}
use Rattle.plcx_scan.proofs.tracing.push_rows.Given as goal

abbrev pub invariant-loop-place : goal.invariant-loop-place
invariant-loop-place l = l.text.items ++ rows_text (l.place + 1) (drop l.place l.rows) ≡ l.initial.text.items ++ rows_text 1 l.rows
