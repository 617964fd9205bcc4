use Rattle.std.proofs.Common.{◌≡◌, length}
use Rattle.plcx_text_program.proofs.pous.none.Given as goal

abbrev pub invariant-loop-place : goal.invariant-loop-place
invariant-loop-place l = length l.entries.items ≡ l._place
