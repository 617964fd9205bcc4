use Rattle.std.proofs.Common.{◌≡◌, ◌++◌, drop}
use Rattle.plcx_state.specs.Lines.{retained_lines}
use Rattle.plcx_state.proofs.lines.all_lines.Given as goal

abbrev pub invariant-loop-i : goal.invariant-loop-i
invariant-loop-i l = l.text.items ++ retained_lines (drop l.i l.leaves) (drop l.i l.values) ≡ retained_lines l.leaves l.values
