use Rattle.std.proofs.Common.{◌≡◌, ◌++◌, drop, map}
use Rattle.plcx_cover.specs.Listed.{shown_wire}
use Rattle.plcx_cover.specs.Texts.{lines}
use Rattle.plcx_cover.proofs.printing.push_lines.Given as goal

-- the lines so far, and those that are left
abbrev pub invariant-loop-place : goal.invariant-loop-place
invariant-loop-place l =
    l.text.items ++ lines (map shown_wire (drop l.place l.wires)) (drop l.place l.rows) ≡ l.initial.text.items ++ lines (map shown_wire l.wires) l.rows
