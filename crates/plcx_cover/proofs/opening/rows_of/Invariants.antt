use Rattle.std.proofs.Common.{◌≡◌, map, take}
use Rattle.plcx_cover.specs.Counts.{fresh}
use Rattle.plcx_cover.specs.Listed.{shown_wire}
use Rattle.plcx_cover.proofs.opening.rows_of.Given as goal

abbrev pub invariant-loop-wire : goal.invariant-loop-wire
invariant-loop-wire l = l.rows.items ≡ map fresh (map shown_wire (take l.wire-index l.wires))
