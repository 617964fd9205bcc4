use Rattle.std.proofs.Common.{◌≡◌, ◌+◌, ◌++◌, drop, length}
use Rattle.plcx_model.specs.Numbering.{wires_from, pins_in}
use Rattle.plcx_model.proofs.numbering.wires_of.Given as goal

abbrev pub invariant-loop-e : goal.invariant-loop-e
invariant-loop-e l = record {
  wires : l.wires.items ++ wires_from l.e (drop l.e l.elements) (drop l.at l.pins) ≡ wires_from 0 l.elements l.pins;
  pins : l.at + pins_in (drop l.e l.elements) ≡ length l.pins;
}
