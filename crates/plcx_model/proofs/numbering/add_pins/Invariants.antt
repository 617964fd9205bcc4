use Rattle.std.proofs.Common.{◌≡◌, ◌++◌, drop}
use Rattle.plcx_model.specs.Numbering.{wires_at_pins}
use Rattle.plcx_model.proofs.numbering.add_pins.Given as goal

abbrev pub invariant-loop-pin : goal.invariant-loop-pin
invariant-loop-pin l = l.wires.items ++ wires_at_pins l.element l.pin (drop l.pin l.pins) ≡ l.fn.wires.items ++ wires_at_pins l.element 0 l.pins
