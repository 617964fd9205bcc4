use Rattle.std.proofs.Common.{◌≡◌, ◌++◌, take}
use Rattle.plcx_model.specs.Numbering.{wires_at_pin}
use Rattle.plcx_model.proofs.numbering.add_pin.Given as goal

abbrev pub invariant-loop-source : goal.invariant-loop-source
invariant-loop-source l = l.wires.items ≡ l.fn.wires.items ++ wires_at_pin l.element l.pin (take l.source-index l.sources)
