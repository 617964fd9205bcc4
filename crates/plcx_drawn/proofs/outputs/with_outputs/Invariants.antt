use Rattle.std.proofs.Common.{◌≡◌, ◌++◌, drop, map}
use Rattle.plcx_meaning.specs.Diagram.{output_ports}
use Rattle.plcx_drawn.specs.Shown.{shown_output_pin, shown_port}
use Rattle.plcx_drawn.proofs.outputs.with_outputs.Given as goal

abbrev pub invariant-loop-output : goal.invariant-loop-output
invariant-loop-output l =
    map shown_port l.all.items ++ output_ports (map shown_output_pin (drop l.output-index l.outputs))
    ≡ map shown_port l.initial.all.items ++ output_ports (map shown_output_pin l.outputs)
