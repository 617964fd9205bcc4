use Rattle.std.proofs.Common.{◌≡◌, ◌++◌, drop, map}
use Rattle.plcx_drawn.specs.Shown.{shown_port}
use Rattle.plcx_bodies.specs.Parts.{defaults}
use Rattle.plcx_bodies.proofs.wires.with_ports.Given as goal

abbrev pub invariant-loop-port : goal.invariant-loop-port
invariant-loop-port l = l.all.items ++ defaults (map shown_port (drop l.port-index l.ports)) ≡ l.fn.wires.items ++ defaults (map shown_port l.ports)
