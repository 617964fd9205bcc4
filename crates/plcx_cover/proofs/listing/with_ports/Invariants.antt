use Rattle.std.proofs.Common.{◌≡◌, ◌++◌, drop, map}
use Rattle.plcx_drawn.specs.Shown.{shown_port}
use Rattle.plcx_cover.specs.Listed.{shown_wire}
use Rattle.plcx_cover.specs.Wires.{wires_from}
use Rattle.plcx_cover.proofs.listing.with_ports.Given as goal

abbrev pub invariant-loop-port : goal.invariant-loop-port
invariant-loop-port l =
    map shown_wire l.all.items ++ wires_from l.pou l.name l.local_id l.number (map shown_port (drop l.port-index l.ports))
    ≡ map shown_wire l.initial.all.items ++ wires_from l.pou l.name l.local_id 0 (map shown_port l.ports)
