-- What `Wires` shows.
use Rattle.plcx_model.specs.declared.wires.Wires.{Wires}
use Rattle.plcx_model.specs.Graph.{Graph}

abbrev pub graph_of : Wires → Graph
graph_of w = record { keys = w.keys.items; parts = w.parts.items; wires = w.wires.items }
