use Rattle.std.proofs.Common.{◌<◌, slice_index}
use Rattle.plcx_model.specs.Graph.{elements}
use Rattle.plcx_model.specs.Shown.{graph_of}
use Rattle.plcx_model.specs.Networks.{Listed}
use Rattle.plcx_order.specs.Classes.{IsSpread, KeepsNumbers, left_to_do}
use Rattle.plcx_order.proofs.classes.Classes.walk.Given as goal

abbrev pub invariant-loop-u : goal.invariant-loop-u
invariant-loop-u l = record {
  spread : IsSpread (graph_of l.wires) l.self.number.items (Listed l.self.todo.items) l.self.firsts.items;
  kept : KeepsNumbers l.fn.self.number.items l.self.number.items;
  seen : 0 < slice_index l.self.number.items l.root;
}

abbrev pub decreases-loop-u : goal.decreases-loop-u
decreases-loop-u l = left_to_do (elements (graph_of l.wires)) l.self.number.items l.self.todo.items
