use Rattle.std.proofs.Common.{◌≡◌, ◌<◌, ◌≤◌, ◌-◌, length}
use Rattle.plcx_model.specs.Graph.{elements, from_at}
use Rattle.plcx_model.specs.Shown.{graph_of}
use Rattle.plcx_order.specs.Classes.{IsSpread, Spreading, IsDoneFrom, KeepsNumbers, left_to_do}
use Rattle.plcx_order.proofs.classes.Classes.spread.Given as goal

abbrev pub invariant-loop-next : goal.invariant-loop-next
invariant-loop-next l = record {
  bound : l.next ≤ length l.links;
  out : 0 < l.next → from_at l.links (l.next - 1) ≡ l.u;
  spread : IsSpread (graph_of l.wires) l.self.number.items (Spreading l.u l.self.todo.items) l.self.firsts.items;
  done : IsDoneFrom l.links l.self.number.items l.u l.next;
  kept : KeepsNumbers l.fn.self.number.items l.self.number.items;
  firsts : l.self.firsts ≡ l.fn.self.firsts;
  less : left_to_do (elements (graph_of l.wires)) l.self.number.items l.self.todo.items ≤ left_to_do (elements (graph_of l.wires)) l.fn.self.number.items l.fn.self.todo.items;
}

abbrev pub decreases-loop-next : goal.decreases-loop-next
decreases-loop-next l = l.next
