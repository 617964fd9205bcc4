use Rattle.std.proofs.Common.{◌≡◌, ◌<◌, ℕ, [], slice_index}
use Rattle.plcx_model.specs.Graph.{TakesPart}
use Rattle.plcx_model.specs.Shown.{graph_of}
use Rattle.plcx_model.specs.Networks.{Listed}
use Rattle.plcx_order.specs.Classes.{IsSpread, standing_at}
use Rattle.plcx_order.proofs.classes.find_classes.Given as goal

abbrev pub invariant-loop-k : goal.invariant-loop-k
invariant-loop-k g l = record {
  spread : IsSpread (graph_of l.wires) l.classes.number.items (Listed []) l.classes.firsts.items;
  empty : l.classes.todo.items ≡ [];
  seen : (j : ℕ) → j < l.k → TakesPart (graph_of l.wires) (standing_at l.standings.items j).element → 0 < slice_index l.classes.number.items (standing_at l.standings.items j).element;
}
