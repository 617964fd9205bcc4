use Rattle.std.proofs.Common.{◌≤◌, ◌+◌}
use Rattle.plcx_order.specs.Walks.{IsTable, AreLast}
use Rattle.plcx_model.specs.Graph.{elements}
use Rattle.plcx_model.specs.Shown.{graph_of}
use Rattle.plcx_order.proofs.chains.chains.Given as goal

abbrev pub invariant-loop-i : goal.invariant-loop-i
invariant-loop-i g l = record {
  last : AreLast (elements (graph_of l.wires)) (graph_of l.wires).wires l.i l.last.items;
  table : IsTable (graph_of l.wires).wires l.i l.before.items l.to.items;
  cost : l.steps ≤ l.fn.steps + l.i;
}
