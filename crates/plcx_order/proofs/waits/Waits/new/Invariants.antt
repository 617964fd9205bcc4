use Rattle.std.proofs.Common.{◌≤◌, ◌+◌}
use Rattle.plcx_model.specs.Graph.{elements}
use Rattle.plcx_model.specs.Shown.{graph_of}
use Rattle.plcx_order.specs.Counts.{IsCounted, AreAwaited}
use Rattle.plcx_order.proofs.waits.Waits.new.Given as goal

abbrev pub invariant-loop-i : goal.invariant-loop-i
invariant-loop-i g l = record {
  counted : IsCounted (elements (graph_of l.wires)) (graph_of l.wires).wires l.i l.waits.awaited.items l.waits.count.items;
  awaited : AreAwaited (graph_of l.wires) l.marks l.i l.waits.awaited.items;
  cost : l.steps ≤ l.fn.steps + l.i;
}
