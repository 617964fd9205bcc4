use Rattle.std.proofs.Common.{◌≤◌, ◌+◌}
use Rattle.plcx_model.specs.Shown.{graph_of}
use Rattle.plcx_order.specs.Classes.{AreLinks}
use Rattle.plcx_order.proofs.links.links.Given as goal

abbrev pub invariant-loop-i : goal.invariant-loop-i
invariant-loop-i g l = record {
  links : AreLinks (graph_of l.wires) l.i l.links.items;
  cost : l.steps ≤ l.fn.steps + l.i;
}
