use Rattle.std.proofs.Common.{◌≤◌, ◌+◌}
use Rattle.plcx_model.specs.Shown.{graph_of}
use Rattle.plcx_model.specs.Feedback.{AreFirstMarks}
use Rattle.plcx_order.proofs.marks.marks.Given as goal

abbrev pub invariant-loop-i : goal.invariant-loop-i
invariant-loop-i g l = record {
  marks : AreFirstMarks (graph_of l.wires) l.i l.marks.items;
  cost : l.steps ≤ l.fn.steps + l.i;
}
