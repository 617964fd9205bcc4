use Rattle.std.proofs.Common.{◌≡◌, drop}
use Rattle.std.specs.List.{list_any}
use Rattle.plcx_table.specs.Constructs.{node_has_point}
use Rattle.plcx_table.proofs.constructs.+point.Given as goal

-- those that are left decide
abbrev pub invariant-has_point-loop-node : goal.invariant-has_point-loop-node
invariant-has_point-loop-node l = list_any node_has_point (drop l.node-index l.node-items) ≡ list_any node_has_point l.node-items
