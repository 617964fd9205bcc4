use Rattle.std.proofs.Common.{◌≡◌, ◌++◌, drop}
use Rattle.std.specs.List.{flat_map}
use Rattle.plcx_xml.specs.declared.tree.Node.{Node, out-Node}
use Rattle.plcx_draft.specs.BodyIn.{rail_point}
use Rattle.plcx_draft.proofs.body.rail_input.Given as goal

-- what is found so far, and the points that are left
abbrev pub invariant-loop-node : goal.invariant-loop-node
invariant-loop-node l = l.found.items ++ flat_map (λ (n : Node). rail_point (out-Node n)) (drop l.node-index l.node-items) ≡ flat_map (λ (n : Node). rail_point (out-Node n)) l.node-items
