use Rattle.std.proofs.Common.{◌≡◌, ◌++◌, drop, filter_map}
use Rattle.plcx_xml.specs.declared.tree.Node.{Node, out-Node}
use Rattle.plcx_draft.specs.Parts.{part_in}
use Rattle.plcx_draft.proofs.part.more.Given as goal

-- what is found so far, and those that are left
abbrev pub invariant-loop-node : goal.invariant-loop-node
invariant-loop-node g l = l.found.items ++ filter_map (λ (n : Node). part_in g.P.Part.part (out-Node n)) (drop l.node-index l.node-items) ≡ l.initial.found.items ++ filter_map (λ (n : Node). part_in g.P.Part.part (out-Node n)) l.node-items
