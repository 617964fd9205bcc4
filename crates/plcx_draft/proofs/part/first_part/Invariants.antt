use Rattle.std.proofs.Common.{◌≡◌, drop, filter_map}
use Rattle.plcx_xml.specs.declared.tree.Node.{Node, out-Node}
use Rattle.plcx_table.specs.Walk.{first}
use Rattle.plcx_draft.specs.Parts.{part_in}
use Rattle.plcx_draft.proofs.part.first_part.Given as goal

abbrev pub invariant-loop-node : goal.invariant-loop-node
invariant-loop-node g l = first (filter_map (λ (n : Node). part_in g.P.Part.part (out-Node n)) (drop l.node-index l.node-items)) ≡ first (filter_map (λ (n : Node). part_in g.P.Part.part (out-Node n)) l.node-items)
