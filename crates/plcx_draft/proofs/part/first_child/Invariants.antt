use Rattle.std.proofs.Common.{◌≡◌, drop, filter_map}
use Rattle.plcx_xml.specs.declared.tree.Node.{Node, out-Node}
use Rattle.plcx_table.specs.Walk.{first}
use Rattle.plcx_draft.specs.Parts.{named, part_in}
use Rattle.plcx_draft.proofs.part.first_child.Given as goal

abbrev pub invariant-loop-node : goal.invariant-loop-node
invariant-loop-node l = first (filter_map (λ (n : Node). part_in (named l.name) (out-Node n)) (drop l.node-index l.node-items)) ≡ first (filter_map (λ (n : Node). part_in (named l.name) (out-Node n)) l.node-items)
