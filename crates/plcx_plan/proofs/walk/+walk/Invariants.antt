use Rattle.std.proofs.Common.{◌≡◌, ◌++◌, drop, map}
use Rattle.plcx_plan.specs.Items.{items, items_below}
use Rattle.plcx_plan.specs.Seen.{shown}
use Rattle.plcx_plan.proofs.walk.+walk.Given as goal

-- what is found so far, and what is looked at in those that are left
abbrev pub invariant-walk_below-loop-node : goal.invariant-walk_below-loop-node
invariant-walk_below-loop-node l = map shown l.found.items ++ items_below (items l.depth) l.above (drop l.node-index l.nodes) ≡ map shown l.initial.found.items ++ items_below (items l.depth) l.above l.nodes
