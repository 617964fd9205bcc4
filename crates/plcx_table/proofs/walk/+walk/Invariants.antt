use Rattle.std.proofs.Common.{◌≡◌, ◌++◌, drop, map}
use Rattle.plcx_table.specs.Walk.{items, items_below, none_taken}
use Rattle.plcx_table.specs.Flat.{shown_item}
use Rattle.plcx_table.proofs.walk.+walk.Given as goal

-- what is found so far, and what is looked at in those that are left
abbrev pub invariant-walk_below-loop-node : goal.invariant-walk_below-loop-node
invariant-walk_below-loop-node l = map shown_item l.found.items ++ items_below (items l.depth) l.row l.taken (drop l.node-index l.nodes) ≡ map shown_item l.initial.found.items ++ items_below (items l.depth) l.row none_taken l.nodes
