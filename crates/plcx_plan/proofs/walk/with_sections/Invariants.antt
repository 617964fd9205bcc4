use Rattle.std.proofs.Common.{◌≡◌, ◌++◌, drop, map}
use Rattle.plcx_plan.specs.Items.{in_sections}
use Rattle.plcx_plan.specs.Seen.{shown}
use Rattle.plcx_plan.proofs.walk.with_sections.Given as goal

-- what is found so far, and what is looked at in those that are left
abbrev pub invariant-loop-node : goal.invariant-loop-node
invariant-loop-node l = map shown l.found.items ++ in_sections (drop l.node-index l.nodes) ≡ map shown l.initial.found.items ++ in_sections l.nodes
