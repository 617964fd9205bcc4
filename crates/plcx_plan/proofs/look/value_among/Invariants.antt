use Rattle.std.proofs.Common.{◌≡◌, ◌++◌, drop, filter_map, option_copied, option_to_list}
use Rattle.plcx_table.specs.Rules.{at_most_one}
use Rattle.plcx_table.specs.Walk.{value_under}
use Rattle.plcx_plan.proofs.look.value_among.Given as goal

-- the one that is found, if any, and those that are left
abbrev pub invariant-loop-attribute : goal.invariant-loop-attribute
invariant-loop-attribute l = at_most_one (option_to_list (option_copied l.found) ++ filter_map (value_under l.name) (drop l.attribute-index l.attributes)) ≡ at_most_one (filter_map (value_under l.name) l.attributes)
