use Rattle.std.proofs.Common.{◌≡◌, drop, filter_map}
use Rattle.plcx_table.specs.Walk.{value_under, first}
use Rattle.plcx_table.proofs.look.first_value.Given as goal

abbrev pub invariant-loop-attribute : goal.invariant-loop-attribute
invariant-loop-attribute l = first (filter_map (value_under l.name) (drop l.attribute-index l.attribute-items)) ≡ first (filter_map (value_under l.name) l.attribute-items)
