use Rattle.std.proofs.Common.{◌≡◌, ◌++◌, drop, map}
use Rattle.std.specs.List.{flat_map}
use Rattle.plcx_rules.specs.Declarations.{declared_in}
use Rattle.plcx_names.specs.Seen.{shown_variable}
use Rattle.plcx_names.proofs.variables.variables_of.Given as goal

abbrev pub invariant-loop-list : goal.invariant-loop-list
invariant-loop-list l = map shown_variable l.found.items ++ flat_map declared_in (drop l.list-index l.lists) ≡ flat_map declared_in l.lists
