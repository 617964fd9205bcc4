use Rattle.std.proofs.Common.{◌≡◌, ◌++◌, drop, map, true}
use Rattle.std.specs.List.{list_all}
use Rattle.plcx_profile.specs.Fine.{is_fine}
use Rattle.plcx_profile.specs.ProjectIn.{variable_of}
use Rattle.plcx_profile.proofs.settling.list_of.Given as goal

abbrev pub invariant-loop-variable : goal.invariant-loop-variable
invariant-loop-variable l = record {
  made : l.variables.items ++ map (variable_of l.blocks) (drop l.variable-index l.variable-items) ≡ map (variable_of l.blocks) l.list.variables;
  fine : list_all is_fine (drop l.variable-index l.variable-items) ≡ true;
}
