use Rattle.std.proofs.Common.{◌≡◌, [], drop, map}
use Rattle.plcx_st.specs.Meant.{kind_meant}
use Rattle.plcx_conditions.specs.First.{sooner, first_of}
use Rattle.plcx_conditions.specs.Declarations.{broken_in_variables}
use Rattle.plcx_known.specs.Unit.{bare_of}
use Rattle.plcx_known.specs.Owned.{shown_variable}
use Rattle.plcx_unit.specs.Rest.{rest_variables}
use Rattle.plcx_unit.proofs.declarations.Judge.variables_broken.Given as goal

abbrev pub invariant-loop-place : goal.invariant-loop-place
invariant-loop-place l =
    sooner l.first (first_of (rest_variables (bare_of l.self) (kind_meant l.kind) l.variables l.place (drop l.place l.variables)))
    ≡ first_of (broken_in_variables (bare_of l.self) (kind_meant l.kind) [] (map shown_variable l.variables))
