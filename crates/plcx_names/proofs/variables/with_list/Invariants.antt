use Rattle.std.proofs.Common.{◌≡◌, ◌++◌, drop, map}
use Rattle.plcx_model.specs.declared.project.Variable.{Variable}
use Rattle.plcx_rules.specs.Declarations.{Declaration}
use Rattle.plcx_names.specs.Seen.{shown_variable}
use Rattle.plcx_names.proofs.variables.with_list.Given as goal

abbrev pub invariant-loop-variable : goal.invariant-loop-variable
invariant-loop-variable l =
    let made = λ (v : Variable). let d : Declaration = record { class = l.list.class; constant = l.list.constant; variable = v } in d in
    map shown_variable l.found.items ++ map made (drop l.variable-index l.variables) ≡ map shown_variable l.initial.found.items ++ map made l.variables
