use Rattle.std.proofs.Common.{◌≡◌, ◌++◌, List, drop, map}
use Rattle.std.specs.List.{filter, filter_map}
use Rattle.plcx_rules.specs.Declarations.{Declaration, same_class}
use Rattle.plcx_rules.specs.Callees.{pin_of}
use Rattle.plcx_names.specs.Seen.{shown_variable, shown_pin}
use Rattle.plcx_names.proofs.pins.pins_of.Given as goal

abbrev pub invariant-loop-one : goal.invariant-loop-one
invariant-loop-one l =
    let rest = λ (ds : List Declaration). filter_map pin_of (filter (λ (d : Declaration). same_class d.class l.class) ds) in
    map shown_pin l.pins.items ++ rest (map shown_variable (drop l.one-index l.variables)) ≡ rest (map shown_variable l.variables)
