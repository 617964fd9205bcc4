use Rattle.std.proofs.Common.{◌≡◌, ℕ, List, is_none, drop, map}
use Rattle.std.specs.List.{list_any}
use Rattle.plcx_rules.specs.Callees.{formal_named}
use Rattle.plcx_link.specs.Sides.{formals_on}
use Rattle.plcx_link.proofs.formals.any_unknown.Given as goal

abbrev pub invariant-loop-name : goal.invariant-loop-name
invariant-loop-name l =
    let unknown = λ (n : List ℕ). is_none (formal_named n (formals_on l.scope l.callee l.side)) in
    list_any unknown (map (λ n. n.now) (drop l.name-index l.names)) ≡ list_any unknown (map (λ n. n.now) l.names)
