use Rattle.std.proofs.Common.{◌≡◌, ◌++◌, drop, map}
use Rattle.plcx_rules.specs.Callees.{present}
use Rattle.plcx_rules.specs.LinkRules.{names_of}
use Rattle.plcx_link.proofs.formals.present_names.Given as goal

abbrev pub invariant-loop-pin : goal.invariant-loop-pin
invariant-loop-pin l = map (λ n. n.now) l.names.items ++ names_of (present (drop l.pin-index l.inputs)) ≡ names_of (present l.inputs)
