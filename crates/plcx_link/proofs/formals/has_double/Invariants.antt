use Rattle.std.proofs.Common.{◌≡◌, drop, map}
use Rattle.plcx_rules.specs.LinkRules.{has_double}
use Rattle.plcx_link.proofs.formals.has_double.Given as goal

abbrev pub invariant-loop-place : goal.invariant-loop-place
invariant-loop-place l = has_double (map (λ n. n.now) (drop l.place l.names)) ≡ has_double (map (λ n. n.now) l.names)
