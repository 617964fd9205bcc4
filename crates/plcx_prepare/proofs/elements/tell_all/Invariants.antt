use Rattle.std.proofs.Common.{◌≡◌, ◌++◌, drop, map}
use Rattle.plcx_drawn.specs.Shown.{shown_port}
use Rattle.plcx_numbered.specs.Prepared.{tell_steps}
use Rattle.plcx_prepare.proofs.elements.tell_all.Given as goal

abbrev pub invariant-loop-port : goal.invariant-loop-port
invariant-loop-port g l =
    let c = g.N.Numbers.numbering l.numbers in
    l.all.items ++ tell_steps c l.id l.number (map shown_port (drop l.port-index l.ports)) ≡ l.fn.steps.items ++ tell_steps c l.id 0 (map shown_port l.ports)
