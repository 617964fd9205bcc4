use Rattle.std.proofs.Common.{◌≡◌, ◌++◌, drop, map}
use Rattle.plcx_drawn.specs.Shown.{shown_port}
use Rattle.plcx_numbered.specs.Prepared.{feed_steps}
use Rattle.plcx_prepare.proofs.elements.feed.Given as goal

abbrev pub invariant-loop-port : goal.invariant-loop-port
invariant-loop-port g l =
    let c = g.N.Numbers.numbering l.numbers in
    l.all.items ++ feed_steps c l.id (map shown_port (drop l.port-index l.ports)) ≡ l.fn.steps.items ++ feed_steps c l.id (map shown_port l.ports)
