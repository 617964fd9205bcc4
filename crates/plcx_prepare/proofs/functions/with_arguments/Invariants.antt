use Rattle.std.proofs.Common.{◌≡◌, ◌++◌, drop, map}
use Rattle.plcx_drawn.specs.Shown.{shown_link}
use Rattle.plcx_numbered.specs.Prepared.{arguments}
use Rattle.plcx_prepare.proofs.functions.with_arguments.Given as goal

abbrev pub invariant-loop-link : goal.invariant-loop-link
invariant-loop-link g l =
    let c = g.N.Numbers.numbering l.numbers in
    l.all.items ++ arguments c l.own (map shown_link (drop l.link-index l.links)) ≡ l.fn.given.items ++ arguments c l.wire (map shown_link l.links)
