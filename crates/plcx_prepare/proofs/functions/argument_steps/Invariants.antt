use Rattle.std.proofs.Common.{◌≡◌, ◌++◌, drop, map}
use Rattle.plcx_drawn.specs.Shown.{shown_link}
use Rattle.plcx_numbered.specs.Prepared.{argument_steps}
use Rattle.plcx_prepare.proofs.functions.argument_steps.Given as goal

abbrev pub invariant-loop-link : goal.invariant-loop-link
invariant-loop-link g l =
    let c = g.N.Numbers.numbering l.numbers in
    l.all.items ++ argument_steps c l.own (map shown_link (drop l.link-index l.links)) ≡ l.fn.steps.items ++ argument_steps c l.wire (map shown_link l.links)
