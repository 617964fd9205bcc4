use Rattle.std.proofs.Common.{◌≡◌, ◌++◌, drop, map}
use Rattle.plcx_drawn.specs.Shown.{shown_source}
use Rattle.plcx_numbered.specs.Prepared.{or_steps}
use Rattle.plcx_prepare.proofs.links.or.Given as goal

abbrev pub invariant-loop-source : goal.invariant-loop-source
invariant-loop-source g l =
    let c = g.N.Numbers.numbering l.numbers in
    l.all.items ++ or_steps c l.ty l.wire (map shown_source (drop l.source-index l.sources)) ≡ l.fn.steps.items ++ or_steps c l.ty l.wire (map shown_source l.sources)
