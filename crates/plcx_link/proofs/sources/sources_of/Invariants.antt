use Rattle.std.proofs.Common.{◌≡◌, ◌++◌, drop, map}
use Rattle.plcx_rules.specs.Sources.{sources_in}
use Rattle.plcx_link.specs.InProject.{InProject}
use Rattle.plcx_link.proofs.sources.sources_of.Given as goal

abbrev pub invariant-loop-body : goal.invariant-loop-body
invariant-loop-body l =
    let of = λ (b : InProject). sources_in b.owner.body.elements in
    l.all ++ map of (drop l.body-index l.bodies) ≡ map of l.bodies
