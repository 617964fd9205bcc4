use Rattle.std.proofs.Common.{◌≡◌, ◌++◌, drop}
use Rattle.std.specs.List.{flat_map}
use Rattle.plcx_model.specs.declared.body.BodyElement.{BodyElement}
use Rattle.plcx_rules.specs.Sources.{pins_with_sources}
use Rattle.plcx_link.proofs.sources.sources_in.Given as goal

abbrev pub invariant-loop-element : goal.invariant-loop-element
invariant-loop-element l =
    let of = λ (e : BodyElement). pins_with_sources l.body.owner.body.elements e.kind in
    l.all ++ flat_map of (drop l.element-index l.elements) ≡ flat_map of l.body.owner.body.elements
