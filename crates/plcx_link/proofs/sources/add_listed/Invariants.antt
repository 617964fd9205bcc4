use Rattle.std.proofs.Common.{◌≡◌, ◌++◌, drop, map}
use Rattle.plcx_model.specs.declared.body.PinIn.{PinIn}
use Rattle.plcx_rules.specs.Sources.{sources_at}
use Rattle.plcx_link.proofs.sources.add_listed.Given as goal

abbrev pub invariant-loop-pin : goal.invariant-loop-pin
invariant-loop-pin l =
    let at = λ (p : PinIn). sources_at l.body.owner.body.elements p.input in
    l.all ++ map at (drop l.pin-index l.pins) ≡ l.initial.all ++ map at l.pins
