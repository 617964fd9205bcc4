use Rattle.std.proofs.Common.{get_or, refl}
use Rattle.plcx_bodies.proofs.Adding.{place_then}
use Rattle.plcx_bodies.proofs.parts.parts_of.Goals as goal

pub loop-place-preserved : goal.loop-place-preserved
loop-place-preserved g c =
    let places = c.args.places.now in
    let i = c.loop-place.place-index in
    place_then (g.N.Numbers.numbering c.args.numbers.now) c.args.targets.now c.args.elements.now places i (get_or places i 0) c.loop-place.all c.in_ok-all.all c.loop-place-test.true refl c.loop-place.invariant c.in_ok-all.ensures
