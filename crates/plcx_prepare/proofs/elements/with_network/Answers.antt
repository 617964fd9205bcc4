use Rattle.std.proofs.Common.{get_or, refl}
use Rattle.std.specs.List.{slice_get}
use Rattle.plcx_drawn.specs.Shown.{shown_elements}
use Rattle.plcx_prepare.specs.Literals.{ElementHasLiterals}
use Rattle.plcx_prepare.proofs.Adding.{nothing_added, place_then, each_of_place}
use Rattle.plcx_prepare.proofs.elements.with_network.Goals as goal

pub loop-place-init : goal.loop-place-init
loop-place-init g c = nothing_added (g.N.Numbers.numbering c.args.numbers.now) c.args.before

pub loop-place-preserved : goal.loop-place-preserved
loop-place-preserved g c =
    let places = c.args.places.now in
    let i = c.loop-place.place-index in
    place_then (g.N.Numbers.numbering c.args.numbers.now) c.args.drawing.now places i (get_or places i 0) c.args.before c.loop-place.all c.in_ok-all.all c.loop-place-test.true refl c.loop-place.invariant c.in_ok-all.ensures

pub with_place-requires : goal.with_place-requires
with_place-requires g c =
    let places = c.args.places.now in
    each_of_place ElementHasLiterals (slice_get (shown_elements c.args.drawing.now)) places c.loop-place.place-index 0 c.loop-place-test.true c.requires
