use Rattle.std.proofs.Common.{map, refl, subst}
use Rattle.plcx_drawn.specs.declared.drawing.Drawing.{Drawing}
use Rattle.plcx_drawn.specs.Pous.{shown_pou}
use Rattle.plcx_program.specs.Bodies.{AddsBody}
use Rattle.plcx_program.proofs.Zips.{mapped_there}
use Rattle.plcx_program.proofs.Growing.{bodies_more}
use Rattle.plcx_program.proofs.bodies.bodies_of.Goals as goal

pub loop-place-preserved : goal.loop-place-preserved
loop-place-preserved c = λ pous is.
    let drawings = c.args.drawings.now in
    let i = c.loop-place.place in
    let item = c.index-drawings-place.result in
    let project = map (shown_pou pous) drawings in
    let there = mapped_there (shown_pou pous) drawings i item c.loop-place-test.true c.index-drawings-place.is in
    bodies_more project (shown_pou pous) drawings i item c.loop-place-test.true c.loop-place.all c.in_ok-all.all (c.loop-place.invariant pous is)
    (subst (λ (d : Drawing). AddsBody project (shown_pou pous d) c.loop-place.all c.in_ok-all.all) c.index-drawings-place.is (c.in_ok-all.ensures project (shown_pou pous item) (record { told = is; there = there; networks = refl })))
