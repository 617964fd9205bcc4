use Rattle.std.proofs.Common.{◌∙◌, sym}
use Rattle.plcx_link.proofs.Judgings.{found_here, found_later}
use Rattle.plcx_link.proofs.judging.first_in_body.Goals as goal

pub returns-in-Some : goal.returns-in-Some
returns-in-Some c = λ pou. found_here c.args.body.now c.args.rule pou c.loop-place.place c.in-Some.id (sym c.in-Some.is ∙ c.in_ok-id.ensures pou) (c.loop-place.invariant pou)

pub loop-place-preserved : goal.loop-place-preserved
loop-place-preserved c = λ pou. found_later c.args.body.now c.args.rule pou c.loop-place.place (sym c.in-None.is ∙ c.in_ok-id.ensures pou) (c.loop-place.invariant pou)
