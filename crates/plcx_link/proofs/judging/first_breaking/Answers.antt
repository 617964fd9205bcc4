use Rattle.std.proofs.Common.{◌∙◌, option_map, sym, ap}
use Rattle.plcx_link.specs.Judged.{shown_place}
use Rattle.plcx_link.proofs.Judgings.{all_places, of_pou, place_here, place_later}
use Rattle.plcx_link.proofs.judging.first_breaking.Goals as goal

pub loop-body-init : goal.loop-body-init
loop-body-init c = λ pous are. all_places pous c.args.rule

pub returns-in-Some : goal.returns-in-Some
returns-in-Some c = λ pous are.
    let i = c.loop-body.body-index in
    let b = c.body-item.result in
    place_here pous c.args.rule i b _ _ (of_pou pous c.args.bodies.now i b are c.loop-body-test.true c.body-item.is) (sym (ap (option_map shown_place) c.in-Some.is) ∙ c.in_ok-found.ensures i) (c.loop-body.invariant pous are)

pub loop-body-preserved : goal.loop-body-preserved
loop-body-preserved c = λ pous are.
    let i = c.loop-body.body-index in
    let b = c.body-item.result in
    place_later pous c.args.rule i b _ (of_pou pous c.args.bodies.now i b are c.loop-body-test.true c.body-item.is) (sym (ap (option_map shown_place) c.in-None.is) ∙ c.in_ok-found.ensures i) (c.loop-body.invariant pous are)
