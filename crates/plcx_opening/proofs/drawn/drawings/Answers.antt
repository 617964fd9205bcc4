use Rattle.std.proofs.Common.{◌<◌, List, [], ◌∷◌, ◌++◌, ◌∙◌, ap, map, length, subst, sym, arith}
use Rattle.std.proofs.lemmas.List.{map-append, take_all}
use Rattle.plcx_meaning.specs.Diagram as diagram
use Rattle.plcx_model.specs.declared.project.Pou.{Pou}
use Rattle.plcx_model.specs.declared.project.Project.{Project}
use Rattle.plcx_drawn.specs.Pous.{shown_pou}
use Rattle.plcx_view.specs.Diagrams.{diagrams_of}
use Rattle.plcx_opening.proofs.Places.{count_of, taken_more, drawn_there}
use Rattle.plcx_opening.proofs.drawn.drawings.Goals as goal

pub drawing-requires : goal.drawing-requires
drawing-requires c = subst (λ (ps : List Pou). c.loop-place.place < length ps) (sym c.in_ok-scope.ensures) c.loop-place-test.true

pub loop-place-preserved : goal.loop-place-preserved
loop-place-preserved c =
    let a = c.args.checked.now in
    let dia = diagrams_of a.project a.links a.types a.plan in
    let d = c.in_ok-drawing.drawing in
    let pous = c.pous-pous.ensures ∙ ap (λ (q : Project). q.pous) c.project.ensures in
    let there = drawn_there a.project a.links a.types a.plan _ _ _ _ d c.loop-place.place (c.in_ok-scope.ensures ∙ pous) c.links.ensures c.types.ensures c.plan.ensures c.in_ok-drawing.ensures in
    ap (map (shown_pou a.project.pous)) c.in_ok-push.ensures.items
    ∙ map-append (shown_pou a.project.pous) c.loop-place.drawings.items (d ∷ [])
    ∙ ap (λ (ds : List diagram.Pou). ds ++ shown_pou a.project.pous d ∷ []) c.loop-place.invariant
    ∙ sym (taken_more dia c.loop-place.place (shown_pou a.project.pous d) there)

pub returns : goal.returns
returns c =
    let a = c.args.checked.now in
    let dia = diagrams_of a.project a.links a.types a.plan in
    let count = count_of a.project a.links a.types a.plan in
    let pous = ap length (c.pous-pous.ensures ∙ ap (λ (q : Project). q.pous) c.project.ensures) in
    let high = c.loop-place-test.false in
    c.loop-place.invariant ∙ take_all c.loop-place.place dia (omega (arith, count, pous, high))
