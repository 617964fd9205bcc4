use Rattle.std.proofs.Common.{List, ◌∙◌, ◌≤◌, ◌<◌, ap, length, subst, sym, Some, arith}
use Rattle.std.specs.Coded.{le_prop}
use Rattle.std.proofs.Math.Logic.{∥∥₁_elim}
use Rattle.std.proofs.lemmas.Result.{IfOk-weaker}
use Rattle.plcx_meaning.specs.Templates.{pou_text}
use Rattle.plcx_model.specs.declared.project.Pou.{Pou}
use Rattle.plcx_types.specs.Limits.{max_elements}
use Rattle.plcx_types.specs.Lists.{Each}
use Rattle.plcx_meaning.specs.Tree.{statements}
use Rattle.plcx_st.specs.InRange.{StatementsInRange}
use Rattle.plcx_declare.specs.Named.{BlockIsNamed}
use Rattle.plcx_view.specs.Diagrams.{diagrams_of}
use Rattle.plcx_drawn.specs.Pous.{shown_pou}
use Rattle.plcx_drawn.specs.Shown.{shown_network}
use Rattle.plcx_jump.proofs.Propositions.{blocks_prop, blocks_named, statements_prop}
use Rattle.plcx_jump.proofs.Places.{mapped_length, drawn_there, text_there, range_there, few_there}
use Rattle.plcx_jump.proofs.compiling.text_at.Goals as goal

pub drawing-requires : goal.drawing-requires
drawing-requires c = subst (λ (pous : List Pou). c.args.place < length pous) (sym c.requires.scope) c.requires.place

pub pou_text-requires-clause-blocks : goal.pou_text-requires-clause-blocks
pou_text-requires-clause-blocks c =
    let a = c.args.checked.now in
    let d = c.in_ok-drawing.drawing in
    let diagrams = diagrams_of a.project a.links a.types a.plan in
    let there = drawn_there a.project a.links a.types a.plan _ _ _ _ d c.args.place c.requires.scope c.links.ensures c.types.ensures c.plan.ensures c.in_ok-drawing.ensures in
    let own : Each BlockIsNamed (pou_text (shown_pou a.project.pous d)).blocks = ∥∥₁_elim a.checked (blocks_prop (pou_text (shown_pou a.project.pous d)).blocks) (λ checked.
    let fits = c.checked_fits.ensures a.project a.links a.types a.plan checked in
    blocks_named (pou_text (shown_pou a.project.pous d)).blocks (range_there diagrams c.args.place (shown_pou a.project.pous d) there (c.texts_are_in_range.ensures.range diagrams fits)).blocks) in
    subst (λ (pous : List Pou). Each BlockIsNamed (pou_text (shown_pou pous d)).blocks) (sym (c.pous.ensures ∙ ap (λ p. p.pous) c.project.ensures)) own

pub pou_text-requires-clause-body : goal.pou_text-requires-clause-body
pou_text-requires-clause-body c =
    let a = c.args.checked.now in
    let d = c.in_ok-drawing.drawing in
    let diagrams = diagrams_of a.project a.links a.types a.plan in
    let there = drawn_there a.project a.links a.types a.plan _ _ _ _ d c.args.place c.requires.scope c.links.ensures c.types.ensures c.plan.ensures c.in_ok-drawing.ensures in
    let body = (pou_text (shown_pou a.project.pous d)).body in
    let own : StatementsInRange (statements body) = ∥∥₁_elim a.checked (statements_prop (statements body)) (λ checked.
    let fits = c.checked_fits.ensures a.project a.links a.types a.plan checked in
    (range_there diagrams c.args.place (shown_pou a.project.pous d) there (c.texts_are_in_range.ensures.range diagrams fits)).body) in
    subst (λ (pous : List Pou). StatementsInRange (statements (pou_text (shown_pou pous d)).body)) (sym (c.pous.ensures ∙ ap (λ p. p.pous) c.project.ensures)) own

pub pou_text-requires-clause-few : goal.pou_text-requires-clause-few
pou_text-requires-clause-few c =
    let a = c.args.checked.now in
    let d = c.in_ok-drawing.drawing in
    let diagrams = diagrams_of a.project a.links a.types a.plan in
    let there = drawn_there a.project a.links a.types a.plan _ _ _ _ d c.args.place c.requires.scope c.links.ensures c.types.ensures c.plan.ensures c.in_ok-drawing.ensures in
    let few : length (shown_pou a.project.pous d).networks ≤ max_elements = ∥∥₁_elim a.checked le_prop (λ checked.
    few_there diagrams c.args.place (shown_pou a.project.pous d) there (c.checked_fits.ensures a.project a.links a.types a.plan checked)) in
    let count = mapped_length (shown_network d) d.networks.now in
    omega (arith, few, count)

pub returns : goal.returns
returns c =
    let a = c.args.checked.now in
    let d = c.in_ok-drawing.drawing in
    let diagrams = diagrams_of a.project a.links a.types a.plan in
    let there = drawn_there a.project a.links a.types a.plan _ _ _ _ d c.args.place c.requires.scope c.links.ensures c.types.ensures c.plan.ensures c.in_ok-drawing.ensures in
    IfOk-weaker c.pou_text.result _ _ (λ text e.
    text_there diagrams c.args.place (shown_pou a.project.pous d) there
    ∙ ap (λ (pous : List Pou). Some (pou_text (shown_pou pous d))) (sym (c.pous.ensures ∙ ap (λ p. p.pous) c.project.ensures))
    ∙ ap Some (sym e)) c.pou_text.ensures
