use Rattle.std.proofs.Common.{List, ◌∷◌, [], ◌++◌, ◌∙◌, ap, map, length, sym, arith}
use Rattle.std.proofs.lemmas.List.{take_all}
use Rattle.plcx_meaning.specs.Templates.{unit_of}
use Rattle.plcx_meaning.specs.Tree.{PouText}
use Rattle.plcx_meaning.proofs.Lookups.{map_append}
use Rattle.plcx_st.specs.Meant.{pou_meant}
use Rattle.plcx_view.specs.Diagrams.{diagrams_of}
use Rattle.plcx_jump.proofs.Places.{count_of, taken_more}
use Rattle.plcx_jump.proofs.compiling.texts.Goals as goal

pub loop-place-preserved : goal.loop-place-preserved
loop-place-preserved c =
    let a = c.args.checked.now in
    let unit = unit_of (diagrams_of a.project a.links a.types a.plan) in
    let text = c.in_ok-text_at.field-0 in
    ap (map pou_meant) c.in_ok-push.ensures.items
    ∙ map_append pou_meant c.loop-place.texts.items (text ∷ [])
    ∙ ap (λ (ts : List PouText). ts ++ pou_meant text ∷ []) c.loop-place.invariant
    ∙ sym (taken_more unit c.loop-place.place (pou_meant text) c.in_ok-text_at.ensures)

pub returns : goal.returns
returns c =
    let a = c.args.checked.now in
    let unit = unit_of (diagrams_of a.project a.links a.types a.plan) in
    let count = count_of a.project a.links a.types a.plan in
    let pous = ap length (c.pous-pous.ensures ∙ ap (λ p. p.pous) c.project.ensures) in
    let high = c.loop-place-test.false in
    c.loop-place.invariant ∙ take_all c.loop-place.place unit (omega (arith, count, pous, high))
