use Rattle.std.proofs.Common.{◌≡◌, List, Some, map, take, drop, slice_get, refl, sym, ap, subst, ◌+◌, ◌∙◌}
use Rattle.plcx_st.specs.declared.tree.PouText.{PouText}
use Rattle.plcx_conditions.specs.First.{first_of, sooner}
use Rattle.plcx_conditions.specs.Placed.{Pou}
use Rattle.plcx_conditions.specs.Places.{placed_pou}
use Rattle.plcx_conditions.specs.Declarations.{broken_in_pou, broken_in}
use Rattle.plcx_known.specs.Unit.{placed_of, bare_of}
use Rattle.plcx_unit.specs.Rest.{rest_pous}
use Rattle.plcx_unit.proofs.Folding.{begins, goes_on, ends}
use Rattle.plcx_unit.proofs.Declared.{pou_step, pou_at}
use Rattle.plcx_unit.proofs.declarations.Judge.unit_broken.Goals as goal

pub loop-place-init : goal.loop-place-init
loop-place-init c = begins _

pub pou_broken-requires : goal.pou_broken-requires
pou_broken-requires c =
    subst (λ (ps : List PouText). slice_get (placed_of ps) c.loop-place.place ≡ Some (placed_pou c.index-pous-place.result)) (c.list-pous.ensures ∙ c.pous.ensures ∙ c.self.view_is)
    (pou_at c.list-pous.result.now c.loop-place.place c.index-pous-place.result c.loop-place-test.true c.index-pous-place.is)

pub loop-place-preserved : goal.loop-place-preserved
loop-place-preserved c =
    let pous = c.list-pous.result.now in
    let i = c.loop-place.place in
    let p = c.index-pous-place.result in
    let here = λ (ps : List PouText). broken_in_pou (bare_of ps) (map (λ (q : Pou). q.name) (take i (placed_of ps))) (placed_pou p) in
    goes_on (rest_pous pous) pous i p (here pous) c.loop-place.first _ _ c.loop-place-test.true c.index-pous-place.is
    (pou_step pous i p (drop (i + 1) pous) c.loop-place-test.true c.index-pous-place.is)
    (c.sooner-first.ensures ∙ ap (sooner c.loop-place.first) (c.in_ok-pou_broken.ensures ∙ ap (λ (ps : List PouText). first_of (here ps)) (sym (c.list-pous.ensures ∙ c.pous.ensures ∙ c.self.view_is))))
    c.loop-place.invariant

pub returns : goal.returns
returns c =
    ends (rest_pous c.list-pous.result.now) c.list-pous.result.now c.loop-place.place c.loop-place.first _ c.loop-place-test.false refl c.loop-place.invariant
    ∙ ap (λ (ps : List PouText). first_of (broken_in (placed_of ps))) (c.list-pous.ensures ∙ c.pous.ensures ∙ c.self.view_is)
