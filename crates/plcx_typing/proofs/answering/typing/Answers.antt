use Rattle.std.proofs.Common.{◌≡◌, List, Some, slice_get, sym, ◌∙◌, ap, subst}
use Rattle.plcx_model.specs.declared.broken.Place.TheVariants.{Element}
use Rattle.plcx_model.specs.declared.body.BodyElement.{BodyElement}
use Rattle.plcx_model.specs.declared.project.Pou.{Pou}
use Rattle.plcx_rules.specs.declared.form.TypeRule.{TypeRule}
use Rattle.plcx_typing.specs.declared.body.Judged.{Judged}
use Rattle.plcx_rules.specs.CheckVerdict.{broken_at}
use Rattle.plcx_typing.specs.Judgings.{AreJudged, IsFirstFault, NoSpot}
use Rattle.plcx_typing.proofs.Bodies.{have_types}
use Rattle.plcx_typing.proofs.Verdicts.{kept_all, broken_first, spot_within}
use Rattle.plcx_typing.proofs.answering.typing.Goals as goal

pub returns : goal.returns
returns c =
    let pous = c.args.project.now.pous in
    let links = c.args.links.now.bodies in
    let js = c.in_ok-judged.judged.items in
    let are : AreJudged pous links js = subst (λ ls. AreJudged pous ls js) c.bodies.ensures (subst (λ ps. AreJudged ps c.bodies.result.now js) c.pous-2.ensures c.in_ok-judged.ensures) in
    let none : (r : TypeRule) → NoSpot r js = subst (λ (xs : List Judged). (r : TypeRule) → NoSpot r xs) c.deref.ensures.value c.in-None.ensures.none in
    record {
      verdict = kept_all pous links js are none;
      types = have_types pous links js c.in_ok-types_of-in-None.field-0 are none c.in_ok-types_of-in-None.ensures.inputs c.in_ok-types_of-in-None.ensures.wires;
    }

pub returns-in-Some : goal.returns-in-Some
returns-in-Some c =
    let pous = c.args.project.now.pous in
    let links = c.args.links.now.bodies in
    let js = c.in_ok-judged.judged.items in
    let r = c.in-Some.rule in
    let pou = c.in-Some.pou in
    let e = c.in-Some.element in
    let place = c.in_ok-place_at-in-Some.field-0 in
    let are : AreJudged pous links js = subst (λ ls. AreJudged pous ls js) c.bodies.ensures (subst (λ ps. AreJudged ps c.bodies.result.now js) c.pous-2.ensures c.in_ok-judged.ensures) in
    let some : IsFirstFault js (r, pou, e) = subst (λ (xs : List Judged). IsFirstFault xs (r, pou, e)) c.deref.ensures.value c.in-Some.ensures.some in
    let at = subst (λ (ps : List Pou). (p : Pou) (x : BodyElement) → slice_get ps pou ≡ Some p → slice_get p.body.elements e ≡ Some x → place ≡ Element p.name x.local_id) c.pous-in-Some.ensures c.in_ok-place_at-in-Some.ensures in
    record {
      rule = r;
      place = place;
      verdict = broken_first pous links js are r pou e place some at;
      is = ap (λ n. broken_at n place) c.number.ensures;
    }

pub place_at-requires-clause-element : goal.place_at-requires-clause-element
place_at-requires-clause-element c =
    let pous = c.args.project.now.pous in
    let links = c.args.links.now.bodies in
    let js = c.in_ok-judged.judged.items in
    let r = c.in-Some.rule in
    let pou = c.in-Some.pou in
    let e = c.in-Some.element in
    let are : AreJudged pous links js = subst (λ ls. AreJudged pous ls js) c.bodies.ensures (subst (λ ps. AreJudged ps c.bodies.result.now js) c.pous-2.ensures c.in_ok-judged.ensures) in
    let some : IsFirstFault js (r, pou, e) = subst (λ (xs : List Judged). IsFirstFault xs (r, pou, e)) c.deref.ensures.value c.in-Some.ensures.some in
    λ p is. spot_within pous links js are r pou e some.spot p (ap (λ (ps : List Pou). slice_get ps pou) (sym c.pous-in-Some.ensures) ∙ is)
