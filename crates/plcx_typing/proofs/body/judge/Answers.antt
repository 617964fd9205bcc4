use Rattle.std.proofs.Common.{length, map, sym, ◌∙◌, subst}
use Rattle.plcx_model.specs.declared.body.BodyElement.{BodyElement}
use Rattle.plcx_rules.specs.Forms.{form_of}
use Rattle.plcx_typing.specs.Flows.{ArePlaced}
use Rattle.plcx_typing.proofs.Single.{placed_in}
use Rattle.plcx_typing.proofs.body.judge.Goals as goal

pub judge_form-requires-clause-placed : goal.judge_form-requires-clause-placed
judge_form-requires-clause-placed c =
    let e = c.in_ok-layout.ensures in
    let forms = c.deref.ensures.value ∙ e.forms in
    let pins = c.deref-2.ensures.value ∙ e.pins in
    let here = placed_in c.args.scope.now c.args.owner.now c.args.elements.now in
    subst (λ fs. ArePlaced (length fs) c.deref-2.result.now) (sym forms) (subst (ArePlaced (length (map (λ (x : BodyElement). form_of c.args.scope.now c.args.owner.now x.kind) c.args.elements.now))) (sym pins) here)
