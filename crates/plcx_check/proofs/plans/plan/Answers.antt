use Rattle.std.proofs.Common.{◌≡◌, [], take, get_or, ◌+◌, sym, ap, subst, ◌∙◌}
use Rattle.plcx_model.specs.declared.project.Pou.{Pou}
use Rattle.plcx_model.specs.Numbering.{body_graph}
use Rattle.plcx_view.specs.Checked.{IsBodyPlan, ArePlans}
use Rattle.plcx_check.proofs.Planning.{plans_more, plans_end}
use Rattle.plcx_check.proofs.plans.plan.Goals as goal

pub loop-place-init : goal.loop-place-init
loop-place-init c = subst (ArePlans []) (sym c.new-plans.ensures.items) tt

pub loop-place-preserved : goal.loop-place-preserved
loop-place-preserved c =
    let bodies = c.args.links.now.bodies in
    let place = c.loop-place.place in
    let first = c.index-bodies-place.is ∙ ap (λ all. get_or all place c.index-bodies-place.result) c.bodies-bodies.ensures in
    let read : c.as_slice.result.now ≡ get_or bodies place c.as_slice.result.now = subst (λ s. s ≡ get_or bodies place s) (sym c.as_slice.ensures) first in
    let planned = subst (λ (p : Pou). IsBodyPlan (body_graph p.body.elements c.as_slice.result.now) c.in_ok-body_plan.field-0) (sym c.index-pous-place.is) c.in_ok-body_plan.ensures in
    subst (ArePlans (take (place + 1) c.args.pous.now)) (sym c.in_ok-push.ensures.items)
    (plans_more c.args.pous.now bodies c.requires.links place c.index-pous-place.result c.as_slice.result.now c.loop-place.plans.items c.in_ok-body_plan.field-0 c.loop-place-test.true c.index-pous-place.is read c.loop-place.invariant planned)

pub returns : goal.returns
returns c = subst (ArePlans c.args.pous.now) (sym c.from_vec.ensures) (plans_end c.args.pous.now c.args.links.now.bodies c.requires.links c.loop-place.place c.loop-place.plans.items c.loop-place-test.false c.loop-place.invariant)
