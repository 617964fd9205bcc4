use Rattle.std.proofs.Common.{map, sym, ◌∙◌}
use Rattle.plcx_model.proofs.Judging.{broken, next, kept}
use Rattle.plcx_profile.specs.declared.judging.DeclarationRule.TheVariants.{Names}
use Rattle.plcx_profile.specs.Judged.{breaks, place_of}
use Rattle.plcx_profile.specs.Seen.{shown}
use Rattle.plcx_profile.proofs.judging.first_broken.Goals as goal

pub returns-in-Some : goal.returns-in-Some
returns-in-Some c =
    let items = map shown c.args.items.now in
    c.loop-rule.invariant _ (broken (breaks c.args.blocks.now) place_of items c.args.order.now c.loop-rule.rule-index Names c.in-Some.place c.loop-rule-test.true (sym c.in-Some.is ∙ c.in_ok-place.ensures))

pub loop-rule-preserved : goal.loop-rule-preserved
loop-rule-preserved c = λ v rest.
    let items = map shown c.args.items.now in
    c.loop-rule.invariant v (next (breaks c.args.blocks.now) place_of items c.args.order.now c.loop-rule.rule-index Names v c.loop-rule-test.true (sym c.in-None.is ∙ c.in_ok-place.ensures) rest)

pub returns : goal.returns
returns c =
    let items = map shown c.args.items.now in
    c.loop-rule.invariant _ (kept (breaks c.args.blocks.now) place_of items c.args.order.now c.loop-rule.rule-index c.loop-rule-test.false)
