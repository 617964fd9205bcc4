use Rattle.std.proofs.Common.{map, sym, ◌∙◌}
use Rattle.plcx_model.proofs.Judging.{broken, next, kept}
use Rattle.plcx_table.specs.declared.row.FormatRule.TheVariants.{Structure}
use Rattle.plcx_table.specs.Flat.{shown_item}
use Rattle.plcx_table.specs.Format.{breaks, place_of}
use Rattle.plcx_table.proofs.verdict.first_broken.Goals as goal

pub returns-in-Some : goal.returns-in-Some
returns-in-Some c =
    let items = map shown_item c.args.items.now in
    c.loop-rule.invariant _ (broken (breaks c.args.namespace.now items) place_of items c.args.order.now c.loop-rule.rule-index Structure c.in-Some.place c.loop-rule-test.true (sym c.in-Some.is ∙ c.in_ok-place.ensures))

pub loop-rule-preserved : goal.loop-rule-preserved
loop-rule-preserved c = λ v rest.
    let items = map shown_item c.args.items.now in
    c.loop-rule.invariant v (next (breaks c.args.namespace.now items) place_of items c.args.order.now c.loop-rule.rule-index Structure v c.loop-rule-test.true (sym c.in-None.is ∙ c.in_ok-place.ensures) rest)

pub returns : goal.returns
returns c =
    let items = map shown_item c.args.items.now in
    c.loop-rule.invariant _ (kept (breaks c.args.namespace.now items) place_of items c.args.order.now c.loop-rule.rule-index c.loop-rule-test.false)
