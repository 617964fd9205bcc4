use Rattle.std.proofs.Common.{◌∙◌, List, [], get_or, option_map, sym, ap}
use Rattle.plcx_model.proofs.Judging.{as-find, broken, next, kept}
use Rattle.plcx_rules.specs.declared.rule.LinkRule.{LinkRule}
use Rattle.plcx_rules.specs.declared.rule.LinkRule.TheVariants.{LocalIds}
use Rattle.plcx_rules.specs.Items.{Item, items_of}
use Rattle.plcx_rules.specs.LinkRules.{breaks, link_place}
use Rattle.plcx_link.specs.Judged.{shown_place}
use Rattle.plcx_link.proofs.judging.first_broken.Goals as goal

pub returns-in-Some : goal.returns-in-Some
returns-in-Some c = λ pous are.
    let i = c.loop-rule.rule-index in
    let r = get_or c.args.order.now i LocalIds in
    let test = λ (s : LinkRule) (before : List Item) (x : Item). breaks pous s x in
    c.loop-rule.invariant pous are _ (broken test link_place (items_of pous) c.args.order.now i LocalIds (shown_place c.in-Some.place) c.loop-rule-test.true
    (sym (ap (option_map shown_place) c.in-Some.is) ∙ (c.in_ok-place.ensures pous are ∙ ap (option_map (link_place r)) (sym (as-find (breaks pous r) [] (items_of pous))))))

pub loop-rule-preserved : goal.loop-rule-preserved
loop-rule-preserved c = λ pous are v rest.
    let i = c.loop-rule.rule-index in
    let r = get_or c.args.order.now i LocalIds in
    let test = λ (s : LinkRule) (before : List Item) (x : Item). breaks pous s x in
    c.loop-rule.invariant pous are v (next test link_place (items_of pous) c.args.order.now i LocalIds v c.loop-rule-test.true
    (sym (ap (option_map shown_place) c.in-None.is) ∙ (c.in_ok-place.ensures pous are ∙ ap (option_map (link_place r)) (sym (as-find (breaks pous r) [] (items_of pous))))) rest)

pub returns : goal.returns
returns c = λ pous are.
    let test = λ (s : LinkRule) (before : List Item) (x : Item). breaks pous s x in
    c.loop-rule.invariant pous are _ (kept test link_place (items_of pous) c.args.order.now c.loop-rule.rule-index c.loop-rule-test.false)
