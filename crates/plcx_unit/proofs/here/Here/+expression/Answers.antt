use Rattle.std.proofs.Common.{List, map, take, sym, subst, ◌∙◌}
use Rattle.plcx_st.specs.Meant.{op_meant}
use Rattle.plcx_conditions.specs.Placed.{Expression}
use Rattle.plcx_conditions.specs.Places.{placed_word, placed_expression}
use Rattle.plcx_conditions.proofs.Views.{number_view, call_view, not_view, binary_view}
use Rattle.plcx_unit.specs.Pieces.{setting_of, AreJudged}
use Rattle.plcx_unit.proofs.Folding.{grows}
use Rattle.plcx_unit.proofs.Values.{mapped_length, not_judged, binary_judged, call_judged, none_judged, more_judged}
use Rattle.plcx_unit.proofs.here.Here.+expression.Goals as goal

pub expression-returns-in-Number : goal.expression-returns-in-Number
expression-returns-in-Number t c = rw (c.in-Number.is, number_view) (c.number.ensures (setting_of c.args.self.now))

pub expression-returns-in_ok-listed-in-Call : goal.expression-returns-in_ok-listed-in-Call
expression-returns-in_ok-listed-in-Call t c =
    let listed = rw c.as_slice.ensures at c.in_ok-listed-in-Call.ensures in
    let found = c.applied.ensures in
    rw (c.in-Call.is, call_view) (call_judged (setting_of c.args.self.now) (placed_word c.in-Call.function) (map placed_expression c.in-Call.args) c.in_ok-listed-in-Call.listed c.len.result c.applied.result
    listed (c.len.ensures ∙ mapped_length placed_expression c.in-Call.args) found.broken found.ty found.at)

pub expression-returns-in_ok-operand-in-Not : goal.expression-returns-in_ok-operand-in-Not
expression-returns-in_ok-operand-in-Not t c =
    let one = rw c.get.ensures at c.in_ok-operand-in-Not.ensures in
    let found = c.negated.ensures in
    rw (c.in-Not.is, not_view) (not_judged (setting_of c.args.self.now) (placed_expression c.in-Not.operand) c.in_ok-operand-in-Not.operand c.negated.result c.in-Not.span.start one found.broken found.ty found.at)

pub expression-returns-in_ok-right-in-Binary : goal.expression-returns-in_ok-right-in-Binary
expression-returns-in_ok-right-in-Binary t c =
    let left = rw c.get-in-Binary.ensures at c.in_ok-left-in-Binary.ensures in
    let right = rw c.get-in-Binary-2.ensures at c.in_ok-right-in-Binary.ensures in
    let found = c.joined.ensures in
    rw (c.in-Binary.is, binary_view) (binary_judged (setting_of c.args.self.now) (op_meant c.in-Binary.op) (placed_expression c.in-Binary.left) (placed_expression c.in-Binary.right)
    c.in_ok-left-in-Binary.left c.in_ok-right-in-Binary.right c.joined.result left right found.broken found.ty found.at)

pub expressions-loop-x-init : goal.expressions-loop-x-init
expressions-loop-x-init t c = none_judged (setting_of c.args.self.now) c.none_yet-all.result c.none_yet-all.ensures.broken c.none_yet-all.ensures.types

pub expressions-loop-x-preserved : goal.expressions-loop-x-preserved
expressions-loop-x-preserved t c =
    let s = setting_of c.args.self.now in
    let args = c.args.args.now in
    let i = c.loop-x.x-index in
    let x = c.x-item.result in
    let more = more_judged s (map placed_expression (take i args)) (placed_expression x) c.loop-x.all c.in_ok-all.all c.in_ok-one.one c.loop-x.invariant c.in_ok-one.ensures c.in_ok-all.ensures.broken c.in_ok-all.ensures.types in
    subst (λ (es : List Expression). AreJudged s es c.in_ok-all.all) (sym (grows placed_expression args i x c.loop-x-test.true c.x-item.is)) more
