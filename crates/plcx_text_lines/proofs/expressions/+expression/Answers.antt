use Rattle.std.proofs.Common.{map, length}
use Rattle.plcx_st.specs.Meant.{expr_meant, op_meant}
use Rattle.plcx_st.proofs.Views.{number_view, name_view, member_view, call_view, not_view, binary_view}
use Rattle.plcx_text_lines.specs.Added.{HasValue}
use Rattle.plcx_text_lines.proofs.Adding.{adds_nothing}
use Rattle.plcx_text_lines.proofs.Types.{of_not, of_left, of_right, of_args}
use Rattle.plcx_text_lines.proofs.Bringing.{brings_not, brings_binary, brings_call, each_of, brings_more, brings_end}
use Rattle.plcx_text_lines.proofs.expressions.+expression.Goals as goal

pub expression-returns-in-Number : goal.expression-returns-in-Number
expression-returns-in-Number g t c =
    rw (c.in-Number.is, number_view) (λ has. record { added = adds_nothing c.args.before; value = c.number.ensures (g.N.Numbers.numbers c.args.numbers.now).names (length c.args.before.wires.items) has.1.range })

pub expression-returns-in_ok-argument-in-Name : goal.expression-returns-in_ok-argument-in-Name
expression-returns-in_ok-argument-in-Name g t c = rw (c.in-Name.is, name_view) (λ has. record { added = adds_nothing c.args.before; value = c.in_ok-argument-in-Name.ensures (length c.args.before.wires.items) })

pub expression-returns-in_ok-argument-in-Member : goal.expression-returns-in_ok-argument-in-Member
expression-returns-in_ok-argument-in-Member g t c = rw (c.in-Member.is, member_view) (λ has. record { added = adds_nothing c.args.before; value = c.in_ok-argument-in-Member.ensures (length c.args.before.wires.items) })

pub expression-returns-in_ok-called-in-Call : goal.expression-returns-in_ok-called-in-Call
expression-returns-in_ok-called-in-Call g t c =
    let names = (g.N.Numbers.numbers c.args.numbers.now).names in
    let es = map expr_meant c.in-Call.args in
    let given = rw c.as_slice.ensures at c.in_ok-given-in-Call.ensures in
    let added = rw c.deref.ensures.value at c.in_ok-called-in-Call.ensures.added in
    let value = rw c.deref.ensures.value at c.in_ok-called-in-Call.ensures.value in
    rw (c.in-Call.is, call_view) (λ has. brings_call names c.in-Call.function.name es c.args.before c.in_ok-given-in-Call.given c.in_ok-called-in-Call.field-0.0 c.in_ok-given-in-Call.inputs.items c.in_ok-called-in-Call.field-0.1
    has (given (of_args names.scope c.in-Call.function.name es has)) added value)

pub expression-returns-in_ok-negated-in-Not : goal.expression-returns-in_ok-negated-in-Not
expression-returns-in_ok-negated-in-Not g t c =
    let names = (g.N.Numbers.numbers c.args.numbers.now).names in
    let e = expr_meant c.in-Not.operand in
    let given = rw c.get.ensures at c.in_ok-given-in-Not.ensures in
    rw (c.in-Not.is, not_view) (λ has. brings_not names e c.args.before c.in_ok-given-in-Not.given c.in_ok-negated-in-Not.field-0.0 c.in_ok-given-in-Not.operand c.in_ok-negated-in-Not.field-0.1
    has (given (of_not names.scope e has)) c.in_ok-negated-in-Not.ensures.added c.in_ok-negated-in-Not.ensures.value)

pub expression-returns-in_ok-joined-in-Binary : goal.expression-returns-in_ok-joined-in-Binary
expression-returns-in_ok-joined-in-Binary g t c =
    let names = (g.N.Numbers.numbers c.args.numbers.now).names in
    let op = op_meant c.in-Binary.op in
    let e = expr_meant c.in-Binary.left in
    let f = expr_meant c.in-Binary.right in
    let left = rw c.get-in-Binary.ensures at c.in_ok-first-in-Binary.ensures in
    let right = rw c.get-in-Binary-2.ensures at c.in_ok-second-in-Binary.ensures in
    rw (c.in-Binary.is, binary_view) (λ has. brings_binary names op e f c.args.before c.in_ok-first-in-Binary.first c.in_ok-second-in-Binary.second c.in_ok-joined-in-Binary.field-0.0
    c.in_ok-first-in-Binary.left c.in_ok-second-in-Binary.right c.in_ok-joined-in-Binary.field-0.1
    has (left (of_left names.scope op e f has)) (right (of_right names.scope op e f has)) c.in_ok-joined-in-Binary.ensures.added c.in_ok-joined-in-Binary.ensures.value)

pub expressions-loop-x-preserved : goal.expressions-loop-x-preserved
expressions-loop-x-preserved g t c =
    let names = (g.N.Numbers.numbers c.args.numbers.now).names in
    λ each. brings_more names c.args.args.now c.loop-x.x-index c.x-item.result c.loop-x.all c.in_ok-next.next c.args.before c.loop-x.inputs.items c.in_ok-inputs.inputs.items c.in_ok-next.input (map expr_meant c.args.args.now) c.loop-x-test.true c.x-item.is
    (c.in_ok-next.ensures (each_of (HasValue names.scope) expr_meant c.args.args.now c.loop-x.x-index c.x-item.result each c.loop-x-test.true c.x-item.is)) c.in_ok-inputs.ensures (c.loop-x.invariant each)

pub expressions-returns : goal.expressions-returns
expressions-returns g t c =
    let names = (g.N.Numbers.numbers c.args.numbers.now).names in
    λ each. brings_end names c.args.args.now c.loop-x.x-index c.loop-x.all c.args.before c.loop-x.inputs.items (map expr_meant c.args.args.now) c.loop-x-test.false (c.loop-x.invariant each)
