use Rattle.std.proofs.Common.{map}
use Rattle.plcx_types.specs.declared.ty.Ty.TheVariants as ty
use Rattle.plcx_meaning.specs.Tree.{statements, arms}
use Rattle.plcx_meaning.specs.Ready.{StatementIsReady}
use Rattle.plcx_st.specs.Meant.{expr_meant, stmt_meant}
use Rattle.plcx_st.specs.Printer.{arm_meant}
use Rattle.plcx_st.proofs.Views.{assign_view, call_statement_view, if_view, while_view, case_view}
use Rattle.plcx_text_pieces.specs.Pieces.{statements_piece}
use Rattle.plcx_text_lines.specs.Added.{ArmIsReady}
use Rattle.plcx_text_lines.proofs.Adding.{adds_boxed}
use Rattle.plcx_text_lines.proofs.Bringing.{each_of}
use Rattle.plcx_text_lines.proofs.Choosing.{chooses, loops, selects, all_ready, arms_ready, states_more, states_end, arms_more, arms_end}
use Rattle.plcx_text_lines.proofs.statements.+statement.Goals as goal

pub statement-returns-in_ok-assign-in-Assign : goal.statement-returns-in_ok-assign-in-Assign
statement-returns-in_ok-assign-in-Assign g t c = rw (c.in-Assign.is, assign_view) (λ ready. c.in_ok-assign-in-Assign.ensures (ready.0, ready.2))

pub statement-returns-in_ok-call-in-Call : goal.statement-returns-in_ok-call-in-Call
statement-returns-in_ok-call-in-Call g t c =
    let done = rw c.as_slice.ensures at c.in_ok-call-in-Call.ensures in
    rw (c.in-Call.is, call_statement_view) (λ ready. done ready.values)

pub statement-returns-in_ok-with_line-in-If : goal.statement-returns-in_ok-with_line-in-If
statement-returns-in_ok-with_line-in-If g t c =
    let n = g.N.Numbers.numbers c.args.numbers.now in
    let xs = map stmt_meant c.in-If.body in
    let within = rw c.as_slice-in-If.ensures at c.in_ok-inner-in-If.ensures in
    rw (c.in-If.is, if_view) (λ ready. chooses n (expr_meant c.in-If.cond) c.args.before (statements xs) c.in_ok-tested-in-If.tested c.in_ok-inner-in-If.inner c.in_ok-with_line-in-If.field-0
    c.in_ok-tested-in-If.test c.in_ok-inner-in-If.section (c.in_ok-tested-in-If.ensures (ty.Bool, ready.0)) (within (all_ready n.names.scope xs ready.1)) c.in_ok-with_line-in-If.ensures)

pub statement-returns-in_ok-with_line-in-While : goal.statement-returns-in_ok-with_line-in-While
statement-returns-in_ok-with_line-in-While g t c =
    let n = g.N.Numbers.numbers c.args.numbers.now in
    let xs = map stmt_meant c.in-While.body in
    let within = rw c.as_slice-in-While.ensures at c.in_ok-inner-in-While.ensures in
    let tested = c.in_ok-tested-in-While.ensures in
    rw (c.in-While.is, while_view) (λ ready. loops n (expr_meant c.in-While.cond) c.args.before (statements xs) c.in_ok-tested-in-While.tested c.in_ok-inner-in-While.inner c.in_ok-with_line-in-While.field-0
    c.in_ok-tested-in-While.test c.in_ok-tested-in-While.before c.in_ok-inner-in-While.section (tested.added (ty.Bool, ready.0)) (tested.source (ty.Bool, ready.0)) (within (all_ready n.names.scope xs ready.1))
    c.in_ok-with_line-in-While.ensures)

pub statement-returns-in_ok-choice-in-Case : goal.statement-returns-in_ok-choice-in-Case
statement-returns-in_ok-choice-in-Case g t c =
    let n = g.N.Numbers.numbers c.args.numbers.now in
    let xs = map arm_meant c.in-Case.arms in
    let within = rw c.as_slice-in-Case.ensures at c.in_ok-inner-in-Case.ensures in
    let chosen = rw c.deref.ensures.value at c.in_ok-choice-in-Case.ensures in
    rw (c.in-Case.is, case_view) (λ ready. selects n (expr_meant c.in-Case.value) c.args.before (arms xs) c.in_ok-valued-in-Case.valued c.in_ok-inner-in-Case.inner c.in_ok-choice-in-Case.field-0
    c.in_ok-valued-in-Case.value c.in_ok-inner-in-Case.choices.items (c.in_ok-valued-in-Case.ensures (ty.Dint, ready.0)) (within (arms_ready n.names.scope xs ready.3)) chosen)

pub statements-loop-s-preserved : goal.statements-loop-s-preserved
statements-loop-s-preserved g t c =
    let n = g.N.Numbers.numbers c.args.numbers.now in
    λ each. states_more n c.args.body.now c.loop-s.s-index c.s-item.result c.loop-s.all c.in_ok-all.all c.args.before (statements (map stmt_meant c.args.body.now)) c.loop-s-test.true c.s-item.is
    (c.in_ok-all.ensures (each_of (StatementIsReady n.names.scope) stmt_meant c.args.body.now c.loop-s.s-index c.s-item.result each c.loop-s-test.true c.s-item.is)) (c.loop-s.invariant each)

pub statements-returns : goal.statements-returns
statements-returns g t c =
    let n = g.N.Numbers.numbers c.args.numbers.now in
    λ each. states_end n c.args.body.now c.loop-s.s-index c.loop-s.all c.args.before (statements (map stmt_meant c.args.body.now)) c.loop-s-test.false (c.loop-s.invariant each)

pub section-returns : goal.section-returns
section-returns g t c =
    let n = g.N.Numbers.numbers c.args.numbers.now in
    let closes = rw c.pou.ensures at c.in_ok-closed.ensures in
    λ each. adds_boxed n.pou (statements_piece n (statements (map stmt_meant c.args.body.now))) c.args.before c.opened-inner.result.0 c.in_ok-done.done c.in_ok-closed.field-0.0 c.opened-inner.result.1.items c.in_ok-closed.field-0.1 c.opened-inner.ensures
    (c.in_ok-done.ensures each) closes

pub sections-loop-arm-preserved : goal.sections-loop-arm-preserved
sections-loop-arm-preserved g t c =
    let n = g.N.Numbers.numbers c.args.numbers.now in
    let within = rw c.as_slice.ensures at c.in_ok-next.ensures in
    λ each. arms_more n c.args.arms.now c.loop-arm.arm-index c.arm-item.result c.loop-arm.all c.in_ok-next.next c.args.before c.loop-arm.choices.items c.in_ok-choices.choices.items c.in_ok-next.section (arms (map arm_meant c.args.arms.now)) c.loop-arm-test.true c.arm-item.is
    (within (each_of (ArmIsReady n.names.scope) arm_meant c.args.arms.now c.loop-arm.arm-index c.arm-item.result each c.loop-arm-test.true c.arm-item.is)) c.in_ok-choices.ensures (c.loop-arm.invariant each)

pub sections-returns : goal.sections-returns
sections-returns g t c =
    let n = g.N.Numbers.numbers c.args.numbers.now in
    λ each. arms_end n c.args.arms.now c.loop-arm.arm-index c.loop-arm.all c.args.before c.loop-arm.choices.items (arms (map arm_meant c.args.arms.now)) c.loop-arm-test.false (c.loop-arm.invariant each)
