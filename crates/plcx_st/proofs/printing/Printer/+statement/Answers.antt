use Rattle.plcx_st.proofs.Puts.{on_ok, writes_after, writes_along, writes_around}
use Rattle.plcx_st.proofs.Shapes.{if_lines, while_lines, case_lines, no_statements, no_arms, one_more_statement, one_more_arm}
use Rattle.plcx_st.proofs.printing.Printer.+statement.Goals as goal

pub statement-returns-in_ok-statements-in-If : goal.statement-returns-in_ok-statements-in-If
statement-returns-in_ok-statements-in-If t c =
    let body = rw (c.in_ok-deeper-in-If.ensures, c.as_slice-in-If.ensures) at c.in_ok-statements-in-If.ensures in
    rw c.in-If.is (on_ok c.closing.result (λ h. writes_along c.args.self.now c.closing.new.self _ _ (if_lines c.args.indent c.in-If.cond c.in-If.body)
    (writes_around c.args.self.now c.opening.new.self c.statements.new.self c.closing.new.self _ _ _ c.in_ok-opening-in-If.ensures body h)) c.closing.ensures)

pub statement-returns-in_ok-statements-in-While : goal.statement-returns-in_ok-statements-in-While
statement-returns-in_ok-statements-in-While t c =
    let body = rw (c.in_ok-deeper-in-While.ensures, c.as_slice-in-While.ensures) at c.in_ok-statements-in-While.ensures in
    rw c.in-While.is (on_ok c.closing-in-While.result (λ h. writes_along c.args.self.now c.closing-in-While.new.self _ _ (while_lines c.args.indent c.in-While.cond c.in-While.body)
    (writes_around c.args.self.now c.opening-in-While.new.self c.statements-in-While.new.self c.closing-in-While.new.self _ _ _ c.in_ok-opening-in-While.ensures body h)) c.closing-in-While.ensures)

pub statement-returns-in_ok-arms-in-Case : goal.statement-returns-in_ok-arms-in-Case
statement-returns-in_ok-arms-in-Case t c =
    let arms = rw (c.in_ok-deeper-in-Case.ensures, c.as_slice-in-Case.ensures) at c.in_ok-arms-in-Case.ensures in
    rw c.in-Case.is (on_ok c.closing-in-Case.result (λ h. writes_along c.args.self.now c.closing-in-Case.new.self _ _ (case_lines c.args.indent c.in-Case.value c.in-Case.arms)
    (writes_around c.args.self.now c.opening-in-Case.new.self c.arms.new.self c.closing-in-Case.new.self _ _ _ c.in_ok-opening-in-Case.ensures arms h)) c.closing-in-Case.ensures)

pub statements-loop-s-init : goal.statements-loop-s-init
statements-loop-s-init t c = no_statements c.args.indent c.args.self.now

pub statements-loop-s-preserved : goal.statements-loop-s-preserved
statements-loop-s-preserved t c = one_more_statement c.args.indent c.args.body.now c.loop-s.s-index c.s-item.result c.args.self.now c.loop-s.self c.statement.new.self c.loop-s-test.true c.s-item.is c.loop-s.invariant c.in_ok-statement.ensures

pub arms-loop-arm-init : goal.arms-loop-arm-init
arms-loop-arm-init t c = no_arms c.args.indent c.args.self.now

pub arms-loop-arm-preserved : goal.arms-loop-arm-preserved
arms-loop-arm-preserved t c =
    let body = rw (c.in_ok-deeper.ensures, c.as_slice.ensures) at c.in_ok-statements.ensures in
    one_more_arm c.args.indent c.args.arms.now c.loop-arm.arm-index c.arm-item.result c.args.self.now c.loop-arm.self c.statements.new.self c.loop-arm-test.true c.arm-item.is c.loop-arm.invariant
    (writes_after c.loop-arm.self c.label.new.self c.statements.new.self _ _ c.in_ok-label.ensures body)
