use Rattle.std.proofs.Common.{◌≤◌, ◌+◌, ◌++◌, map, ◌<◌, refl, sym, subst, arith, add-one, take}
use Rattle.plcx_meaning.specs.Tree as tree
use Rattle.plcx_st.specs.declared.printing.Printer.{Printer}
use Rattle.plcx_st.specs.Meant.{op_meant, expr_meant}
use Rattle.plcx_st.specs.Binding.{level}
use Rattle.plcx_st.specs.Print.{list_shapes}
use Rattle.plcx_st.specs.Printer.{Puts}
use Rattle.plcx_st.proofs.Puts.{puts_after, on_ok, puts_brackets, puts_operator, not_first}
use Rattle.plcx_st.proofs.Shapes.{number_shapes, name_shapes, member_shapes, call_shapes, not_shapes, loose_shapes, tight_shapes, no_expressions, one_more_expression, comma_behind, with_comma, with_no_comma}
use Rattle.plcx_st.proofs.printing.Printer.+expression.Goals as goal
use Rattle.plcx_st.proofs.printing.Printer.+expression.Goals.{expressions-then-not-is_first+in_ok-sign, expressions-else-not-is_first}

pub expression-returns-in-Number : goal.expression-returns-in-Number
expression-returns-in-Number t c = rw (c.in-Number.is, number_shapes) c.number.ensures

pub expression-returns-in-Name : goal.expression-returns-in-Name
expression-returns-in-Name t c = rw (c.in-Name.is, name_shapes) c.name.ensures

pub expression-returns-in_ok-sign-in-Member : goal.expression-returns-in_ok-sign-in-Member
expression-returns-in_ok-sign-in-Member t c = rw (c.in-Member.is, member_shapes) (on_ok c.name-in-Member-2.result (λ h.
    puts_after c.args.self.now c.name-in-Member.new.self c.name-in-Member-2.new.self _ _ c.in_ok-name-in-Member.ensures
    (puts_after c.name-in-Member.new.self c.sign.new.self c.name-in-Member-2.new.self _ _ c.in_ok-sign-in-Member.ensures h)) c.name-in-Member-2.ensures)

pub expression-returns-in_ok-expressions-in-Call : goal.expression-returns-in_ok-expressions-in-Call
expression-returns-in_ok-expressions-in-Call t c =
    let list = rw c.as_slice.ensures at c.in_ok-expressions-in-Call.ensures in
    rw (c.in-Call.is, call_shapes) (on_ok c.sign-in-Call-2.result (λ h. puts_after c.args.self.now c.name-in-Call.new.self c.sign-in-Call-2.new.self _ _ c.in_ok-name-in-Call.ensures
    (puts_brackets c.name-in-Call.new.self c.sign-in-Call.new.self c.expressions.new.self c.sign-in-Call-2.new.self (list_shapes (tree.expressions (map expr_meant c.in-Call.args))) c.in_ok-sign-in-Call.ensures list h)) c.sign-in-Call-2.ensures)

pub expression-returns-in_ok-word-in-Not : goal.expression-returns-in_ok-word-in-Not
expression-returns-in_ok-word-in-Not t c =
    rw (c.in-Not.is, not_shapes) (on_ok c.expression.result (λ h. puts_after c.args.self.now c.word.new.self c.expression.new.self _ _ c.in_ok-word-in-Not.ensures h) (rw c.get.ensures at c.expression.ensures))

pub expression-returns-in_ok-expression-in-Binary-2 : goal.expression-returns-in_ok-expression-in-Binary-2
expression-returns-in_ok-expression-in-Binary-2 t c =
    let o = c.in-Binary.op in
    let lt : level (op_meant o) < c.args.least = omega (arith, c.level.ensures.value, c.if-level-least.true) in
    let x = rw (c.level-then-level-least.ensures.value, c.get-then-level-least.ensures) at c.in_ok-expression-in-Binary.ensures in
    let y = rw (c.level-then-level-least-2.ensures.value, c.get-then-level-least-2.ensures, add-one) at c.in_ok-expression-in-Binary-2.ensures in
    rw (c.in-Binary.is, loose_shapes c.args.least o c.in-Binary.left c.in-Binary.right lt) (on_ok c.sign-then-level-least-2.result (λ h.
    puts_brackets c.args.self.now c.sign-then-level-least.new.self c.expression-then-level-least-2.new.self c.sign-then-level-least-2.new.self _ c.in_ok-sign-in-Binary.ensures
    (puts_operator c.sign-then-level-least.new.self c.expression-then-level-least.new.self c.operator.new.self c.expression-then-level-least-2.new.self (op_meant o) _ _ x c.in_ok-operator-in-Binary.ensures y) h) c.sign-then-level-least-2.ensures)

pub expression-returns-in_ok-operator-in-Binary-2 : goal.expression-returns-in_ok-operator-in-Binary-2
expression-returns-in_ok-operator-in-Binary-2 t c =
    let o = c.in-Binary.op in
    let le : c.args.least ≤ level (op_meant o) = omega (arith, c.level.ensures.value, c.if-level-least.false) in
    let x = rw (c.level-else-level-least.ensures.value, c.get-else-level-least.ensures) at c.in_ok-expression-in-Binary-3.ensures in
    let y = rw (c.level-else-level-least-2.ensures.value, c.get-else-level-least-2.ensures, add-one) at c.expression-else-level-least-2.ensures in
    rw (c.in-Binary.is, tight_shapes c.args.least o c.in-Binary.left c.in-Binary.right le) (on_ok c.expression-else-level-least-2.result (λ h.
    puts_operator c.args.self.now c.expression-else-level-least.new.self c.operator-else-level-least.new.self c.expression-else-level-least-2.new.self (op_meant o) _ _ x c.in_ok-operator-in-Binary-2.ensures h) y)

pub expressions-loop-x-init : goal.expressions-loop-x-init
expressions-loop-x-init t c = (no_expressions c.args.self.now, refl)

pub expressions-loop-x-preserved : goal.expressions-loop-x-preserved
expressions-loop-x-preserved t c =
    let args = c.args.args.now in
    let i = c.loop-x.x-index in
    let old = c.args.self.now in
    let front = list_shapes (tree.expressions (map expr_meant (take i args))) in
    let commas = comma_behind (map expr_meant (take i args)) in
    let grow : Puts old c.if-not-is_first.self (front ++ commas) → Puts old c.expression.new.self (list_shapes (tree.expressions (map expr_meant (take (i + 1) args))))
    = λ h. one_more_expression args i c.x-item.result old c.if-not-is_first.self c.expression.new.self c.loop-x-test.true c.x-item.is h c.in_ok-expression.ensures in
    elim c.if-not-is_first.branch [
      | expressions-then-not-is_first+in_ok-sign w ↦ (
        grow (subst (λ (q : Printer). Puts old q (front ++ commas)) (sym w.self-is)
            (with_comma expr_meant args i c.loop-x.is_first front old c.loop-x.self w.sign.new.self c.loop-x-test.true c.loop-x.invariant.1 w.if-not-is_first.true c.loop-x.invariant.0 w.in_ok-sign.ensures)),
        not_first i,
      )
      | expressions-else-not-is_first w ↦ (
        grow (subst (λ (q : Printer). Puts old q (front ++ commas)) (sym w.self-is)
            (with_no_comma expr_meant args i c.loop-x.is_first front old c.loop-x.self c.loop-x.invariant.1 w.if-not-is_first.false c.loop-x.invariant.0)),
        not_first i,
      )
    ]
