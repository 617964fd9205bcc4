use Rattle.std.proofs.Common.{ℕ, List, [], map, take, drop, refl, sym, subst, ap, ◌+◌, ◌∙◌}
use Rattle.plcx_types.specs.declared.ty.Ty.TheVariants as ty
use Rattle.plcx_conditions.specs.First.{sooner}
use Rattle.plcx_conditions.specs.Placed as placed
use Rattle.plcx_conditions.specs.Places.{placed_expression, placed_statement}
use Rattle.plcx_conditions.specs.Statements.{broken_in_label, broken_where, broken_in_statement, broken_in_statements, broken_in_arms}
use Rattle.plcx_conditions.proofs.Views.{if_view, while_view, case_view}
use Rattle.plcx_unit.specs.Pieces.{setting_of, placed_labelled, AreLabels}
use Rattle.plcx_unit.specs.Rest.{rest_statements, label_of, rest_arms, at_arm}
use Rattle.plcx_unit.proofs.Folding.{begins, goes_on, ends, first_two, grows}
use Rattle.plcx_unit.proofs.Acting.{no_labels, arm_step}
use Rattle.plcx_unit.proofs.here.Here.+statement.Goals as goal

pub statement-returns-in_ok-rest-in-If : goal.statement-returns-in_ok-rest-in-If
statement-returns-in_ok-rest-in-If t c =
    let s = setting_of c.args.self.now in
    let rest = rw c.as_slice-in-If.ensures at c.in_ok-rest-in-If.ensures in
    rw (c.in-If.is, if_view) (c.sooner.ensures ∙ first_two (broken_where s ty.Bool (placed_expression c.in-If.cond)) (broken_in_statements s (placed.statements (map placed_statement c.in-If.body))) _ _ c.in_ok-first-in-If.ensures rest)

pub statement-returns-in_ok-rest-in-While : goal.statement-returns-in_ok-rest-in-While
statement-returns-in_ok-rest-in-While t c =
    let s = setting_of c.args.self.now in
    let rest = rw c.as_slice-in-While.ensures at c.in_ok-rest-in-While.ensures in
    rw (c.in-While.is, while_view) (c.sooner-in-While.ensures ∙ first_two (broken_where s ty.Bool (placed_expression c.in-While.cond)) (broken_in_statements s (placed.statements (map placed_statement c.in-While.body))) _ _ c.in_ok-first-in-While.ensures rest)

pub statement-returns-in_ok-rest-in-Case : goal.statement-returns-in_ok-rest-in-Case
statement-returns-in_ok-rest-in-Case t c =
    let s = setting_of c.args.self.now in
    let rest = rw c.as_slice-in-Case.ensures at c.in_ok-rest-in-Case.ensures in
    rw (c.in-Case.is, case_view) (c.sooner-in-Case.ensures ∙ first_two (broken_where s ty.Dint (placed_expression c.in-Case.value)) (broken_in_arms s [] (placed.arms (map placed_labelled c.in-Case.arms))) _ _ c.in_ok-first-in-Case.ensures rest)

pub statements-loop-s-init : goal.statements-loop-s-init
statements-loop-s-init t c = begins _

pub statements-loop-s-preserved : goal.statements-loop-s-preserved
statements-loop-s-preserved t c =
    let s = setting_of c.args.self.now in
    goes_on (rest_statements s) c.args.body.now c.loop-s.s-index c.s-item.result (broken_in_statement s (placed_statement c.s-item.result)) c.loop-s.first _ _ c.loop-s-test.true c.s-item.is refl
    (c.sooner-first.ensures ∙ ap (sooner c.loop-s.first) c.in_ok-statement.ensures) c.loop-s.invariant

pub statements-returns : goal.statements-returns
statements-returns t c = ends (rest_statements (setting_of c.args.self.now)) c.args.body.now c.loop-s.s-index c.loop-s.first _ c.loop-s-test.false refl c.loop-s.invariant

pub arms-loop-arm-init : goal.arms-loop-arm-init
arms-loop-arm-init t c = (subst (AreLabels []) (sym c.new-labels.ensures.empty) no_labels, begins _)

pub arms-loop-arm-preserved : goal.arms-loop-arm-preserved
arms-loop-arm-preserved t c =
    let s = setting_of c.args.self.now in
    let arms = c.args.arms.now in
    let i = c.loop-arm.arm-index in
    let a = c.arm-item.result in
    let before = map label_of (take i arms) in
    let body = rw c.as_slice.ensures at c.in_ok-body.ensures in (
      subst (λ (bs : List ℕ). AreLabels bs c.label_broken.new.labels.keys) (sym (grows label_of arms i a c.loop-arm-test.true c.arm-item.is)) (c.in_ok-label.ensures.labels before c.loop-arm.invariant.0),
      goes_on (rest_arms s arms) arms i a (at_arm s arms i a) c.loop-arm.first _ _ c.loop-arm-test.true c.arm-item.is
          (arm_step s arms i a (drop (i + 1) arms) c.loop-arm-test.true c.arm-item.is)
          (c.sooner-first.ensures ∙ ap (sooner c.loop-arm.first) (c.sooner.ensures ∙ first_two (broken_in_label before a.label a.span.start) (broken_in_statements s (placed.statements (map placed_statement a.body))) _ _
          (c.in_ok-label.ensures.broken before c.loop-arm.invariant.0) body))
          c.loop-arm.invariant.1,
    )

pub arms-returns : goal.arms-returns
arms-returns t c = ends (rest_arms (setting_of c.args.self.now) c.args.arms.now) c.args.arms.now c.loop-arm.arm-index c.loop-arm.first _ c.loop-arm-test.false refl c.loop-arm.invariant.1
