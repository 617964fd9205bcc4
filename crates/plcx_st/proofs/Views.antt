-- What each form of the tree is without places.
use Rattle.std.proofs.Common.{◌≡◌, List, [], ◌∷◌, map, refl, sym, ap, ◌∙◌}
use Rattle.plcx_types.specs.declared.span.Span.{Span}
use Rattle.plcx_meaning.specs.Tree as tree
use Rattle.plcx_meaning.specs.Tree.{Expression, Statement}
use Rattle.plcx_st.specs.declared.tree.Word.{Word}
use Rattle.plcx_st.specs.declared.tree.Number.{Number}
use Rattle.plcx_st.specs.declared.tree.Op.{Op}
use Rattle.plcx_st.specs.declared.tree.Expr.{Expr}
use Rattle.plcx_st.specs.declared.tree.Expr.TheVariants as e
use Rattle.plcx_st.specs.declared.tree.Expr.TheOpen.{Expr-F}
use Rattle.plcx_st.specs.declared.tree.Expr.TheFolds.{fold-roll-Expr}
use Rattle.plcx_st.specs.declared.tree.Arg.{Arg}
use Rattle.plcx_st.specs.declared.tree.Arm.{Arm}
use Rattle.plcx_st.specs.declared.tree.Stmt.{Stmt}
use Rattle.plcx_st.specs.declared.tree.Stmt.TheVariants as s
use Rattle.plcx_st.specs.declared.tree.Stmt.TheOpen.{Stmt-F}
use Rattle.plcx_st.specs.declared.tree.Stmt.TheFolds.{fold-roll-Stmt, fold-Arm, fold_out-Arm}
use Rattle.plcx_st.specs.Meant.{number_meant, op_meant, expr_step, expr_meant, arg_meant, Labelled, arm_step, stmt_step, stmt_meant}
use Rattle.plcx_st.specs.Printer.{arm_meant}

pub number_view : (v : Number) → expr_meant (e.Number v) ≡ tree.Number (number_meant v)
number_view v = ap expr_meant (sym (e.rolls-Number v)) ∙ fold-roll-Expr Expression expr_step (Expr-F.Number v)

pub name_view : (w : Word) → expr_meant (e.Name w) ≡ tree.Name w.name
name_view w = ap expr_meant (sym (e.rolls-Name w)) ∙ fold-roll-Expr Expression expr_step (Expr-F.Name w)

pub member_view : (i o : Word) → expr_meant (e.Member i o) ≡ tree.Member i.name o.name
member_view i o = ap expr_meant (sym (e.rolls-Member i o)) ∙ fold-roll-Expr Expression expr_step (Expr-F.Member i o)

pub call_view : (w : Word) (es : List Expr) → expr_meant (e.Call w es) ≡ tree.Apply w.name (tree.expressions (map expr_meant es))
call_view w es = ap expr_meant (sym (e.rolls-Call w es)) ∙ fold-roll-Expr Expression expr_step (Expr-F.Call w es)

pub not_view : (x : Expr) (span : Span) → expr_meant (e.Not x span) ≡ tree.Not (expr_meant x)
not_view x span = ap expr_meant (sym (e.rolls-Not x span)) ∙ fold-roll-Expr Expression expr_step (Expr-F.Not x span)

pub binary_view : (o : Op) (x y : Expr) → expr_meant (e.Binary o x y) ≡ tree.Binary (op_meant o) (expr_meant x) (expr_meant y)
binary_view o x y = ap expr_meant (sym (e.rolls-Binary o x y)) ∙ fold-roll-Expr Expression expr_step (Expr-F.Binary o x y)

pub assign_view : (w : Word) (x : Expr) → stmt_meant (s.Assign w x) ≡ tree.Assign w.name (expr_meant x)
assign_view w x = ap stmt_meant (sym (s.rolls-Assign w x)) ∙ fold-roll-Stmt Statement Labelled stmt_step arm_step (Stmt-F.Assign w x)

pub call_statement_view : (w : Word) (args : List Arg) → stmt_meant (s.Call w args) ≡ tree.Call w.name (map arg_meant args)
call_statement_view w args = ap stmt_meant (sym (s.rolls-Call w args)) ∙ fold-roll-Stmt Statement Labelled stmt_step arm_step (Stmt-F.Call w args)

pub if_view : (x : Expr) (body : List Stmt) → stmt_meant (s.If x body) ≡ tree.If (expr_meant x) (tree.statements (map stmt_meant body))
if_view x body = ap stmt_meant (sym (s.rolls-If x body)) ∙ fold-roll-Stmt Statement Labelled stmt_step arm_step (Stmt-F.If x body)

pub while_view : (x : Expr) (body : List Stmt) → stmt_meant (s.While x body) ≡ tree.While (expr_meant x) (tree.statements (map stmt_meant body))
while_view x body = ap stmt_meant (sym (s.rolls-While x body)) ∙ fold-roll-Stmt Statement Labelled stmt_step arm_step (Stmt-F.While x body)

arm_view : (a : Arm) → fold-Arm Statement Labelled stmt_step arm_step a ≡ arm_meant a
arm_view a = fold_out-Arm Statement Labelled stmt_step arm_step a

each_arm : (arms : List Arm) → map (fold-Arm Statement Labelled stmt_step arm_step) arms ≡ map arm_meant arms
each_arm [] = refl
each_arm (a ∷ arms) = ap (λ (z : Labelled). z ∷ map (fold-Arm Statement Labelled stmt_step arm_step) arms) (arm_view a) ∙ ap (λ (z : List Labelled). arm_meant a ∷ z) (each_arm arms)

pub case_view : (x : Expr) (arms : List Arm) → stmt_meant (s.Case x arms) ≡ tree.Case (expr_meant x) (tree.arms (map arm_meant arms))
case_view x arms = ap stmt_meant (sym (s.rolls-Case x arms)) ∙ fold-roll-Stmt Statement Labelled stmt_step arm_step (Stmt-F.Case x arms) ∙ ap (λ (z : List Labelled). tree.Case (expr_meant x) (tree.arms z)) (each_arm arms)
