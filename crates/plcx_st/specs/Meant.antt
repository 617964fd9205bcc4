-- A unit without the places of its words.
use Rattle.std.specs.Prelude.{ℕ, List, map}
use Rattle.std.specs.Option.{option_map}
use Rattle.plcx_types.specs.Value.{Value}
use Rattle.plcx_meaning.specs.Tree as tree
use Rattle.plcx_meaning.specs.Tree.{PouKind, Class, Operator, Declaration, Block, Expression, Argument, Statement, expressions, statements, arms}
use Rattle.plcx_st.specs.declared.tree.Number.{Number}
use Rattle.plcx_st.specs.declared.tree.TextKind.{TextKind}
use Rattle.plcx_st.specs.declared.tree.TextKind.TheVariants as kind
use Rattle.plcx_st.specs.declared.tree.TextClass.{TextClass}
use Rattle.plcx_st.specs.declared.tree.TextClass.TheVariants as class
use Rattle.plcx_st.specs.declared.tree.Mark.{Mark}
use Rattle.plcx_st.specs.declared.tree.Mark.TheVariants as mark
use Rattle.plcx_st.specs.declared.tree.Decl.{Decl}
use Rattle.plcx_st.specs.declared.tree.TextBlock.{TextBlock}
use Rattle.plcx_st.specs.declared.tree.Op.{Op}
use Rattle.plcx_st.specs.declared.tree.Op.TheVariants as op
use Rattle.plcx_st.specs.declared.tree.Expr.{Expr, fold-Expr}
use Rattle.plcx_st.specs.declared.tree.Expr.TheOpen.{Expr-F}
use Rattle.plcx_st.specs.declared.tree.Arg.{Arg}
use Rattle.plcx_st.specs.declared.tree.Stmt.{Stmt, fold-Stmt}
use Rattle.plcx_st.specs.declared.tree.Stmt.TheOpen.{Stmt-F, Arm-F}
use Rattle.plcx_st.specs.declared.tree.PouText.{PouText}
use Rattle.plcx_st.specs.declared.tree.Unit as unit

-- what a POU is
abbrev pub kind_meant : TextKind → PouKind
kind_meant kind.Program = PouKind.Program
kind_meant kind.FunctionBlock = PouKind.FunctionBlock

-- what a block declares
abbrev pub class_meant : TextClass → Class
class_meant class.Var = Class.Local
class_meant class.Input = Class.Input
class_meant class.Output = Class.Output
class_meant class.InOut = Class.InOut
class_meant class.Temp = Class.Temp

-- the mark of a block
abbrev pub mark_meant : Mark → tree.Mark
mark_meant mark.Plain = tree.Mark.Plain
mark_meant mark.Constant = tree.Mark.Constant
mark_meant mark.Retain = tree.Mark.Retain

-- an operator
abbrev pub op_meant : Op → Operator
op_meant op.Or = Operator.Or
op_meant op.Xor = Operator.Xor
op_meant op.And = Operator.And
op_meant op.Equal = Operator.Equal
op_meant op.NotEqual = Operator.NotEqual
op_meant op.Less = Operator.Less
op_meant op.Greater = Operator.Greater
op_meant op.LessOrEqual = Operator.LessOrEqual
op_meant op.GreaterOrEqual = Operator.GreaterOrEqual
op_meant op.Plus = Operator.Plus
op_meant op.Minus = Operator.Minus
op_meant op.Times = Operator.Times
op_meant op.Divide = Operator.Divide
op_meant op.Mod = Operator.Mod

-- a literal as its value
abbrev pub number_meant : Number → Value
number_meant v = record { ty = v.ty; n = v.n }

-- an expression whose parts are done
abbrev pub expr_step : Expr-F Expression → Expression
expr_step (Expr-F.Number v) = Expression.Number (number_meant v)
expr_step (Expr-F.Name w) = Expression.Name w.name
expr_step (Expr-F.Member i o) = Expression.Member i.name o.name
expr_step (Expr-F.Call f args) = Expression.Apply f.name (expressions args)
expr_step (Expr-F.Not operand span) = Expression.Not operand
expr_step (Expr-F.Binary o left right) = Expression.Binary (op_meant o) left right

-- an expression
abbrev pub expr_meant : Expr → Expression
expr_meant = fold-Expr Expression expr_step

-- an argument of a call
abbrev pub arg_meant : Arg → Argument
arg_meant a = record { formal = a.formal.name; value = expr_meant a.value }

-- a label and its statements
abbrev pub Labelled : Type 0
Labelled = ℕ × List Statement

-- an arm whose statements are done
abbrev pub arm_step : Arm-F Statement Labelled → Labelled
arm_step a = (a.label, a.body)

-- a statement whose parts are done
abbrev pub stmt_step : Stmt-F Statement Labelled → Statement
stmt_step (Stmt-F.Assign target value) = Statement.Assign target.name (expr_meant value)
stmt_step (Stmt-F.Call instance args) = Statement.Call instance.name (map arg_meant args)
stmt_step (Stmt-F.If cond body) = Statement.If (expr_meant cond) (statements body)
stmt_step (Stmt-F.While cond body) = Statement.While (expr_meant cond) (statements body)
stmt_step (Stmt-F.Case value as') = Statement.Case (expr_meant value) (arms as')

-- a statement
abbrev pub stmt_meant : Stmt → Statement
stmt_meant = fold-Stmt Statement Labelled stmt_step arm_step

-- a declaration
abbrev pub decl_meant : Decl → Declaration
decl_meant d = record { name = d.name.name; address = d.address; ty = d.ty.name; initial = option_map number_meant d.initial }

-- a block of declarations
abbrev pub block_meant : TextBlock → Block
block_meant b = record { class = class_meant b.class; mark = mark_meant b.mark; declarations = map decl_meant b.decls }

-- a POU
abbrev pub pou_meant : PouText → tree.PouText
pou_meant p = record { kind = kind_meant p.kind; name = p.name.name; blocks = map block_meant p.blocks; body = map stmt_meant p.body }

-- what a unit means
abbrev pub meant : unit.Unit → List tree.PouText
meant u = map pou_meant u.pous
