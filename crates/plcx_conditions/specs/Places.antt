-- The tree of a text as the reader gives it: the place of a word, a literal or a label is the byte where it begins.
use Rattle.std.specs.Prelude.{List, map}
use Rattle.std.specs.Option.{option_map}
use Rattle.plcx_st.specs.declared.tree.Word as word
use Rattle.plcx_st.specs.declared.tree.Number as number
use Rattle.plcx_st.specs.declared.tree.Decl.{Decl}
use Rattle.plcx_st.specs.declared.tree.TextBlock.{TextBlock}
use Rattle.plcx_st.specs.declared.tree.Expr.{Expr, fold-Expr}
use Rattle.plcx_st.specs.declared.tree.Expr.TheOpen.{Expr-F}
use Rattle.plcx_st.specs.declared.tree.Arg.{Arg}
use Rattle.plcx_st.specs.declared.tree.Stmt.{Stmt, fold-Stmt}
use Rattle.plcx_st.specs.declared.tree.Stmt.TheOpen.{Stmt-F, Arm-F}
use Rattle.plcx_st.specs.declared.tree.PouText.{PouText}
use Rattle.plcx_st.specs.declared.tree.Unit as unit
use Rattle.plcx_st.specs.Meant.{kind_meant, class_meant, mark_meant, op_meant, number_meant}
use Rattle.plcx_conditions.specs.Placed.{Word, Literal, Expression, Number, Name, Member, Apply, Not, Binary, expressions, Argument, Statement, Assign, Call, If, While, Case, statements, Labelled, arms, Declaration, Block, Pou}

abbrev pub placed_word : word.Word → Word
placed_word w = record { name = w.name; at = w.span.start }

abbrev pub placed_number : number.Number → Literal
placed_number v = record { value = number_meant v; at = v.span.start }

-- an expression whose parts are done
abbrev pub expression_step : Expr-F Expression → Expression
expression_step (Expr-F.Number v) = Number (placed_number v)
expression_step (Expr-F.Name w) = Name (placed_word w)
expression_step (Expr-F.Member i o) = Member (placed_word i) (placed_word o)
expression_step (Expr-F.Call f args) = Apply (placed_word f) (expressions args)
expression_step (Expr-F.Not operand span) = Not span.start operand
expression_step (Expr-F.Binary o left right) = Binary (op_meant o) left right

abbrev pub placed_expression : Expr → Expression
placed_expression = fold-Expr Expression expression_step

abbrev pub placed_argument : Arg → Argument
placed_argument a = record { formal = placed_word a.formal; value = placed_expression a.value }

-- an arm whose statements are done
abbrev pub arm_step : Arm-F Statement Labelled → Labelled
arm_step a = record { label = a.label; at = a.span.start; body = a.body }

-- a statement whose parts are done
abbrev pub statement_step : Stmt-F Statement Labelled → Statement
statement_step (Stmt-F.Assign target value) = Assign (placed_word target) (placed_expression value)
statement_step (Stmt-F.Call instance args) = Call (placed_word instance) (map placed_argument args)
statement_step (Stmt-F.If cond body) = If (placed_expression cond) (statements body)
statement_step (Stmt-F.While cond body) = While (placed_expression cond) (statements body)
statement_step (Stmt-F.Case value as') = Case (placed_expression value) (arms as')

abbrev pub placed_statement : Stmt → Statement
placed_statement = fold-Stmt Statement Labelled statement_step arm_step

abbrev pub placed_declaration : Decl → Declaration
placed_declaration d = record { name = placed_word d.name; address = d.address; ty = placed_word d.ty; initial = option_map placed_number d.initial }

abbrev pub placed_block : TextBlock → Block
placed_block b = record { class = class_meant b.class; mark = mark_meant b.mark; declarations = map placed_declaration b.decls }

abbrev pub placed_pou : PouText → Pou
placed_pou p = record { kind = kind_meant p.kind; name = placed_word p.name; blocks = map placed_block p.blocks; body = map placed_statement p.body }

abbrev pub placed : unit.Unit → List Pou
placed u = map placed_pou u.pous
