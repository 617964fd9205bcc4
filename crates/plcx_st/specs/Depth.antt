-- How deep the printed form of a unit is. Each binary operator, NOT, bracket pair, call, statement and POU is one deeper than its deepest part.
use Rattle.std.specs.Prelude.{ℕ, suc, max, nat_lt, List, [], ◌∷◌, if◌then◌else◌}
use Rattle.plcx_meaning.specs.Tree.{Operator, Expression, Number, Name, Member, Apply, Not, Binary, Expressions, no_expression, expression, Argument, Statement, Assign, Call, If, While, Case, Statements, no_statement, statement, Arms, no_arm, arm, PouText, statements}
use Rattle.plcx_st.specs.Binding.{level, tightest}

-- one deeper in brackets
abbrev pub bracketed_depth : ℕ → Operator → ℕ → ℕ
bracketed_depth least o depth = if nat_lt (level o) least then suc depth else depth

-- of an expression where what binds looser than the level is bracketed
unfoldable mutual
  pub expression_depth : ℕ → Expression → ℕ
  expression_depth least (Number v) = 1
  expression_depth least (Name x) = 1
  expression_depth least (Member instance output) = 1
  expression_depth least (Apply function arguments) = suc (list_depth arguments)
  expression_depth least (Not operand) = suc (expression_depth tightest operand)
  expression_depth least (Binary o left right) = bracketed_depth least o (suc (max (expression_depth (level o) left) (expression_depth (suc (level o)) right)))

  pub list_depth : Expressions → ℕ
  list_depth no_expression = 0
  list_depth (expression e es) = max (expression_depth 0 e) (list_depth es)

unfoldable pub arguments_depth : List Argument → ℕ
arguments_depth [] = 0
arguments_depth (a ∷ arguments) = max (expression_depth 0 a.value) (arguments_depth arguments)

unfoldable mutual
  pub statement_depth : Statement → ℕ
  statement_depth (Assign x e) = suc (expression_depth 0 e)
  statement_depth (Call instance arguments) = suc (arguments_depth arguments)
  statement_depth (If e body) = suc (max (expression_depth 0 e) (statements_depth body))
  statement_depth (While e body) = suc (max (expression_depth 0 e) (statements_depth body))
  statement_depth (Case e arms) = suc (max (expression_depth 0 e) (arms_depth arms))

  pub statements_depth : Statements → ℕ
  statements_depth no_statement = 0
  statements_depth (statement s ss) = max (statement_depth s) (statements_depth ss)

  pub arms_depth : Arms → ℕ
  arms_depth no_arm = 0
  arms_depth (arm label body arms) = max (statements_depth body) (arms_depth arms)

abbrev pub pou_depth : PouText → ℕ
pou_depth p = suc (statements_depth (statements p.body))

unfoldable pub printed_depth : List PouText → ℕ
printed_depth [] = 0
printed_depth (p ∷ unit) = max (pou_depth p) (printed_depth unit)
