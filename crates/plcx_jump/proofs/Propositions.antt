-- What is asked of a text to be made is a proposition.
use Rattle.std.proofs.Common.{ℕ, List, [], ◌∷◌}
use Rattle.std.proofs.Props.{props}
use Rattle.std.specs.Coded.{×_prop, Unit-prop}
use Rattle.plcx_types.specs.Lists.{Each}
use Rattle.plcx_meaning.specs.Tree.{Expression, Number, Name, Member, Apply, Not, Binary, Expressions, no_expression, expression, Argument, Statement, Assign, Call, If, While, Case, Statements, no_statement, statement, Arms, no_arm, arm, Declaration, Block}
use Rattle.plcx_st.specs.InRange.{IsWord, HasAny, ExpressionInRange, ExpressionsInRange, ArgumentInRange, StatementInRange, StatementsInRange, ArmsInRange, DeclarationInRange, BlockInRange}
use Rattle.plcx_declare.specs.Named.{IsNamed, BlockIsNamed}

each_prop : {A : Type 0} (P : A → Type 0) (xs : List A) → ((x : A) → IsProp (P x)) → IsProp (Each P xs)
each_prop P [] prop = Unit-prop
each_prop P (x ∷ xs) prop = ×_prop (prop x) (each_prop P xs prop)

word_prop : (x : List ℕ) → IsProp (IsWord x)
word_prop x = hlevel props

any_prop : (es : Expressions) → IsProp (HasAny es)
any_prop no_expression = hlevel
any_prop (expression e es) = Unit-prop

-- ---- expressions and statements

mutual
  expression_prop : (e : Expression) → IsProp (ExpressionInRange e)
  expression_prop (Number v) = Unit-prop
  expression_prop (Name x) = word_prop x
  expression_prop (Member instance output) = ×_prop (word_prop instance) (word_prop output)
  expression_prop (Apply function arguments) = let rest = expressions_prop arguments in hlevel (word_prop function, any_prop arguments, rest)
  expression_prop (Not operand) = expression_prop operand
  expression_prop (Binary o left right) = ×_prop (expression_prop left) (expression_prop right)

  expressions_prop : (es : Expressions) → IsProp (ExpressionsInRange es)
  expressions_prop no_expression = Unit-prop
  expressions_prop (expression e es) = ×_prop (expression_prop e) (expressions_prop es)

argument_prop : (a : Argument) → IsProp (ArgumentInRange a)
argument_prop a = ×_prop (word_prop a.formal) (expression_prop a.value)

mutual
  statement_prop : (s : Statement) → IsProp (StatementInRange s)
  statement_prop (Assign x e) = ×_prop (word_prop x) (expression_prop e)
  statement_prop (Call instance arguments) = ×_prop (word_prop instance) (each_prop ArgumentInRange arguments argument_prop)
  statement_prop (If e body) = ×_prop (expression_prop e) (statements_prop body)
  statement_prop (While e body) = ×_prop (expression_prop e) (statements_prop body)
  statement_prop (Case e arms) = ×_prop (expression_prop e) (arms_prop arms)

  pub statements_prop : (ss : Statements) → IsProp (StatementsInRange ss)
  statements_prop no_statement = Unit-prop
  statements_prop (statement s ss) = ×_prop (statement_prop s) (statements_prop ss)

  arms_prop : (arms : Arms) → IsProp (ArmsInRange arms)
  arms_prop no_arm = Unit-prop
  arms_prop (arm label body arms) = ×_prop (statements_prop body) (arms_prop arms)

-- ---- declarations

declaration_prop : (d : Declaration) → IsProp (IsNamed d)
declaration_prop d = hlevel props

pub blocks_prop : (bs : List Block) → IsProp (Each BlockIsNamed bs)
blocks_prop bs = each_prop BlockIsNamed bs (λ (b : Block). each_prop IsNamed b.declarations declaration_prop)

-- declarations in range have names
named : (ds : List Declaration) → Each DeclarationInRange ds → Each IsNamed ds
named [] all = tt
named (d ∷ ds) all = ((all.0.0.0, all.0.2.0), named ds all.1)

pub blocks_named : (bs : List Block) → Each BlockInRange bs → Each BlockIsNamed bs
blocks_named [] all = tt
blocks_named (b ∷ bs) all = (named b.declarations all.0.1, blocks_named bs all.1)
