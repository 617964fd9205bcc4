-- Literals that lie in their types, and labels of a CASE that are kept as they are written.
use Rattle.std.specs.Prelude.{◌≤◌, List, Option, Some, None}
use Rattle.plcx_types.specs.Range.{InRange}
use Rattle.plcx_types.specs.Value.{Value}
use Rattle.plcx_types.specs.Lists.{Each}
use Rattle.plcx_meaning.specs.Tree.{Declaration, Block, Expression, Number, Name, Member, Apply, Not, Binary, Expressions, no_expression, expression, Argument, Statement, Assign, Call, If, While, Case, Statements, no_statement, statement, Arms, no_arm, arm, PouText, statements}

-- the literal lies in its type
abbrev pub NumberFits : Value → Type 0
NumberFits v = InRange v.ty v.n

-- all literals of an expression lie in their types
abbrev mutual
  pub ExpressionFits : Expression → Type 0
  ExpressionFits (Number v) = NumberFits v
  ExpressionFits (Name x) = Unit {0}
  ExpressionFits (Member instance output) = Unit {0}
  ExpressionFits (Apply function arguments) = ExpressionsFit arguments
  ExpressionFits (Not operand) = ExpressionFits operand
  ExpressionFits (Binary o left right) = ExpressionFits left × ExpressionFits right

  pub ExpressionsFit : Expressions → Type 0
  ExpressionsFit no_expression = Unit {0}
  ExpressionsFit (expression e es) = ExpressionFits e × ExpressionsFit es

-- so of an argument
abbrev pub ArgumentFits : Argument → Type 0
ArgumentFits a = ExpressionFits a.value

-- so of statements; the labels of a CASE are kept as they are written
abbrev mutual
  pub StatementFits : Statement → Type 0
  StatementFits (Assign x e) = ExpressionFits e
  StatementFits (Call instance arguments) = Each ArgumentFits arguments
  StatementFits (If e body) = ExpressionFits e × StatementsFit body
  StatementFits (While e body) = ExpressionFits e × StatementsFit body
  StatementFits (Case e arms) = ExpressionFits e × ArmsFit arms

  pub StatementsFit : Statements → Type 0
  StatementsFit no_statement = Unit {0}
  StatementsFit (statement s ss) = StatementFits s × StatementsFit ss

  pub ArmsFit : Arms → Type 0
  ArmsFit no_arm = Unit {0}
  ArmsFit (arm label body arms) = (label ≤ 2147483647) × StatementsFit body × ArmsFit arms

-- so of an initial literal, where there is one
abbrev pub InitialNumberFits : Option Value → Type 0
InitialNumberFits None = Unit {0}
InitialNumberFits (Some v) = NumberFits v

-- so of a declaration
abbrev pub DeclarationFits : Declaration → Type 0
DeclarationFits d = InitialNumberFits d.initial

-- so of a block of declarations
abbrev pub BlockFits : Block → Type 0
BlockFits b = Each DeclarationFits b.declarations

-- so of a POU
abbrev pub PouTextFits : PouText → Type 0
PouTextFits p = Each BlockFits p.blocks × StatementsFit (statements p.body)

-- all literals of a unit lie in their types, and its labels are at most 2147483647
abbrev pub UnitFits : List PouText → Type 0
UnitFits unit = Each PouTextFits unit
