-- Which units have a printed form that reads as the same unit.
use Rattle.std.specs.Prelude.{◌≡◌, ◌≤◌, ℕ, List, None}
use Rattle.plcx_lex.specs.Lexis.{IsToken}
use Rattle.plcx_lex.specs.declared.token.TokenKind.TheVariants as kind
use Rattle.plcx_types.specs.Address.{AddressFits}
use Rattle.plcx_types.specs.Lists.{Each}
use Rattle.plcx_meaning.specs.Tree.{Class, Local, Input, Output, InOut, Temp, Plain, Declaration, Block, Expression, Number, Name, Member, Apply, Not, Binary, Expressions, no_expression, expression, Argument, Statement, Assign, Call, If, While, Case, Statements, no_statement, statement, Arms, no_arm, arm, PouText, statements}
use Rattle.plcx_st.specs.Depth.{printed_depth}
use Rattle.plcx_st.specs.Grammar.{limit}

-- one name token
abbrev pub IsWord : List ℕ → Type 0
IsWord name = IsToken kind.Name name

-- a call of a function has an argument
abbrev pub HasAny : Expressions → Type 0
HasAny no_expression = ⊥
HasAny (expression e es) = Unit {0}

-- names of an expression are names, and calls of functions have an argument
abbrev mutual
  pub ExpressionInRange : Expression → Type 0
  ExpressionInRange (Number v) = Unit {0}
  ExpressionInRange (Name x) = IsWord x
  ExpressionInRange (Member instance output) = IsWord instance × IsWord output
  ExpressionInRange (Apply function arguments) = IsWord function × HasAny arguments × ExpressionsInRange arguments
  ExpressionInRange (Not operand) = ExpressionInRange operand
  ExpressionInRange (Binary o left right) = ExpressionInRange left × ExpressionInRange right

  pub ExpressionsInRange : Expressions → Type 0
  ExpressionsInRange no_expression = Unit {0}
  ExpressionsInRange (expression e es) = ExpressionInRange e × ExpressionsInRange es

-- so of an argument
abbrev pub ArgumentInRange : Argument → Type 0
ArgumentInRange a = IsWord a.formal × ExpressionInRange a.value

-- so of statements
abbrev mutual
  pub StatementInRange : Statement → Type 0
  StatementInRange (Assign x e) = IsWord x × ExpressionInRange e
  StatementInRange (Call instance arguments) = IsWord instance × Each ArgumentInRange arguments
  StatementInRange (If e body) = ExpressionInRange e × StatementsInRange body
  StatementInRange (While e body) = ExpressionInRange e × StatementsInRange body
  StatementInRange (Case e arms) = ExpressionInRange e × ArmsInRange arms

  pub StatementsInRange : Statements → Type 0
  StatementsInRange no_statement = Unit {0}
  StatementsInRange (statement s ss) = StatementInRange s × StatementsInRange ss

  pub ArmsInRange : Arms → Type 0
  ArmsInRange no_arm = Unit {0}
  ArmsInRange (arm label body arms) = StatementsInRange body × ArmsInRange arms

-- the name and the type are names, the address is one
abbrev pub DeclarationInRange : Declaration → Type 0
DeclarationInRange d = IsWord d.name × AddressFits d.address × IsWord d.ty

-- a variable that is bound at each call has no place and no value of its own
abbrev pub IsBare : Declaration → Type 0
IsBare d = (d.address ≡ None) × (d.initial ≡ None)

-- VAR_TEMP and VAR_IN_OUT have no mark
abbrev pub FitsClass : Class → Block → Type 0
FitsClass Local b = Unit {0}
FitsClass Input b = Unit {0}
FitsClass Output b = Unit {0}
FitsClass InOut b = (b.mark ≡ Plain) × Each IsBare b.declarations
FitsClass Temp b = b.mark ≡ Plain

-- so of a block of declarations
abbrev pub BlockInRange : Block → Type 0
BlockInRange b = FitsClass b.class b × Each DeclarationInRange b.declarations

-- so of a POU
pub record PouInRange (p : PouText) : Type 0 where
  pub name : IsWord p.name
  pub blocks : Each BlockInRange p.blocks
  pub body : StatementsInRange (statements p.body)

-- a unit in range: each name is one name token, each address is one address token in upper case, each call of a function has an argument,
-- blocks have the marks and declarations of the grammar, and the printed form is at most so deep
pub record UnitInRange (unit : List PouText) : Type 0 where
  pub pous : Each PouInRange unit
  pub depth : printed_depth unit ≤ limit
