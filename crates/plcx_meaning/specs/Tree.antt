-- Structured text without the places of its words. The declarations of a diagram are those of its text.
use Rattle.std.specs.Prelude.{ℕ, Bool, true, false, List, [], ◌∷◌, Option}
use Rattle.plcx_types.specs.Value.{Value}

-- what a POU is
pub data PouKind : Type 0 where
  Program FunctionBlock : PouKind

-- no function block
abbrev pub is_program : PouKind → Bool
is_program Program = true
is_program FunctionBlock = false

-- VAR, VAR_INPUT, VAR_OUTPUT, VAR_IN_OUT, VAR_TEMP
pub data Class : Type 0 where
  Local Input Output InOut Temp : Class

-- the mark of a block; a list of a diagram that is constant and retain is constant
pub data Mark : Type 0 where
  Plain Constant Retain : Mark

-- A name, its address, the name of its type, and its initial value, which may lie outside the type.
-- A diagram spells a type as its text prints it: an elementary type and a standard block in capitals, a function block as its POU declares it.
pub record Declaration : Type 0 where
  pub name : List ℕ
  pub address : Option (List ℕ)
  pub ty : List ℕ
  pub initial : Option Value

pub record Block : Type 0 where
  pub class : Class
  pub mark : Mark
  pub declarations : List Declaration

pub data Operator : Type 0 where
  Or Xor And Equal NotEqual Less Greater LessOrEqual GreaterOrEqual Plus Minus Times Divide Mod : Operator

mutual
  pub data Expression : Type 0 where
    -- a literal; its number may lie outside its type
    Number : Value → Expression
    Name : List ℕ → Expression
    Member : (instance output : List ℕ) → Expression
    Apply : (function : List ℕ) → Expressions → Expression
    Not : Expression → Expression
    Binary : Operator → Expression → Expression → Expression

  pub data Expressions : Type 0 where
    no_expression : Expressions
    expression : Expression → Expressions → Expressions

-- formal := value
pub record Argument : Type 0 where
  pub formal : List ℕ
  pub value : Expression

mutual
  pub data Statement : Type 0 where
    Assign : List ℕ → Expression → Statement
    Call : (instance : List ℕ) → List Argument → Statement
    If : Expression → Statements → Statement
    While : Expression → Statements → Statement
    Case : Expression → Arms → Statement

  pub data Statements : Type 0 where
    no_statement : Statements
    statement : Statement → Statements → Statements

  pub data Arms : Type 0 where
    no_arm : Arms
    -- a label and its statements
    arm : ℕ → Statements → Arms → Arms

pub record PouText : Type 0 where
  pub kind : PouKind
  pub name : List ℕ
  pub blocks : List Block
  pub body : List Statement

abbrev pub expressions : List Expression → Expressions
expressions [] = no_expression
expressions (e ∷ es) = expression e (expressions es)

abbrev pub statements : List Statement → Statements
statements [] = no_statement
statements (s ∷ ss) = statement s (statements ss)

-- the arms of these labels and statements
abbrev pub arms : List (ℕ × List Statement) → Arms
arms [] = no_arm
arms (a ∷ as_) = arm a.0 (statements a.1) (arms as_)
