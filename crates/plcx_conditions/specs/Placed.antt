-- A unit with the places of its words, as a tree of definitions. The place of a word or a literal is the byte where it begins.
use Rattle.std.specs.Prelude.{ℕ, List, [], ◌∷◌, Option, map}
use Rattle.std.specs.Option.{option_map}
use Rattle.std.specs.List.{flat_map}
use Rattle.plcx_types.specs.Value.{Value}
use Rattle.plcx_meaning.specs.Tree as tree
use Rattle.plcx_meaning.specs.Tree.{PouKind, Class, Mark, Operator}
use Rattle.plcx_meaning.specs.Layout.{Variable, variable}

pub record Word : Type 0 where
  pub name : List ℕ
  pub at : ℕ

pub record Literal : Type 0 where
  pub value : Value
  pub at : ℕ

mutual
  pub data Expression : Type 0 where
    Number : Literal → Expression
    Name : Word → Expression
    Member : (instance output : Word) → Expression
    Apply : (function : Word) → Expressions → Expression
    -- with the place of the word NOT
    Not : (at : ℕ) → Expression → Expression
    Binary : Operator → Expression → Expression → Expression

  pub data Expressions : Type 0 where
    no_expression : Expressions
    expression : Expression → Expressions → Expressions

-- formal := value
pub record Argument : Type 0 where
  pub formal : Word
  pub value : Expression

mutual
  pub data Statement : Type 0 where
    Assign : Word → Expression → Statement
    Call : (instance : Word) → List Argument → Statement
    If : Expression → Statements → Statement
    While : Expression → Statements → Statement
    Case : Expression → Arms → Statement

  pub data Statements : Type 0 where
    no_statement : Statements
    statement : Statement → Statements → Statements

  pub data Arms : Type 0 where
    no_arm : Arms
    -- a label with its place, and its statements
    arm : (label at : ℕ) → Statements → Arms → Arms

pub record Declaration : Type 0 where
  pub name : Word
  pub address : Option (List ℕ)
  pub ty : Word
  pub initial : Option Literal

pub record Block : Type 0 where
  pub class : Class
  pub mark : Mark
  pub declarations : List Declaration

pub record Pou : Type 0 where
  pub kind : PouKind
  pub name : Word
  pub blocks : List Block
  pub body : List Statement

abbrev pub expressions : List Expression → Expressions
expressions [] = no_expression
expressions (e ∷ es) = expression e (expressions es)

abbrev pub statements : List Statement → Statements
statements [] = no_statement
statements (s ∷ ss) = statement s (statements ss)

-- a label with its place, and its statements
pub record Labelled : Type 0 where
  pub label : ℕ
  pub at : ℕ
  pub body : List Statement

abbrev pub arms : List Labelled → Arms
arms [] = no_arm
arms (a ∷ as_) = arm a.label a.at (statements a.body) (arms as_)

-- ---- the same without places

abbrev mutual
  pub bare_expression : Expression → tree.Expression
  bare_expression (Number v) = tree.Number v.value
  bare_expression (Name x) = tree.Name x.name
  bare_expression (Member i x) = tree.Member i.name x.name
  bare_expression (Apply f es) = tree.Apply f.name (bare_expressions es)
  bare_expression (Not at e) = tree.Not (bare_expression e)
  bare_expression (Binary op a b) = tree.Binary op (bare_expression a) (bare_expression b)

  pub bare_expressions : Expressions → tree.Expressions
  bare_expressions no_expression = tree.no_expression
  bare_expressions (expression e es) = tree.expression (bare_expression e) (bare_expressions es)

abbrev pub bare_argument : Argument → tree.Argument
bare_argument a = record { formal = a.formal.name; value = bare_expression a.value }

abbrev mutual
  pub bare_statement : Statement → tree.Statement
  bare_statement (Assign x e) = tree.Assign x.name (bare_expression e)
  bare_statement (Call i args) = tree.Call i.name (map bare_argument args)
  bare_statement (If e ss) = tree.If (bare_expression e) (bare_statements ss)
  bare_statement (While e ss) = tree.While (bare_expression e) (bare_statements ss)
  bare_statement (Case e as_) = tree.Case (bare_expression e) (bare_arms as_)

  pub bare_statements : Statements → tree.Statements
  bare_statements no_statement = tree.no_statement
  bare_statements (statement s ss) = tree.statement (bare_statement s) (bare_statements ss)

  pub bare_arms : Arms → tree.Arms
  bare_arms no_arm = tree.no_arm
  bare_arms (arm label at ss rest) = tree.arm label (bare_statements ss) (bare_arms rest)

abbrev pub bare_declaration : Declaration → tree.Declaration
bare_declaration d = record { name = d.name.name; address = d.address; ty = d.ty.name; initial = option_map (λ (v : Literal). v.value) d.initial }

abbrev pub bare_block : Block → tree.Block
bare_block b = record { class = b.class; mark = b.mark; declarations = map bare_declaration b.declarations }

abbrev pub bare_pou : Pou → tree.PouText
bare_pou p = record { kind = p.kind; name = p.name.name; blocks = map bare_block p.blocks; body = map bare_statement p.body }

abbrev pub bare : List Pou → List tree.PouText
bare unit = map bare_pou unit

-- ---- the variables of a POU

-- a declaration with the class and the mark of its block
pub record Declared : Type 0 where
  pub class : Class
  pub mark : Mark
  pub declaration : Declaration

abbrev pub declared_in : Block → List Declared
declared_in b = map (λ (d : Declaration). let v : Declared = record { class = b.class; mark = b.mark; declaration = d } in v) b.declarations

-- the variables of a POU, in the order of the text
abbrev pub declared : Pou → List Declared
declared p = flat_map declared_in p.blocks

-- a variable without its places
abbrev pub bare_variable : Declared → Variable
bare_variable v = variable v.class v.mark (bare_declaration v.declaration)

-- the first token of an expression that is no opening bracket
abbrev pub start_of : Expression → ℕ
start_of (Number v) = v.at
start_of (Name x) = x.at
start_of (Member i x) = i.at
start_of (Apply f es) = f.at
start_of (Not at e) = at
start_of (Binary op a b) = start_of a
