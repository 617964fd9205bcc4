-- The printed form of a unit: lines of tokens.
use Rattle.std.specs.Prelude.{ℕ, suc, ◌+◌, Bool, true, false, ◌||◌, nat_lt, List, [], ◌∷◌, ◌++◌, map, Option, Some, None, codes, replicate, if◌then◌else◌}
use Rattle.std.specs.Fmt.{decimal}
use Rattle.std.specs.List.{flat_map, list_any}
use Rattle.std.specs.Str.{bytes_eq}
use Rattle.plcx_types.specs.Printed as literal
use Rattle.plcx_types.specs.Value.{Value}
use Rattle.plcx_lex.specs.declared.token.TokenKind.{TokenKind}
use Rattle.plcx_lex.specs.declared.token.TokenKind.TheVariants as kind
use Rattle.plcx_meaning.specs.Tree.{PouKind, Program, FunctionBlock, Class, Local, Input, Output, InOut, Temp, Mark, Plain, Constant, Retain, Declaration, Block, Operator, Or, Xor, And, Equal, NotEqual, Less, Greater, LessOrEqual, GreaterOrEqual, Plus, Minus, Times, Divide, Mod, Expression, Number, Name, Member, Apply, Not, Binary, Expressions, no_expression, expression, Argument, Statement, Assign, Call, If, While, Case, Statements, no_statement, statement, Arms, no_arm, arm, PouText, statements}
use Rattle.plcx_st.specs.Binding.{level, tightest}

-- a token that is printed
pub record Shape : Type 0 where
  pub kind : TokenKind
  pub text : List ℕ

-- a token of the kind with this text
abbrev pub shape : TokenKind → List ℕ → Shape
shape k text = record { kind = k; text = text }

-- a keyword
abbrev pub word : List ℕ → Shape
word text = shape kind.Keyword text

-- a sign
abbrev pub sign : List ℕ → Shape
sign text = shape kind.Sign text

-- a name
abbrev pub name : List ℕ → Shape
name text = shape kind.Name text

-- a literal, with the name of its type
abbrev pub number : Value → Shape
number v = shape kind.Number (literal.printed v)

-- ---- what parts two tokens

-- the kind of names
abbrev pub is_name : TokenKind → Bool
is_name kind.Name = true
is_name kind.Keyword = false
is_name kind.Number = false
is_name kind.Digits = false
is_name kind.Address = false
is_name kind.Sign = false

-- the kind of the labels of a CASE
abbrev pub are_digits : TokenKind → Bool
are_digits kind.Digits = true
are_digits kind.Keyword = false
are_digits kind.Name = false
are_digits kind.Number = false
are_digits kind.Address = false
are_digits kind.Sign = false

-- the text is one of these
abbrev pub is_among : List (List ℕ) → List ℕ → Bool
is_among texts text = list_any (bytes_eq text) texts

-- signs behind which no space stands
abbrev pub none_behind : List (List ℕ)
none_behind = codes "(" ∷ codes "." ∷ []

-- signs before which no space stands
abbrev pub none_before : List (List ℕ)
none_before = codes ";" ∷ codes "," ∷ codes ")" ∷ codes "." ∷ []

-- no space parts the two: behind `(` and `.`, before `;` `,` `)` `.`, at the `(` of a call, at the `:` of a label
unfoldable pub is_joined : Shape → Shape → Bool
is_joined a b = is_among none_behind a.text || is_among none_before b.text
    || (if is_name a.kind then bytes_eq b.text (codes "(") else (if are_digits a.kind then bytes_eq b.text (codes ":") else false))

-- what stands between two tokens: nothing or a space
abbrev pub gap : Shape → Shape → List ℕ
gap a b = if is_joined a b then [] else codes " "

-- the text of tokens behind this one
unfoldable pub text_behind : Shape → List Shape → List ℕ
text_behind a [] = []
text_behind a (b ∷ shapes) = gap a b ++ (b.text ++ text_behind b shapes)

-- the text of tokens, with their gaps
unfoldable pub joined : List Shape → List ℕ
joined [] = []
joined (a ∷ shapes) = a.text ++ text_behind a shapes

-- ---- expressions

-- how an operator is written
abbrev pub operator_shape : Operator → Shape
operator_shape Or = word (codes "OR")
operator_shape Xor = word (codes "XOR")
operator_shape And = word (codes "AND")
operator_shape Equal = sign (codes "=")
operator_shape NotEqual = sign (codes "<>")
operator_shape Less = sign (codes "<")
operator_shape Greater = sign (codes ">")
operator_shape LessOrEqual = sign (codes "<=")
operator_shape GreaterOrEqual = sign (codes ">=")
operator_shape Plus = sign (codes "+")
operator_shape Minus = sign (codes "-")
operator_shape Times = sign (codes "*")
operator_shape Divide = sign (codes "/")
operator_shape Mod = word (codes "MOD")

-- tokens between brackets
abbrev pub in_brackets : List Shape → List Shape
in_brackets inner = sign (codes "(") ∷ (inner ++ sign (codes ")") ∷ [])

-- an operator in brackets where it binds looser than what is wanted
abbrev pub bracketed : ℕ → Operator → List Shape → List Shape
bracketed least o inner = if nat_lt (level o) least then in_brackets inner else inner

-- An expression where what binds looser than the level is bracketed. At the right of an operator this is also what binds equally.
unfoldable mutual
  pub expression_shapes : ℕ → Expression → List Shape
  expression_shapes least (Number v) = number v ∷ []
  expression_shapes least (Name x) = name x ∷ []
  expression_shapes least (Member instance output) = name instance ∷ sign (codes ".") ∷ name output ∷ []
  expression_shapes least (Apply function arguments) = name function ∷ in_brackets (list_shapes arguments)
  expression_shapes least (Not operand) = word (codes "NOT") ∷ expression_shapes tightest operand
  expression_shapes least (Binary o left right) = bracketed least o (expression_shapes (level o) left ++ operator_shape o ∷ expression_shapes (suc (level o)) right)

  pub list_shapes : Expressions → List Shape
  list_shapes no_expression = []
  list_shapes (expression e es) = expression_shapes 0 e ++ further_shapes es

  pub further_shapes : Expressions → List Shape
  further_shapes no_expression = []
  further_shapes (expression e es) = sign (codes ",") ∷ (expression_shapes 0 e ++ further_shapes es)

-- formal := value
abbrev pub argument_shapes : Argument → List Shape
argument_shapes a = name a.formal ∷ sign (codes ":=") ∷ expression_shapes 0 a.value

-- further arguments, each behind a comma
unfoldable pub further_arguments : List Argument → List Shape
further_arguments [] = []
further_arguments (a ∷ arguments) = sign (codes ",") ∷ (argument_shapes a ++ further_arguments arguments)

-- arguments with commas between them
unfoldable pub arguments_shapes : List Argument → List Shape
arguments_shapes [] = []
arguments_shapes (a ∷ arguments) = argument_shapes a ++ further_arguments arguments

-- ---- lines

-- tokens behind so many spaces
pub record Line : Type 0 where
  pub indent : ℕ
  pub shapes : List Shape

-- a line of these tokens
abbrev pub line : ℕ → List Shape → Line
line indent shapes = record { indent = indent; shapes = shapes }

-- a line ends with a line feed
abbrev pub line_text : Line → List ℕ
line_text l = replicate l.indent 32 ++ (joined l.shapes ++ 10 ∷ [])

-- tokens and a semicolon
abbrev pub ended : List Shape → List Shape
ended shapes = shapes ++ sign (codes ";") ∷ []

-- a word, an expression and a word
abbrev pub opening : List ℕ → Expression → List ℕ → List Shape
opening first e last = word first ∷ (expression_shapes 0 e ++ word last ∷ [])

-- a word and a semicolon
abbrev pub closing : List ℕ → List Shape
closing last = word last ∷ sign (codes ";") ∷ []

-- a label of a CASE has a line of its own
abbrev pub label_line : ℕ → ℕ → Line
label_line n label = line n (shape kind.Digits (decimal label) ∷ sign (codes ":") ∷ [])

-- the lines of a statement that is indented so far; what stands in it is two deeper
unfoldable mutual
  pub statement_lines : ℕ → Statement → List Line
  statement_lines n (Assign x e) = line n (name x ∷ sign (codes ":=") ∷ ended (expression_shapes 0 e)) ∷ []
  statement_lines n (Call instance arguments) = line n (name instance ∷ ended (in_brackets (arguments_shapes arguments))) ∷ []
  statement_lines n (If e body) = line n (opening (codes "IF") e (codes "THEN")) ∷ (statements_lines (n + 2) body ++ line n (closing (codes "END_IF")) ∷ [])
  statement_lines n (While e body) = line n (opening (codes "WHILE") e (codes "DO")) ∷ (statements_lines (n + 2) body ++ line n (closing (codes "END_WHILE")) ∷ [])
  statement_lines n (Case e arms) = line n (opening (codes "CASE") e (codes "OF")) ∷ (arms_lines (n + 2) arms ++ line n (closing (codes "END_CASE")) ∷ [])

  pub statements_lines : ℕ → Statements → List Line
  statements_lines n no_statement = []
  statements_lines n (statement s ss) = statement_lines n s ++ statements_lines n ss

  pub arms_lines : ℕ → Arms → List Line
  arms_lines n no_arm = []
  arms_lines n (arm label body arms) = label_line n label ∷ (statements_lines (n + 2) body ++ arms_lines n arms)

-- ---- declarations and POUs

-- AT and the address, where there is one
abbrev pub address_shapes : Option (List ℕ) → List Shape
address_shapes None = []
address_shapes (Some address) = word (codes "AT") ∷ shape kind.Address address ∷ []

-- := and the literal, where there is one
abbrev pub initial_shapes : Option Value → List Shape
initial_shapes None = []
initial_shapes (Some v) = sign (codes ":=") ∷ number v ∷ []

-- a declaration has a line of its own
abbrev pub declaration_line : Declaration → Line
declaration_line d = line 2 (name d.name ∷ (address_shapes d.address ++ sign (codes ":") ∷ name d.ty ∷ ended (initial_shapes d.initial)))

-- the heading of a block
abbrev pub class_word : Class → List ℕ
class_word Local = codes "VAR"
class_word Input = codes "VAR_INPUT"
class_word Output = codes "VAR_OUTPUT"
class_word InOut = codes "VAR_IN_OUT"
class_word Temp = codes "VAR_TEMP"

-- the mark behind a heading
abbrev pub mark_shapes : Mark → List Shape
mark_shapes Plain = []
mark_shapes Constant = word (codes "CONSTANT") ∷ []
mark_shapes Retain = word (codes "RETAIN") ∷ []

-- a heading, the declarations and END_VAR
abbrev pub block_lines : Block → List Line
block_lines b = line 0 (word (class_word b.class) ∷ mark_shapes b.mark) ∷ (map declaration_line b.declarations ++ line 0 (word (codes "END_VAR") ∷ []) ∷ [])

-- the first word of a POU
abbrev pub pou_word : PouKind → List ℕ
pou_word Program = codes "PROGRAM"
pou_word FunctionBlock = codes "FUNCTION_BLOCK"

-- the last word of a POU
abbrev pub pou_end : PouKind → List ℕ
pou_end Program = codes "END_PROGRAM"
pou_end FunctionBlock = codes "END_FUNCTION_BLOCK"

-- a heading, the blocks, the statements and the last word
abbrev pub pou_lines : PouText → List Line
pou_lines p = line 0 (word (pou_word p.kind) ∷ name p.name ∷ []) ∷ (flat_map block_lines p.blocks ++ (statements_lines 2 (statements p.body) ++ line 0 (word (pou_end p.kind) ∷ []) ∷ []))

-- the POUs, one behind the other
abbrev pub unit_lines : List PouText → List Line
unit_lines unit = flat_map pou_lines unit

-- the printed text
abbrev pub printed : List PouText → List ℕ
printed unit = flat_map line_text (unit_lines unit)
