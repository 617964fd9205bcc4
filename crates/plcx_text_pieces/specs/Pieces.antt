-- What is prepared of the pieces of a body: their lines, and what stands beside these in the lists of the program and of the text.
use Rattle.std.specs.Prelude.{ℕ, ◌+◌, pos, List, [], ◌∷◌, ◌++◌, Option, length}
use Rattle.plcx_types.specs.Value.{Value}
use Rattle.plcx_types.specs.declared.ty.Ty.{Ty}
use Rattle.plcx_funcs.specs.declared.func.Func.{Func}
use Rattle.plcx_funcs.specs.Applied.{value}
use Rattle.plcx_meaning.specs.Tree.{Expression, Number, Name, Member, Apply, Not, Binary, Expressions, no_expression, expression, Argument as Given, Statement, Assign, Call, If, While, Case, Statements, no_statement, statement, Arms, no_arm, arm}
use Rattle.plcx_meaning.specs.Typed.{expression_type}
use Rattle.plcx_meaning.specs.Execute.{Formal, Takes, Binds, NoFormal}
use Rattle.plcx_steps.specs.declared.program.Operand.{Operand}
use Rattle.plcx_steps.specs.declared.program.Source.{Source}
use Rattle.plcx_steps.specs.declared.program.Argument.{Argument}
use Rattle.plcx_steps.specs.declared.program.Action.TheVariants as action
use Rattle.plcx_text_steps.specs.declared.text.Line.{Line}
use Rattle.plcx_text_steps.specs.declared.text.Line.TheVariants as line
use Rattle.plcx_text_steps.specs.declared.text.Arm.{Arm as Choice}
use Rattle.plcx_text_numbered.specs.Prepared.{Place, Held, Stored, Numbering, or_bool, wires_of, source_of, arguments_of, all_arguments, named_lines, lines_of, all_lines}
use Rattle.plcx_text_numbered.specs.Statements.{formal_of, store_line, store_lines}
use Rattle.plcx_text_numbered.specs.Numbers.{bound_operands}
use Rattle.plcx_text_pieces.specs.Called.{Callee, Block, User, Numbers}

-- a section: the POU that it is part of, and its lines
abbrev pub Part : Type 0
Part = ℕ × List Line

-- What a piece of a body adds: its lines; the inputs of functions and the bindings of calls; sections and the arms of a CASE; and
-- wires of the body, with the values that they begin with.
pub record Piece : Type 0 where
  pub lines : List Line
  pub arguments : List Argument
  pub bindings : List Operand
  pub sections : List Part
  pub arms : List Choice
  pub wires : List Value

-- how much of each there is before a piece
pub record Start : Type 0 where
  pub arguments : ℕ
  pub bindings : ℕ
  pub sections : ℕ
  pub arms : ℕ
  pub wires : ℕ

-- a piece that adds nothing
abbrev pub nothing : Piece
nothing = record { lines = []; arguments = []; bindings = []; sections = []; arms = []; wires = [] }

-- one piece behind another
abbrev pub joined : Piece → Piece → Piece
joined p q = record {
  lines = p.lines ++ q.lines;
  arguments = p.arguments ++ q.arguments;
  bindings = p.bindings ++ q.bindings;
  sections = p.sections ++ q.sections;
  arms = p.arms ++ q.arms;
  wires = p.wires ++ q.wires;
}

-- how much there is behind a piece
abbrev pub after : Start → Piece → Start
after s p = record {
  arguments = s.arguments + length p.arguments;
  bindings = s.bindings + length p.bindings;
  sections = s.sections + length p.sections;
  arms = s.arms + length p.arms;
  wires = s.wires + length p.wires;
}

-- one line alone
abbrev pub one_line : Line → Piece
one_line l = record nothing { lines = l ∷ [] }

-- the lines of a piece as a section of a POU, behind those within it
abbrev pub boxed : ℕ → Piece → Piece
boxed pou p = record p { lines = []; sections = p.sections ++ (pou, p.lines) ∷ [] }

-- ---- expressions

-- what a wire for a value of a type begins with
abbrev pub wire_value : Ty → Value
wire_value t = value t (pos 0)

abbrev mutual
  -- the wires of an expression: one of its type for each call of a function
  pub wire_values : Numbering → Expression → List Value
  wire_values c (Number v) = []
  wire_values c (Name x) = []
  wire_values c (Member i x) = []
  wire_values c (Apply x es) = all_wire_values c es ++ wire_value (or_bool (expression_type c.scope (Apply x es))) ∷ []
  wire_values c (Not e) = wire_values c e ++ wire_value (or_bool (expression_type c.scope (Not e))) ∷ []
  wire_values c (Binary op a b) = wire_values c a ++ (wire_values c b ++ wire_value (or_bool (expression_type c.scope (Binary op a b))) ∷ [])

  pub all_wire_values : Numbering → Expressions → List Value
  all_wire_values c no_expression = []
  all_wire_values c (expression e es) = wire_values c e ++ all_wire_values c es

abbrev pub value_piece : Numbering → Start → Expression → Piece
value_piece c s e = record {
  lines = lines_of c s.arguments s.wires e;
  arguments = arguments_of c s.wires e;
  bindings = [];
  sections = [];
  arms = [];
  wires = wire_values c e;
}

-- several expressions one after another
abbrev pub values_piece : Numbering → Start → Expressions → Piece
values_piece c s es = record {
  lines = all_lines c s.arguments s.wires es;
  arguments = all_arguments c s.wires es;
  bindings = [];
  sections = [];
  arms = [];
  wires = all_wire_values c es;
}

-- a call of a function, if there is one, for these inputs and with a result of this type
abbrev pub applied_piece : Start → Option Func → List Argument → Ty → Piece
applied_piece s f inputs t = record nothing { lines = named_lines f inputs s.arguments s.wires; arguments = inputs; wires = wire_value t ∷ [] }

-- ---- assignments and calls

abbrev pub assign_piece : Numbering → Start → List ℕ → Expression → Piece
assign_piece c s x e = joined (value_piece c s e) (one_line (store_line (c.place x) (source_of c s.wires e)))

-- a value is brought into a wire of its own
abbrev pub fixed_piece : Start → Source → Ty → Piece
fixed_piece s source t = record nothing { lines = line.Act (action.Fix source s.wires) ∷ []; wires = wire_value t ∷ [] }

-- that of an input
abbrev pub input_piece : Numbering → Start → Ty → Expression → Piece
input_piece c s t e =
    let p = value_piece c s e in joined p (fixed_piece (after s p) (source_of c s.wires e) t)

abbrev pub taken_piece : Numbering → Start → Formal → Given → Piece
taken_piece c s (Takes t) a = input_piece c s t a.value
taken_piece c s (Binds t) a = nothing
taken_piece c s NoFormal a = nothing

-- the inputs of a call one after another
abbrev pub all_taken_piece : Numbering → Start → List ℕ → List Given → Piece
all_taken_piece c s i [] = nothing
all_taken_piece c s i (a ∷ rest) = let p = taken_piece c s (formal_of c i a) a in joined p (all_taken_piece c (after s p) i rest)

-- what the in-outs of what is called are bound to
abbrev pub bindings_for : Numbering → Callee → List Given → List Operand
bindings_for c (Block k leaf) args = []
bindings_for c (User pou leaves names) args = bound_operands c args names

-- the call itself, whose bindings are the program's from the first on
abbrev pub called_lines : Callee → (first : ℕ) → List Line
called_lines (Block k leaf) first = line.Act (action.Standard k leaf) ∷ []
called_lines (User pou leaves names) first = line.Call pou leaves first (length names) ∷ []

-- the inputs are stored, and then the block is run
abbrev pub run_piece : Numbers → Start → (wire : ℕ) → List ℕ → List Given → Piece
run_piece n s wire i args = record nothing {
  lines = store_lines n.names i wire args ++ called_lines (n.callee i) s.bindings;
  bindings = bindings_for n.names (n.callee i) args;
}

abbrev pub call_piece : Numbers → Start → List ℕ → List Given → Piece
call_piece n s i args = let p = all_taken_piece n.names s i args in joined p (run_piece n (after s p) s.wires i args)

-- ---- choices and loops

-- what is evaluated, and then the section of an IF
abbrev pub if_piece : Numbers → Start → Expression → (body : Start → Piece) → Piece
if_piece n s e body =
    let test = value_piece n.names s e in
    let inner = body (after s test) in
    joined test (joined (boxed n.pou inner) (one_line (line.If (source_of n.names s.wires e) (after (after s test) inner).sections)))

-- a loop has a section of its own for what is evaluated before each turn
abbrev pub while_piece : Numbers → Start → Expression → (body : Start → Piece) → Piece
while_piece n s e body =
    let test = value_piece n.names s e in
    let behind = after s (boxed n.pou test) in
    let inner = body behind in
    joined (boxed n.pou test)
    (joined (boxed n.pou inner) (one_line (line.While (after s test).sections (source_of n.names s.wires e) (after behind inner).sections)))

-- a CASE over these choices, whose sections stand before
abbrev pub chosen_piece : Start → Source → List Choice → Piece
chosen_piece s source choices = record nothing { lines = line.Case source s.arms (length choices) ∷ []; arms = choices }

abbrev pub case_piece : Numbering → Start → Expression → (arms : Start → Piece) → (choices : Start → List Choice) → Piece
case_piece c s e arms choices =
    let value = value_piece c s e in
    let inner = arms (after s value) in
    joined value (joined inner (chosen_piece (after (after s value) inner) (source_of c s.wires e) (choices (after s value))))

-- ---- statements

abbrev mutual
  pub statement_piece : Numbers → Statement → Start → Piece
  statement_piece n (Assign x e) s = assign_piece n.names s x e
  statement_piece n (Call i args) s = call_piece n s i args
  statement_piece n (If e ss) s = if_piece n s e (statements_piece n ss)
  statement_piece n (While e ss) s = while_piece n s e (statements_piece n ss)
  statement_piece n (Case e arms) s = case_piece n.names s e (arms_piece n arms) (choices_of n arms)

  -- statements one after another
  pub statements_piece : Numbers → Statements → Start → Piece
  statements_piece n no_statement s = nothing
  statements_piece n (statement x xs) s = let p = statement_piece n x s in joined p (statements_piece n xs (after s p))

  -- the sections of the arms of a CASE
  pub arms_piece : Numbers → Arms → Start → Piece
  arms_piece n no_arm s = nothing
  arms_piece n (arm label xs rest) s = let p = boxed n.pou (statements_piece n xs s) in joined p (arms_piece n rest (after s p))

  -- and the arms, by the numbers of these
  pub choices_of : Numbers → Arms → Start → List Choice
  choices_of n no_arm s = []
  choices_of n (arm label xs rest) s =
      let p = statements_piece n xs s in
      record { label = label; section = (after s p).sections } ∷ choices_of n rest (after s (boxed n.pou p))
