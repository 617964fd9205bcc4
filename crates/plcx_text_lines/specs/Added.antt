-- What the code adds to what was prepared before.
use Rattle.std.specs.Prelude.{◌≡◌, ◌++◌, ◌∷◌, ℕ, List, [], length, map}
use Rattle.plcx_types.specs.declared.ty.Ty.{Ty}
use Rattle.plcx_types.specs.Lists.{Each}
use Rattle.plcx_meaning.specs.Tree.{Expression, expressions}
use Rattle.plcx_meaning.specs.Tree as tree
use Rattle.plcx_meaning.specs.Layout.{Scope}
use Rattle.plcx_meaning.specs.Execute.{formal}
use Rattle.plcx_meaning.specs.Typed.{part_in}
use Rattle.plcx_meaning.specs.Ready.{ExpressionIsReady, ValueIsReady, StatementIsReady}
use Rattle.plcx_st.specs.declared.tree.Arg.{Arg}
use Rattle.plcx_steps.specs.declared.program.Argument.{Argument}
use Rattle.plcx_text_steps.specs.declared.text.Line.{Line}
use Rattle.plcx_text_steps.specs.declared.text.Arm.{Arm}
use Rattle.plcx_text_steps.specs.declared.text.Section.{Section}
use Rattle.plcx_text_numbered.specs.Prepared.{Numbering, argument, inputs}
use Rattle.plcx_text_numbered.specs.Statements.{formal_of, store_one, store_lines}
use Rattle.plcx_text_pieces.specs.Called.{Numbers}
use Rattle.plcx_text_pieces.specs.Pieces.{Part, Piece, Start, after, value_piece, values_piece, taken_piece, all_taken_piece, boxed, arms_piece, choices_of}
use Rattle.plcx_text_lines.specs.declared.emitting.Prepared.{Prepared}

-- a section of the code
abbrev pub part_of : Section → Part
part_of s = (s.pou, s.lines.items)

-- how much is prepared
abbrev pub start_of : Prepared → Start
start_of p = record {
  arguments = length p.arguments.items;
  bindings = length p.bindings.items;
  sections = length p.sections.items;
  arms = length p.arms.items;
  wires = length p.wires.items;
}

-- a piece stands behind what was prepared before
pub record Adds (p : Piece) (before behind : Prepared) : Type 0 where
  pub lines : behind.lines.items ≡ before.lines.items ++ p.lines
  pub arguments : behind.arguments.items ≡ before.arguments.items ++ p.arguments
  pub bindings : behind.bindings.items ≡ before.bindings.items ++ p.bindings
  pub sections : map part_of behind.sections.items ≡ map part_of before.sections.items ++ p.sections
  pub arms : behind.arms.items ≡ before.arms.items ++ p.arms
  pub wires : behind.wires.items ≡ before.wires.items ++ p.wires

-- the lines are taken out of what is prepared
pub record Opens (before inner : Prepared) (outer : List Line) : Type 0 where
  pub outer_lines : outer ≡ before.lines.items
  pub lines : inner.lines.items ≡ []
  pub arguments : inner.arguments.items ≡ before.arguments.items
  pub bindings : inner.bindings.items ≡ before.bindings.items
  pub sections : map part_of inner.sections.items ≡ map part_of before.sections.items
  pub arms : inner.arms.items ≡ before.arms.items
  pub wires : inner.wires.items ≡ before.wires.items

-- the lines become a section of this number, and those that were taken out stand in their place
pub record Closes (pou : ℕ) (inner : Prepared) (outer : List Line) (behind : Prepared) (number : ℕ) : Type 0 where
  pub numbered : number ≡ length inner.sections.items
  pub lines : behind.lines.items ≡ outer
  pub arguments : behind.arguments.items ≡ inner.arguments.items
  pub bindings : behind.bindings.items ≡ inner.bindings.items
  pub sections : map part_of behind.sections.items ≡ map part_of inner.sections.items ++ (pou, inner.lines.items) ∷ []
  pub arms : behind.arms.items ≡ inner.arms.items
  pub wires : behind.wires.items ≡ inner.wires.items

-- an expression has a type, and its literals lie in theirs
abbrev pub HasValue : Scope → Expression → Type 0
HasValue c e = (t : Ty) × ExpressionIsReady c e t

-- what an expression needs is added, and the argument has its value
pub record Brings (c : Numbering) (e : Expression) (before behind : Prepared) (a : Argument) : Type 0 where
  pub added : Adds (value_piece c (start_of before) e) before behind
  pub value : a ≡ argument c (length before.wires.items) e

-- the same of several expressions
pub record BringsAll (c : Numbering) (es : List Expression) (before behind : Prepared) (given : List Argument) : Type 0 where
  pub added : Adds (values_piece c (start_of before) (expressions es)) before behind
  pub values : given ≡ inputs c (length before.wires.items) (expressions es)

-- an argument of a call of an instance suits what its formal name is
abbrev pub Suits : Scope → List ℕ → tree.Argument → Type 0
Suits c i a = ValueIsReady c a.value (formal c.world (part_in c i a.formal))

-- the value of an argument is brought into a wire where it is an input, and then a line more stores it
pub record TakesOne (c : Numbering) (i : List ℕ) (a : tree.Argument) (before behind : Prepared) (stores more : List Line) : Type 0 where
  pub added : Adds (taken_piece c (start_of before) (formal_of c i a) a) before behind
  pub stored : more ≡ stores ++ store_one (formal_of c i a) c i (length before.wires.items) a

-- the same of all arguments of a call
pub record Takes (c : Numbering) (i : List ℕ) (args : List tree.Argument) (before behind : Prepared) (stores : List Line) : Type 0 where
  pub added : Adds (all_taken_piece c (start_of before) i args) before behind
  pub stored : stores ≡ store_lines c i (length before.wires.items) args

-- the formal names of arguments
abbrev pub formals : List Arg → List (List ℕ)
formals args = map (λ (a : Arg). a.formal.name) args

-- the statements of an arm are ready
abbrev pub ArmIsReady : Scope → (ℕ × List tree.Statement) → Type 0
ArmIsReady c a = Each (StatementIsReady c) a.1

-- a piece is added as a section of this number
pub record AddsBoxed (pou : ℕ) (p : Piece) (before behind : Prepared) (number : ℕ) : Type 0 where
  pub added : Adds (boxed pou p) before behind
  pub numbered : number ≡ (after (start_of before) p).sections

-- the sections of arms are added, and these arms lead to them
pub record AddsArms (n : Numbers) (arms : tree.Arms) (before behind : Prepared) (choices : List Arm) : Type 0 where
  pub added : Adds (arms_piece n arms (start_of before)) before behind
  pub chosen : choices ≡ choices_of n arms (start_of before)
