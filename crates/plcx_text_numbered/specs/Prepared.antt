-- What is prepared of an expression: lines that bring the values of its calls into wires, and the source that has its own value behind them.
use Rattle.std.specs.Prelude.{ℕ, ◌+◌, List, [], ◌∷◌, ◌++◌, Option, Some, None, length, map}
use Rattle.plcx_types.specs.declared.ty.Ty.{Ty}
use Rattle.plcx_types.specs.declared.ty.Ty.TheVariants as ty
use Rattle.plcx_funcs.specs.declared.func.Func.{Func}
use Rattle.plcx_funcs.specs.declared.func.Func.TheVariants as func
use Rattle.plcx_funcs.specs.Names.{function_named}
use Rattle.plcx_meaning.specs.Tree.{Expression, Number, Name, Member, Apply, Not, Binary, Expressions, no_expression, expression}
use Rattle.plcx_meaning.specs.Layout.{Scope}
use Rattle.plcx_meaning.specs.Functions.{group_of}
use Rattle.plcx_meaning.specs.Typed.{expression_type}
use Rattle.plcx_meaning.specs.Execute.{function_of}
use Rattle.plcx_steps.specs.declared.program.Operand.{Operand}
use Rattle.plcx_steps.specs.declared.program.Operand.TheVariants.{Leaf}
use Rattle.plcx_steps.specs.declared.program.Source.{Source}
use Rattle.plcx_steps.specs.declared.program.Source.TheVariants.{Constant, Wire, Variable}
use Rattle.plcx_steps.specs.declared.program.Argument.{Argument}
use Rattle.plcx_steps.specs.declared.program.Action.TheVariants as action
use Rattle.plcx_text_steps.specs.declared.text.Line.{Line}
use Rattle.plcx_text_steps.specs.declared.text.Line.TheVariants as line

-- where the value of a name stands: a temporary's in a wire, others in a leaf
pub data Place : Type 0 where
  Held : ℕ → Place
  Stored : Operand → Place

-- The numbers of what a body names: of a variable, and of an output of an instance; and the types of its names.
pub record Numbering : Type 0 where
  pub scope : Scope
  pub place : List ℕ → Place
  pub inner : (instance x : List ℕ) → ℕ

-- the type that is found, BOOL where there is none
abbrev pub or_bool : Option Ty → Ty
or_bool None = ty.Bool
or_bool (Some t) = t

-- what has the value of a name
abbrev pub place_source : Place → Source
place_source (Held w) = Wire w
place_source (Stored o) = Variable o

-- how many wires an expression takes: one for each call of a function
abbrev mutual
  pub wires_of : Expression → ℕ
  wires_of (Number v) = 0
  wires_of (Name x) = 0
  wires_of (Member i x) = 0
  wires_of (Apply x es) = all_wires es + 1
  wires_of (Not e) = wires_of e + 1
  wires_of (Binary op a b) = wires_of a + wires_of b + 1

  pub all_wires : Expressions → ℕ
  all_wires no_expression = 0
  all_wires (expression e es) = wires_of e + all_wires es

-- what has the value of an expression whose wires begin with this one
abbrev pub source_of : Numbering → ℕ → Expression → Source
source_of c w (Number v) = Constant v
source_of c w (Name x) = place_source (c.place x)
source_of c w (Member i x) = Variable (Leaf (c.inner i x))
source_of c w (Apply x es) = Wire (w + all_wires es)
source_of c w (Not e) = Wire (w + wires_of e)
source_of c w (Binary op a b) = Wire (w + (wires_of a + wires_of b))

-- an expression as an input of a function, with its type
abbrev pub argument : Numbering → ℕ → Expression → Argument
argument c w e = record { ty = or_bool (expression_type c.scope e); source = source_of c w e }

-- the inputs of one call
abbrev pub inputs : Numbering → ℕ → Expressions → List Argument
inputs c w no_expression = []
inputs c w (expression e es) = argument c w e ∷ inputs c (w + wires_of e) es

-- the inputs of all calls within an expression, in the order in which they are evaluated
abbrev mutual
  pub arguments_of : Numbering → ℕ → Expression → List Argument
  arguments_of c w (Number v) = []
  arguments_of c w (Name x) = []
  arguments_of c w (Member i x) = []
  arguments_of c w (Apply x es) = all_arguments c w es ++ inputs c w es
  arguments_of c w (Not e) = arguments_of c w e ++ argument c w e ∷ []
  arguments_of c w (Binary op a b) = arguments_of c w a ++ (arguments_of c (w + wires_of a) b ++ argument c w a ∷ argument c (w + wires_of a) b ∷ [])

  pub all_arguments : Numbering → ℕ → Expressions → List Argument
  all_arguments c w no_expression = []
  all_arguments c w (expression e es) = arguments_of c w e ++ all_arguments c (w + wires_of e) es

-- the type of the group of a function with these inputs
abbrev pub group : Func → List Argument → Ty
group f arguments = or_bool (group_of f (map (λ (a : Argument). a.ty) arguments))

-- a call of a function, whose inputs are the program's from the first on
abbrev pub call_lines : Func → List Argument → (first wire : ℕ) → List Line
call_lines f arguments first wire = line.Act (action.Apply f (group f arguments) first (length arguments) wire) ∷ []

-- and of one by its name
abbrev pub named_lines : Option Func → List Argument → (first wire : ℕ) → List Line
named_lines None arguments first wire = []
named_lines (Some f) arguments first wire = call_lines f arguments first wire

-- the lines of an expression whose arguments and wires begin with these
abbrev mutual
  pub lines_of : Numbering → (first wire : ℕ) → Expression → List Line
  lines_of c a w (Number v) = []
  lines_of c a w (Name x) = []
  lines_of c a w (Member i x) = []
  lines_of c a w (Apply x es) = all_lines c a w es ++ named_lines (function_named x) (inputs c w es) (a + length (all_arguments c w es)) (w + all_wires es)
  lines_of c a w (Not e) = lines_of c a w e ++ call_lines func.Not (argument c w e ∷ []) (a + length (arguments_of c w e)) (w + wires_of e)
  lines_of c a w (Binary op p q) =
      lines_of c a w p
      ++ (lines_of c (a + length (arguments_of c w p)) (w + wires_of p) q
      ++ call_lines (function_of op) (argument c w p ∷ argument c (w + wires_of p) q ∷ [])
      (a + length (arguments_of c w p) + length (arguments_of c (w + wires_of p) q)) (w + (wires_of p + wires_of q)))

  pub all_lines : Numbering → (first wire : ℕ) → Expressions → List Line
  all_lines c a w no_expression = []
  all_lines c a w (expression e es) = lines_of c a w e ++ all_lines c (a + length (arguments_of c w e)) (w + wires_of e) es
