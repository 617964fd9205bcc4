-- A unit and its plans, whose prepared text can be looked at: calls with an in-out and of a standard block, a temporary, a loop and choices.
use Rattle.std.specs.Prelude.{◌≡◌, ℕ, pos, List, [], ◌∷◌, ◌++◌, map, codes, if◌then◌else◌}
use Rattle.std.specs.Str.{bytes_eq}
use Rattle.plcx_types.specs.Name.{in_lower_case}
use Rattle.plcx_std.specs.declared.kind.StdKind.TheVariants as kind
use Rattle.plcx_std.specs.Pins.{Pin, pins}
use Rattle.plcx_meaning.specs.Base.{Path}
use Rattle.plcx_meaning.specs.Tree.{Plus, Less, Name, Member, Apply, Not, Binary, Statement, Assign, Call, If, While, Case, PouText, no_statement, statement, expressions, no_arm, arm}
use Rattle.plcx_meaning.specs.ReadyExamples.{counting, argument, int, with_body, unit_with}
use Rattle.plcx_meaning.specs.Execute.{scope_of}
use Rattle.plcx_types.specs.declared.ty.Ty.TheVariants as ty
use Rattle.plcx_types.specs.Value.{Value}
use Rattle.plcx_funcs.specs.declared.func.Func.TheVariants as func
use Rattle.plcx_funcs.specs.Applied.{value}
use Rattle.plcx_steps.specs.declared.program.Operand.TheVariants.{Leaf, InOut}
use Rattle.plcx_steps.specs.declared.program.Source.TheVariants.{Constant, Wire, Variable}
use Rattle.plcx_steps.specs.declared.program.Argument.{Argument}
use Rattle.plcx_steps.specs.declared.program.Action.TheVariants as action
use Rattle.plcx_steps.specs.declared.program.Program.{Program}
use Rattle.plcx_text_steps.specs.declared.text.Line.{Line}
use Rattle.plcx_text_steps.specs.declared.text.Line.TheVariants as line
use Rattle.plcx_text_steps.specs.declared.text.Section.{Section}
use Rattle.plcx_text_steps.specs.declared.text.Entry.{Entry}
use Rattle.plcx_text_steps.specs.declared.text.Text.{Text}
use Rattle.plcx_text_numbered.specs.Prepared.{Place, Held, Stored, Numbering}
use Rattle.plcx_text_numbered.specs.Statements.{PouPlan, IsPrepared}

-- what the program does
abbrev pub body : List Statement
body =
    Call (codes "K") (argument (codes "V") (Name (codes "X")) ∷ [])
    ∷ Call (codes "T1") (argument (codes "IN") (Name (codes "A")) ∷ [])
    ∷ Assign (codes "A") (Member (codes "T1") (codes "Q"))
    ∷ Assign (codes "Y") (Apply (codes "MAX") (expressions (Name (codes "X") ∷ int 3 ∷ [])))
    ∷ While (Binary Less (Name (codes "Y")) (int 9)) (statement (Assign (codes "Y") (Binary Plus (Name (codes "Y")) (int 1))) no_statement)
    ∷ If (Not (Name (codes "A"))) (statement (Assign (codes "X") (Name (codes "Y"))) no_statement)
    ∷ Case (Name (codes "D")) (arm 1 (statement (Assign (codes "X") (int 0)) no_statement) no_arm)
    ∷ []

-- a block that counts what stands for its in-out, and the program
abbrev pub unit : List PouText
unit = unit_with body

-- the leaves of the timer
abbrev pub timer : Pin → Path
timer p = in_lower_case p.name ∷ codes "t1" ∷ []

abbrev pub counting_plan : PouPlan
counting_plan = record { pou = counting; level = 0; plan = record { paths = []; in_outs = codes "v" ∷ []; temporaries = [] } }

abbrev pub main_plan : PouPlan
main_plan = record {
  pou = with_body body;
  level = 1;
  plan = record {
    paths = (codes "a" ∷ []) ∷ (codes "x" ∷ []) ∷ (codes "d" ∷ []) ∷ map timer (pins kind.Ton);
    in_outs = [];
    temporaries = codes "y" ∷ [];
  };
}

abbrev pub plans : List PouPlan
plans = counting_plan ∷ main_plan ∷ []

-- the numbers that the bodies use
abbrev pub counting_numbers : Numbering
counting_numbers = record { scope = scope_of unit counting; place = λ x. Stored (InOut 0); inner = λ i x. 0 }

abbrev pub main_place : List ℕ → Place
main_place key = if bytes_eq key (codes "a") then Stored (Leaf 0) else if bytes_eq key (codes "x") then Stored (Leaf 1) else if bytes_eq key (codes "d") then Stored (Leaf 2) else Held 0

abbrev pub main_inner : List ℕ → ℕ
main_inner key = if bytes_eq key (codes "in") then 3 else 5

abbrev pub main_numbers : Numbering
main_numbers = record { scope = scope_of unit (with_body body); place = λ x. main_place (in_lower_case x); inner = λ i x. main_inner (in_lower_case x) }

-- ---- what is prepared

abbrev pub int_value : ℕ → Value
int_value n = value ty.Int (pos n)

-- the inputs of functions: of the block's sum, of MAX, of the test of the loop, of the sum within it, and of NOT
abbrev pub all_inputs : List Argument
all_inputs =
    record { ty = ty.Int; source = Variable (InOut 0) } ∷ record { ty = ty.Int; source = Constant (int_value 1) }
    ∷ record { ty = ty.Int; source = Variable (Leaf 1) } ∷ record { ty = ty.Int; source = Constant (int_value 3) }
    ∷ record { ty = ty.Int; source = Wire 0 } ∷ record { ty = ty.Int; source = Constant (int_value 9) }
    ∷ record { ty = ty.Int; source = Wire 0 } ∷ record { ty = ty.Int; source = Constant (int_value 1) }
    ∷ record { ty = ty.Bool; source = Variable (Leaf 0) }
    ∷ []

-- the body of the block
abbrev pub counting_lines : List Line
counting_lines = line.Act (action.Apply func.Add ty.Int 0 2 0) ∷ line.Act (action.Write (InOut 0) (Wire 0)) ∷ []

-- what stands before each test of the loop, and one turn of it
abbrev pub test_lines : List Line
test_lines = line.Act (action.Apply func.Lt ty.Int 4 2 3) ∷ []

abbrev pub turn_lines : List Line
turn_lines = line.Act (action.Apply func.Add ty.Int 6 2 4) ∷ line.Act (action.Fix (Wire 4) 0) ∷ []

-- within the IF, and within the arm of the CASE
abbrev pub if_lines : List Line
if_lines = line.Act (action.Write (Leaf 1) (Wire 0)) ∷ []

abbrev pub arm_lines : List Line
arm_lines = line.Act (action.Write (Leaf 1) (Constant (int_value 0))) ∷ []

-- the statements of the program
abbrev pub block_lines : List Line
block_lines = line.Call 0 3 0 1 ∷ []

abbrev pub timer_lines : List Line
timer_lines = line.Act (action.Fix (Variable (Leaf 0)) 1) ∷ line.Act (action.Write (Leaf 3) (Wire 1)) ∷ line.Act (action.Standard kind.Ton 3) ∷ []

abbrev pub member_lines : List Line
member_lines = line.Act (action.Write (Leaf 0) (Variable (Leaf 5))) ∷ []

abbrev pub greater_lines : List Line
greater_lines = line.Act (action.Apply func.Max ty.Int 2 2 2) ∷ line.Act (action.Fix (Wire 2) 0) ∷ []

abbrev pub loop_lines : List Line
loop_lines = line.While 1 (Wire 3) 2 ∷ []

abbrev pub choice_lines : List Line
choice_lines = line.Act (action.Apply func.Not ty.Bool 8 1 5) ∷ line.If (Wire 5) 3 ∷ []

abbrev pub case_lines : List Line
case_lines = line.Case (Variable (Leaf 2)) 0 1 ∷ []

abbrev pub main_lines : List Line
main_lines = block_lines ++ (timer_lines ++ (member_lines ++ (greater_lines ++ (loop_lines ++ (choice_lines ++ (case_lines ++ []))))))

-- the wires of the program: the temporary, and one for each value within a statement
abbrev pub main_wires : List Value
main_wires = int_value 0 ∷ value ty.Bool (pos 0) ∷ int_value 0 ∷ value ty.Bool (pos 0) ∷ int_value 0 ∷ value ty.Bool (pos 0) ∷ []

-- a program and a text that have these lists
pub record IsExample (program : Program) (text : Text) : Type 0 where
  pub inputs : program.arguments.items ≡ all_inputs
  pub bindings : program.bindings.items ≡ Leaf 1 ∷ []
  pub arms : text.arms.items ≡ record { label = 1; section = 4 } ∷ []
  pub block : Entry
  pub main : Entry
  pub entries : text.entries.items ≡ block ∷ main ∷ []
  pub block_begins : block.section ≡ 0
  pub block_wires : block.wires.items ≡ int_value 0 ∷ []
  pub main_begins : main.section ≡ 5
  pub main_has : main.wires.items ≡ main_wires
  pub counts : Section
  pub tests : Section
  pub turns : Section
  pub ifs : Section
  pub arm_part : Section
  pub mains : Section
  pub sections : text.sections.items ≡ counts ∷ tests ∷ turns ∷ ifs ∷ arm_part ∷ mains ∷ []
  pub counts_has : counts.lines.items ≡ counting_lines
  pub tests_has : tests.lines.items ≡ test_lines
  pub turns_has : turns.lines.items ≡ turn_lines
  pub ifs_has : ifs.lines.items ≡ if_lines
  pub arm_has : arm_part.lines.items ≡ arm_lines
  pub mains_has : mains.lines.items ≡ main_lines

-- a text with these lists is prepared of the unit
abbrev pub ExampleIsPrepared : Type 0
ExampleIsPrepared = (program : Program) (text : Text) → IsExample program text → IsPrepared unit plans program text
