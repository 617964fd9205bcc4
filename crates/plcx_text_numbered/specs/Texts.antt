-- The prepared text of a unit: the lines and sections of the statements of each POU, by what is declared.
use Rattle.std.specs.Prelude.{◌≡◌, ℕ, ◌+◌, ◌<◌, ◌≤◌, List, [], ◌∷◌, ◌++◌, Some, None, length, slice_get, slice_range}
use Rattle.std.specs.List.{Contains}
use Rattle.plcx_types.specs.declared.ty.Ty.{Ty}
use Rattle.plcx_types.specs.Name.{in_lower_case}
use Rattle.plcx_types.specs.Value.{Value}
use Rattle.plcx_std.specs.Kind.{kind_named}
use Rattle.plcx_meaning.specs.Tree.{Expression, Number, Name, Member, Apply, Not, Binary, Expressions, no_expression, expression, Argument, Statement, Assign, Call, If, While, Case, Statements, no_statement, statement, Arms, no_arm, arm, PouText}
use Rattle.plcx_meaning.specs.Layout.{Variable, variables_of, parts_of}
use Rattle.plcx_meaning.specs.Typed.{variable_in, expression_type}
use Rattle.plcx_meaning.specs.Execute.{Formal, Takes, Binds, NoFormal, world_of}
use Rattle.plcx_meaning.specs.Ready.{user_block}
use Rattle.plcx_state.specs.Stores.{HasValue}
use Rattle.plcx_steps.specs.declared.program.Operand.{Operand}
use Rattle.plcx_steps.specs.declared.program.Source.{Source}
use Rattle.plcx_steps.specs.declared.program.Argument.{Argument as Input}
use Rattle.plcx_steps.specs.declared.program.Action.TheVariants as action
use Rattle.plcx_steps.specs.declared.program.Body.{Body}
use Rattle.plcx_steps.specs.declared.program.Program.{Program}
use Rattle.plcx_numbered.specs.Numbers.{in_out_names, inner_depth}
use Rattle.plcx_numbered.specs.Right.{HasAt}
use Rattle.plcx_text_steps.specs.declared.text.Line.{Line}
use Rattle.plcx_text_steps.specs.declared.text.Line.TheVariants as line
use Rattle.plcx_text_steps.specs.declared.text.Arm.{Arm as Choice}
use Rattle.plcx_text_steps.specs.declared.text.Section.{Section}
use Rattle.plcx_text_steps.specs.declared.text.Entry.{Entry}
use Rattle.plcx_text_steps.specs.declared.text.Text.{Text}
use Rattle.plcx_text_numbered.specs.Prepared.{Numbering, or_bool, wires_of, all_wires, source_of, arguments_of, lines_of}
use Rattle.plcx_text_numbered.specs.Statements.{store_line, formal_of, taken_wires, store_lines}
use Rattle.plcx_text_numbered.specs.Numbers.{places_of, leaf_number, temporary_names, temporary_values, numbering, bound_operands, level, place_named}

-- whose statements are prepared: a POU of a unit, and its number
pub record Owner : Type 0 where
  pub unit : List PouText
  pub pou : PouText
  pub number : ℕ

abbrev pub num : Owner → Numbering
num o = numbering o.unit o.pou

-- What is prepared: the inputs of functions, what in-outs are bound to, the sections, the arms, and the wires of the POU before its first line.
pub record Parts : Type 0 where
  pub arguments : List Input
  pub bindings : List Operand
  pub sections : List Section
  pub arms : List Choice
  pub wires : List Value

-- ---- expressions

-- a wire of the type of an expression
abbrev pub HasWire : Numbering → List Value → ℕ → Expression → Type 0
HasWire c wires w e = HasValue wires w (or_bool (expression_type c.scope e))

abbrev mutual
  -- each call of a function within an expression has a wire of its type, from this one on
  pub HasWires : Numbering → List Value → ℕ → Expression → Type 0
  HasWires c wires w (Number v) = Unit {0}
  HasWires c wires w (Name x) = Unit {0}
  HasWires c wires w (Member i x) = Unit {0}
  HasWires c wires w (Apply x es) = HaveWires c wires w es × HasWire c wires (w + all_wires es) (Apply x es)
  HasWires c wires w (Not e) = HasWires c wires w e × HasWire c wires (w + wires_of e) (Not e)
  HasWires c wires w (Binary op a b) = HasWires c wires w a × HasWires c wires (w + wires_of a) b × HasWire c wires (w + (wires_of a + wires_of b)) (Binary op a b)

  pub HaveWires : Numbering → List Value → ℕ → Expressions → Type 0
  HaveWires c wires w no_expression = Unit {0}
  HaveWires c wires w (expression e es) = HasWires c wires w e × HaveWires c wires (w + wires_of e) es

-- lines bring the value of an expression into a source; its wires begin with this one, behind the temporaries
pub record IsExpressionOf (o : Owner) (c : Parts) (wire : ℕ) (e : Expression) (lines : List Line) (source : Source) : Type 0 where
  pub first : ℕ
  pub begins : first ≤ length c.arguments
  pub has : HasAt c.arguments first (arguments_of (num o) wire e)
  pub free : length (temporary_names (variables_of o.pou.blocks)) ≤ wire
  pub room : wire + wires_of e ≤ length c.wires
  pub wires : HasWires (num o) c.wires wire e
  pub are_lines : lines ≡ lines_of (num o) first wire e
  pub is_source : source ≡ source_of (num o) wire e

-- the same with wires from somewhere on
pub record IsValueOf (o : Owner) (c : Parts) (e : Expression) (lines : List Line) (source : Source) : Type 0 where
  pub wire : ℕ
  pub value : IsExpressionOf o c wire e lines source

-- a value goes to the place of a name
pub record IsAssignOf (o : Owner) (c : Parts) (x : List ℕ) (e : Expression) (lines : List Line) : Type 0 where
  pub before : List Line
  pub source : Source
  pub value : IsValueOf o c e before source
  pub are_lines : lines ≡ before ++ store_line ((num o).place x) source ∷ []

-- ---- calls

-- the value of an input of this type is brought into a wire of its own
pub record IsInputOf (o : Owner) (c : Parts) (wire : ℕ) (a : Argument) (t : Ty) (lines : List Line) : Type 0 where
  pub before : List Line
  pub source : Source
  pub value : IsExpressionOf o c wire a.value before source
  pub own : HasValue c.wires (wire + wires_of a.value) t
  pub are_lines : lines ≡ before ++ line.Act (action.Fix source (wire + wires_of a.value)) ∷ []

-- an argument before any is stored; an in-out has no value
abbrev pub IsTakenOf : Owner → Parts → ℕ → Argument → Formal → List Line → Type 0
IsTakenOf o c wire a (Takes t) lines = IsInputOf o c wire a t lines
IsTakenOf o c wire a (Binds t) lines = lines ≡ []
IsTakenOf o c wire a NoFormal lines = lines ≡ []

-- the arguments one after another, with wires of their own
abbrev pub AreTakenOf : Owner → Parts → List ℕ → ℕ → List Argument → List Line → Type 0
AreTakenOf o c i wire [] lines = lines ≡ []
AreTakenOf o c i wire (a ∷ rest) lines =
    (xs : List Line) × (ys : List Line) × (lines ≡ xs ++ ys) × IsTakenOf o c wire a (formal_of (num o) i a) xs
    × AreTakenOf o c i (wire + taken_wires (formal_of (num o) i a) a) rest ys

-- the names of the in-outs of the instance of a name
abbrev pub inner_in_outs : Owner → List ℕ → List (List ℕ)
inner_in_outs o i = in_out_names (parts_of (world_of o.unit) (variable_in (num o).scope i))

-- the run of a block: of a standard one with its leaves, or of one of the unit, with the program's bindings from the first on
abbrev pub called_lines : Owner → (first : ℕ) → List ℕ → Variable → List Line
called_lines o first i v =
    let leaf = leaf_number o.unit (in_lower_case i) (variables_of o.pou.blocks) in
    elim (kind_named v.ty) [
      | Some k ↦ line.Act (action.Standard k leaf) ∷ []
      | None ↦ line.Call (place_named v.ty o.unit) leaf first (length (inner_in_outs o i)) ∷ []
    ]

-- all arguments are taken, then stored, and then the block is run
pub record IsCallOf (o : Owner) (c : Parts) (i : List ℕ) (args : List Argument) (lines : List Line) : Type 0 where
  pub instance : Variable
  pub found : variable_in (num o).scope i ≡ Some instance
  pub wire : ℕ
  pub free : length (temporary_names (variables_of o.pou.blocks)) ≤ wire
  pub taken : List Line
  pub are_taken : AreTakenOf o c i wire args taken
  pub first : ℕ
  pub begins : first ≤ length c.bindings
  pub has : HasAt c.bindings first (bound_operands (num o) args (inner_in_outs o i))
  pub are_lines : lines ≡ taken ++ (store_lines (num o) i wire args ++ called_lines o first i instance)

-- ---- statements

-- the section of a number is one of the POU, with these lines
pub record IsSectionOf (o : Owner) (c : Parts) (number : ℕ) (lines : List Line) : Type 0 where
  pub section : Section
  pub is : slice_get c.sections number ≡ Some section
  pub part : section.pou ≡ o.number
  pub are_lines : section.lines.items ≡ lines

abbrev mutual
  -- lines stand for a statement, whose sections are those from one number to another
  pub IsStatementOf : Owner → Parts → (from to : ℕ) → Statement → List Line → Type 0
  IsStatementOf o c from to (Assign x e) lines = (from ≡ to) × IsAssignOf o c x e lines
  IsStatementOf o c from to (Call i args) lines = (from ≡ to) × IsCallOf o c i args lines
  IsStatementOf o c from to (If e ss) lines =
      (before : List Line) × (source : Source) × (k : ℕ) × (inner : List Line) × (lines ≡ before ++ line.If source k ∷ []) × (to ≡ k + 1)
      × IsValueOf o c e before source × IsSectionOf o c k inner × AreStatementsOf o c from k ss inner
  IsStatementOf o c from to (While e ss) lines =
      (before : List Line) × (source : Source) × (k : ℕ) × (inner : List Line) × (lines ≡ line.While from source k ∷ []) × (to ≡ k + 1)
      × IsValueOf o c e before source × IsSectionOf o c from before × IsSectionOf o c k inner × AreStatementsOf o c (from + 1) k ss inner
  IsStatementOf o c from to (Case e arms) lines =
      (before : List Line) × (source : Source) × (first : ℕ) × (count : ℕ) × (lines ≡ before ++ line.Case source first count ∷ [])
      × (first + count ≤ length c.arms) × IsValueOf o c e before source × AreArmsOf o c from to arms (slice_range c.arms first (first + count))

  -- statements one after another
  pub AreStatementsOf : Owner → Parts → (from to : ℕ) → Statements → List Line → Type 0
  AreStatementsOf o c from to no_statement lines = (from ≡ to) × (lines ≡ [])
  AreStatementsOf o c from to (statement s ss) lines =
      (k : ℕ) × (xs : List Line) × (ys : List Line) × (lines ≡ xs ++ ys) × IsStatementOf o c from k s xs × AreStatementsOf o c k to ss ys

  -- the arms of a CASE, each with its section behind those within it
  pub AreArmsOf : Owner → Parts → (from to : ℕ) → Arms → List Choice → Type 0
  AreArmsOf o c from to no_arm choices = (from ≡ to) × (choices ≡ [])
  AreArmsOf o c from to (arm label ss rest) choices =
      (k : ℕ) × (inner : List Line) × (more : List Choice) × (choices ≡ record { label = label; section = k } ∷ more)
      × IsSectionOf o c k inner × AreStatementsOf o c from k ss inner × AreArmsOf o c (k + 1) to rest more

-- lines stand for the statements of a body
abbrev pub AreLinesOf : Owner → Parts → (from to : ℕ) → List Statement → List Line → Type 0
AreLinesOf o c from to [] lines = (from ≡ to) × (lines ≡ [])
AreLinesOf o c from to (s ∷ ss) lines = (k : ℕ) × (xs : List Line) × (ys : List Line) × (lines ≡ xs ++ ys) × IsStatementOf o c from k s xs × AreLinesOf o c k to ss ys

-- ---- POUs

-- a program's and a text's parts, with the wires of a POU
abbrev pub prepared : Program → Text → List Value → Parts
prepared program text wires = record {
  arguments = program.arguments.items;
  bindings = program.bindings.items;
  sections = text.sections.items;
  arms = text.arms.items;
  wires = wires;
}

-- The frame of a body, whose sections begin with this one: how many levels of function blocks are below it, how many leaves and in-outs an instance has, its
-- wires, and the place of its wires, in-outs and sections, behind those of the function blocks of its instances. A text has no memories but leaves.
pub record IsFrameOf (unit : List PouText) (program : Program) (text : Text) (p : PouText) (body : Body) (floor : ℕ) : Type 0 where
  pub level : body.level ≡ level inner_depth unit p
  pub leaves : body.leaves ≡ length (places_of unit (variables_of p.blocks))
  pub memories : body.memories ≡ 0
  pub in_outs : body.in_outs ≡ length (in_out_names (variables_of p.blocks))
  pub behind : (v : Variable) (q : PouText) (callee : Body) (entry : Entry) → Contains (variables_of p.blocks) v → user_block unit v ≡ Some q
      → slice_get program.bodies.items (place_named v.ty unit) ≡ Some callee → slice_get text.entries.items (place_named v.ty unit) ≡ Some entry
      → (callee.first_wire + callee.width ≤ body.first_wire) × (callee.first_in_out + callee.in_outs ≤ body.first_in_out) × (entry.section < floor)

-- A POU is prepared: its frame, its wires, which begin with its temporaries, and its sections from one number on, the last of which has its lines.
pub record IsPouOf (unit : List PouText) (program : Program) (text : Text) (k : ℕ) (p : PouText) : Type 0 where
  pub body : Body
  pub is_body : slice_get program.bodies.items k ≡ Some body
  pub entry : Entry
  pub is_entry : slice_get text.entries.items k ≡ Some entry
  pub floor : ℕ
  pub frame : IsFrameOf unit program text p body floor
  pub width : body.width ≡ length entry.wires.items
  pub spare : List Value
  pub wires : entry.wires.items ≡ temporary_values (variables_of p.blocks) ++ spare
  pub lines : List Line
  pub section : IsSectionOf (record { unit = unit; pou = p; number = k }) (prepared program text entry.wires.items) entry.section lines
  pub are_lines : AreLinesOf (record { unit = unit; pou = p; number = k }) (prepared program text entry.wires.items) floor entry.section p.body lines

-- a section is one of those of a POU that is prepared
pub record IsOwned (unit : List PouText) (program : Program) (text : Text) (number k : ℕ) : Type 0 where
  pub p : PouText
  pub is : slice_get unit k ≡ Some p
  pub pou : IsPouOf unit program text k p
  pub from : pou.floor ≤ number
  pub to : number ≤ pou.entry.section

-- a program and a text are prepared of a unit
pub record IsTextOf (unit : List PouText) (program : Program) (text : Text) : Type 0 where
  pub pous : (k : ℕ) (p : PouText) → slice_get unit k ≡ Some p → IsPouOf unit program text k p
  pub bodies : length program.bodies.items ≡ length unit
  pub owned : (j : ℕ) (s : Section) → slice_get text.sections.items j ≡ Some s → IsOwned unit program text j s.pou
