-- What is prepared of statements and of a text: which lines stand for a statement, and which sections for the statements within it.
use Rattle.std.specs.Prelude.{◌≡◌, ℕ, ◌+◌, ◌<◌, ◌≤◌, true, ◌⊎◌, List, [], ◌∷◌, ◌++◌, Some, None, length, slice_get, slice_range}
use Rattle.plcx_types.specs.declared.ty.Ty.{Ty}
use Rattle.plcx_types.specs.declared.ty.Ty.TheVariants as ty
use Rattle.plcx_types.specs.Name.{in_lower_case}
use Rattle.plcx_std.specs.declared.kind.StdKind.{StdKind}
use Rattle.plcx_std.specs.Kind.{kind_named}
use Rattle.plcx_std.specs.Pins.{Pin, pins}
use Rattle.plcx_meaning.specs.Base.{Path, Site, top}
use Rattle.plcx_meaning.specs.Tree.{Expression, Argument, Statement, Assign, Call, If, While, Case, Statements, no_statement, statement, Arms, no_arm, arm, PouText}
use Rattle.plcx_meaning.specs.Layout.{variables_of, parts_of}
use Rattle.plcx_meaning.specs.Typed.{variable_in, part_in, referent_type, expression_type}
use Rattle.plcx_meaning.specs.Execute.{Instance, referent, Formal, Takes, Binds, NoFormal, formal, has_leaf, referent_in, bind, all_bound, fresh, block_named, scope_of}
use Rattle.plcx_steps.specs.declared.program.Operand.{Operand}
use Rattle.plcx_steps.specs.declared.program.Operand.TheVariants.{Leaf, InOut}
use Rattle.plcx_steps.specs.declared.program.Source.{Source}
use Rattle.plcx_steps.specs.declared.program.Source.TheVariants.{Wire}
use Rattle.plcx_steps.specs.declared.program.Action.TheVariants as action
use Rattle.plcx_steps.specs.declared.program.Program.{Program}
use Rattle.plcx_numbered.specs.Agreeing.{AreApart}
use Rattle.plcx_numbered.specs.Right.{HasAt}
use Rattle.plcx_text_steps.specs.declared.text.Line.{Line}
use Rattle.plcx_text_steps.specs.declared.text.Line.TheVariants as line
use Rattle.plcx_text_steps.specs.declared.text.Arm.{Arm as Choice}
use Rattle.plcx_text_steps.specs.declared.text.Section.{Section}
use Rattle.plcx_text_steps.specs.declared.text.Entry.{Entry}
use Rattle.plcx_text_steps.specs.declared.text.Text.{Text}
use Rattle.plcx_text_numbered.specs.Agreeing.{Lies, SameFrame}
use Rattle.plcx_text_numbered.specs.Prepared.{Place, Held, Stored, Numbering, wires_of, source_of, arguments_of, lines_of}
use Rattle.plcx_text_numbered.specs.Right.{Plan, IsPlaceOf, RightExpression}
use Rattle.plcx_text_numbered.specs.Setting.{setting}

-- a POU of a unit, how many levels of function blocks are below it at most, and what it has by numbers
pub record PouPlan : Type 0 where
  pub pou : PouText
  pub level : ℕ
  pub plan : Plan

-- Where a statement is prepared: the unit with its plans, the POU's plan, what is prepared, the numbers, and how many wires there are.
pub record Around : Type 0 where
  pub unit : List PouText
  pub plans : List PouPlan
  pub own : PouPlan
  pub program : Program
  pub text : Text
  pub num : Numbering
  pub width : ℕ

-- lines bring the value of an expression of a type into a source, whose wires begin with this one
pub record IsExpression (c : Around) (wire : ℕ) (e : Expression) (t : Ty) (lines : List Line) (source : Source) : Type 0 where
  pub typed : expression_type c.num.scope e ≡ Some t
  pub right : RightExpression c.own.plan c.num e
  pub first : ℕ
  pub has : HasAt c.program.arguments.items first (arguments_of c.num wire e)
  pub free : length c.own.plan.temporaries ≤ wire
  pub room : wire + wires_of e ≤ c.width
  pub are_lines : lines ≡ lines_of c.num first wire e
  pub is_source : source ≡ source_of c.num wire e

-- the same with wires from somewhere on
pub record IsValue (c : Around) (e : Expression) (t : Ty) (lines : List Line) (source : Source) : Type 0 where
  pub wire : ℕ
  pub value : IsExpression c wire e t lines source

-- ---- assignments

-- a value goes to the place of a name
abbrev pub store_line : Place → Source → Line
store_line (Held w) s = line.Act (action.Fix s w)
store_line (Stored o) s = line.Act (action.Write o s)

pub record IsAssign (c : Around) (x : List ℕ) (e : Expression) (lines : List Line) : Type 0 where
  pub type : Ty
  pub typed : referent_type (referent c.num.scope.world (variable_in c.num.scope x)) ≡ Some type
  pub place : IsPlaceOf c.own.plan x (referent c.num.scope.world (variable_in c.num.scope x)) (c.num.place x)
  pub before : List Line
  pub source : Source
  pub value : IsValue c e type before source
  pub are_lines : lines ≡ before ++ store_line (c.num.place x) source ∷ []

-- ---- calls

-- what a formal name is in a call of an instance
abbrev pub formal_of : Numbering → List ℕ → Argument → Formal
formal_of num i a = formal num.scope.world (part_in num.scope i a.formal)

-- how many wires an argument takes: those of its expression, and one for its value
abbrev pub taken_wires : Formal → Argument → ℕ
taken_wires (Takes t) a = wires_of a.value + 1
taken_wires (Binds t) a = 0
taken_wires NoFormal a = 0

-- the value of an input is brought into a wire of its own
pub record IsInput (c : Around) (i : List ℕ) (wire : ℕ) (a : Argument) (t : Ty) (lines : List Line) : Type 0 where
  pub before : List Line
  pub source : Source
  pub value : IsExpression c wire a.value t before source
  pub room : wire + wires_of a.value < c.width
  pub are_lines : lines ≡ before ++ line.Act (action.Fix source (wire + wires_of a.value)) ∷ []
  pub leaf : slice_get c.own.plan.paths (c.num.inner i a.formal) ≡ Some (in_lower_case a.formal ∷ in_lower_case i ∷ [])

-- an argument before any is stored; an in-out has no value
abbrev pub IsTaken : Around → List ℕ → ℕ → Argument → Formal → List Line → Type 0
IsTaken c i wire a (Takes t) lines = IsInput c i wire a t lines
IsTaken c i wire a (Binds t) lines = (has_leaf (referent_in (setting c.num.scope top) a.value) t ≡ true) × (lines ≡ [])
IsTaken c i wire a NoFormal lines = ⊥

-- the arguments one after another, with wires of their own
abbrev pub AreTaken : Around → List ℕ → ℕ → List Argument → List Line → Type 0
AreTaken c i wire [] lines = lines ≡ []
AreTaken c i wire (a ∷ rest) lines =
    (xs : List Line) × (ys : List Line) × (lines ≡ xs ++ ys) × IsTaken c i wire a (formal_of c.num i a) xs
    × AreTaken c i (wire + taken_wires (formal_of c.num i a) a) rest ys

-- the value of an input is stored
abbrev pub store_one : Formal → Numbering → List ℕ → ℕ → Argument → List Line
store_one (Takes t) num i wire a = line.Act (action.Write (Leaf (num.inner i a.formal)) (Wire (wire + wires_of a.value))) ∷ []
store_one (Binds t) num i wire a = []
store_one NoFormal num i wire a = []

-- and those of all arguments, behind which the block is run
abbrev pub store_lines : Numbering → List ℕ → ℕ → List Argument → List Line
store_lines num i wire [] = []
store_lines num i wire (a ∷ rest) = store_one (formal_of num i a) num i wire a ++ store_lines num i (wire + taken_wires (formal_of num i a) a) rest

-- a standard block, with its leaves
pub record IsBlock (c : Around) (i : List ℕ) (type : List ℕ) (lines : List Line) : Type 0 where
  pub kind : StdKind
  pub named : kind_named type ≡ Some kind
  pub first : ℕ
  pub are_lines : lines ≡ line.Act (action.Standard kind first) ∷ []
  pub leaves : (j : ℕ) (p : Pin) → slice_get (pins kind) j ≡ Some p → slice_get c.own.plan.paths (first + j) ≡ Some (in_lower_case p.name ∷ in_lower_case i ∷ [])

-- an operand stands for the leaf that this gives wherever the body is evaluated
abbrev pub IsBoundTo : Plan → Operand → (Site → Path) → Type 0
IsBoundTo plan (Leaf offset) at = (x : List ℕ) × (slice_get plan.paths offset ≡ Some (x ∷ [])) × ((site : Site) → at site ≡ x ∷ site.path)
IsBoundTo plan (InOut j) at = (x : List ℕ) × (slice_get plan.in_outs j ≡ Some x) × ((site : Site) → at site ≡ site.bound x)

-- a function block of the unit: its plan, where it begins, where its instance lies, and what its in-outs are bound to
pub record IsUser (c : Around) (below : ℕ) (i : List ℕ) (args : List Argument) (type : List ℕ) (lines : List Line) : Type 0 where
  pub user : kind_named type ≡ None
  pub number : ℕ
  pub plan : PouPlan
  pub is_plan : slice_get c.plans number ≡ Some plan
  pub block : block_named type c.unit ≡ Some plan.pou
  pub level : plan.level < c.own.level
  pub entry : Entry
  pub begins : slice_get c.text.entries.items number ≡ Some entry
  pub low : entry.section < below
  pub leaves : ℕ
  pub lies : Lies c.own.plan.paths plan.plan.paths (in_lower_case i ∷ []) leaves
  pub first : ℕ
  pub operands : List Operand
  pub has : HasAt c.program.bindings.items first operands
  pub bound : (j : ℕ) (key : List ℕ) → slice_get plan.plan.in_outs j ≡ Some key
      → (o : Operand) × (slice_get operands j ≡ Some o) × IsBoundTo c.own.plan o (λ site. bind args (setting c.num.scope site) i key)
  pub are_lines : lines ≡ line.Call number leaves first (length operands) ∷ []

pub record IsCall (c : Around) (below : ℕ) (i : List ℕ) (args : List Argument) (lines : List Line) : Type 0 where
  pub type : List ℕ
  pub instance : referent c.num.scope.world (variable_in c.num.scope i) ≡ Instance type
  pub all : all_bound args (parts_of c.num.scope.world (variable_in c.num.scope i)) ≡ true
  pub wire : ℕ
  pub free : length c.own.plan.temporaries ≤ wire
  pub taken : List Line
  pub are_taken : AreTaken c i wire args taken
  pub called : List Line
  pub callee : IsBlock c i type called ⊎ IsUser c below i args type called
  pub are_lines : lines ≡ taken ++ (store_lines c.num i wire args ++ called)

-- ---- statements

-- the section of a number has these lines, and is low enough
pub record IsSection (text : Text) (below number : ℕ) (lines : List Line) : Type 0 where
  pub section : Section
  pub is : slice_get text.sections.items number ≡ Some section
  pub low : number < below
  pub are_lines : section.lines.items ≡ lines

abbrev mutual
  -- lines stand for a statement, within a section of this number
  pub IsStatement : Around → ℕ → Statement → List Line → Type 0
  IsStatement c below (Assign x e) lines = IsAssign c x e lines
  IsStatement c below (Call i args) lines = IsCall c below i args lines
  IsStatement c below (If e ss) lines =
      (before : List Line) × (source : Source) × (k : ℕ) × (inner : List Line) × (lines ≡ before ++ line.If source k ∷ [])
      × IsValue c e ty.Bool before source × IsSection c.text below k inner × AreStatements c k ss inner
  IsStatement c below (While e ss) lines =
      (before : List Line) × (source : Source) × (b : ℕ) × (k : ℕ) × (inner : List Line) × (lines ≡ line.While b source k ∷ [])
      × IsValue c e ty.Bool before source × IsSection c.text below b before × IsSection c.text below k inner × AreStatements c k ss inner
  IsStatement c below (Case e arms) lines =
      (before : List Line) × (source : Source) × (first : ℕ) × (count : ℕ) × (lines ≡ before ++ line.Case source first count ∷ [])
      × IsValue c e ty.Dint before source × AreArms c below arms (slice_range c.text.arms.items first (first + count))

  pub AreStatements : Around → ℕ → Statements → List Line → Type 0
  AreStatements c below no_statement lines = lines ≡ []
  AreStatements c below (statement s ss) lines = (xs : List Line) × (ys : List Line) × (lines ≡ xs ++ ys) × IsStatement c below s xs × AreStatements c below ss ys

  pub AreArms : Around → ℕ → Arms → List Choice → Type 0
  AreArms c below no_arm choices = choices ≡ []
  AreArms c below (arm label ss rest) choices =
      (k : ℕ) × (inner : List Line) × (more : List Choice) × (choices ≡ record { label = label; section = k } ∷ more)
      × IsSection c.text below k inner × AreStatements c k ss inner × AreArms c below rest more

-- lines stand for statements of a body
abbrev pub AreLines : Around → ℕ → List Statement → List Line → Type 0
AreLines c below [] lines = lines ≡ []
AreLines c below (s ∷ ss) lines = (xs : List Line) × (ys : List Line) × (lines ≡ xs ++ ys) × IsStatement c below s xs × AreLines c below ss ys

-- ---- POUs

-- Where a POU begins: its wires are its temporaries as they begin, and others behind them, and its section has the lines of its body.
pub record IsPou (unit : List PouText) (plans : List PouPlan) (program : Program) (text : Text) (k : ℕ) (own : PouPlan) : Type 0 where
  pub num : Numbering
  pub scope : num.scope ≡ scope_of unit own.pou
  pub apart : AreApart own.plan.temporaries
  pub entry : Entry
  pub begins : slice_get text.entries.items k ≡ Some entry
  pub frame : SameFrame own.plan.temporaries (fresh (variables_of own.pou.blocks)) entry.wires.items
  pub section : Section
  pub is : slice_get text.sections.items entry.section ≡ Some section
  pub lines :
      AreLines (record { unit = unit; plans = plans; own = own; program = program; text = text; num = num; width = length entry.wires.items })
      entry.section own.pou.body section.lines.items

-- a text is prepared of a unit
pub record IsPrepared (unit : List PouText) (plans : List PouPlan) (program : Program) (text : Text) : Type 0 where
  pub each : (k : ℕ) (own : PouPlan) → slice_get plans k ≡ Some own → IsPou unit plans program text k own
