-- What the checks of a project promise of its diagrams.
use Rattle.std.specs.Prelude.{◌≡◌, ◌≢◌, ◌≤◌, ◌<◌, ◌^◌, ◌*◌, ℕ, suc, zero, Bool, true, false, not, ◌||◌, ◌++◌, is_some, List, [], ◌∷◌, Some, None, map, filter, length, nat_eq, IsTrue, ◌+◌, if◌then◌else◌}
use Rattle.std.specs.Char.{to_ascii_uppercase}
use Rattle.std.specs.List.{list_any, list_all, sum_by, Contains}
use Rattle.std.specs.Str.{bytes_eq}
use Rattle.plcx_types.specs.declared.ty.Ty.{Ty}
use Rattle.plcx_types.specs.declared.ty.Ty.TheVariants as ty
use Rattle.plcx_types.specs.Address.{AddressFits}
use Rattle.plcx_types.specs.Limits.{max_declared_name_bytes, max_variables, max_elements, max_pin_connections, max_instance_chain, max_leaves, max_parts}
use Rattle.plcx_types.specs.Name.{in_lower_case, is_identifier, is_next_byte}
use Rattle.plcx_types.specs.Range.{InRange}
use Rattle.plcx_types.specs.Reserved.{is_reserved}
use Rattle.plcx_types.specs.TypeName.{type_named}
use Rattle.plcx_std.specs.Kind.{kind_named}
use Rattle.plcx_funcs.specs.declared.func.Func.{Func}
use Rattle.plcx_funcs.specs.Names.{is_function}
use Rattle.plcx_types.specs.Lists.{Each}
use Rattle.plcx_meaning.specs.Base.{are_distinct, all_differ}
use Rattle.plcx_meaning.specs.Tree as tree
use Rattle.plcx_meaning.specs.Tree.{PouKind, Program, Class, Temp, Plain, Declaration, Block}
use Rattle.plcx_meaning.specs.Layout.{Variable, InitialIsTyped, variables_of, variable_named, World, composed, layout}
use Rattle.plcx_meaning.specs.Functions.{group_of, can_apply, out_type}
use Rattle.plcx_meaning.specs.Diagram.{Source, Rail, Literal, Wire, Back, Link, Operand, Own, Output, Storing, Stored, Enable, InputPin, InOutPin, OutputPin, ElementKind, Still, In, Out, Contact, Coil, Pass, Label, Jump, Return, Function, Call, Port, port, ports, is_fed, DiagramElement, Pou, Project, block_named}
use Rattle.plcx_meaning.specs.Evaluate.{world_of, scope_of}

-- a name that a diagram may give
abbrev pub IsGoodName : List ℕ → Type 0
IsGoodName name = IsTrue (is_identifier name) × (length name ≤ max_declared_name_bytes) × (is_reserved name ≡ false)

-- the name is declared with the type among these variables, in a class of these
pub record IsDeclaredAs (vs : List Variable) (x : List ℕ) (t : Ty) (Suits : Class → Type 0) : Type 0 where
  pub variable : Variable
  pub found : variable_named (in_lower_case x) vs ≡ Some variable
  pub typed : type_named variable.ty ≡ Some t
  pub class : Suits variable.class

-- a variable of a diagram
abbrev pub IsVariable : List Variable → List ℕ → Ty → Type 0
IsVariable vs x t = IsDeclaredAs vs x t (λ class. class ≢ Temp)

-- a variable that can be written: no input and no constant
abbrev pub CanBeWritten : List Variable → List ℕ → Type 0
CanBeWritten vs x = (v : Variable) → variable_named (in_lower_case x) vs ≡ Some v → (v.class ≢ tree.Input) × (v.mark ≢ tree.Constant)

-- an instance, and the variables within it
pub record IsInstance (world : World) (vs : List Variable) (i : List ℕ) (within : List Variable) : Type 0 where
  pub variable : Variable
  pub found : variable_named (in_lower_case i) vs ≡ Some variable
  pub composite : type_named variable.ty ≡ None
  pub parts : within ≡ composed world variable.ty

-- where an element stands: the project, its POU, and the outputs that are fixed before it, by the numbers of their elements
pub record Standing : Type 0 where
  pub project : Project
  pub pou : Pou
  pub done : List (ℕ × Port)

-- the variables of the POU that an element stands in
abbrev pub variables : Standing → List Variable
variables at = variables_of at.pou.lists

-- an output that feeds back
abbrev pub FeedsBack : Pou → ℕ → Port → Type 0
FeedsBack p id o = (e : DiagramElement) × Contains p.elements e × (e.id ≡ id) × Contains e.fed o

-- a source has the type of the pin, and is fixed before or feeds back
abbrev pub SourceFits : Standing → Ty → Source → Type 0
SourceFits at t Rail = t ≡ ty.Bool
SourceFits at t (Literal negated n) = InRange t n × (negated ≡ true → t ≡ ty.Bool)
SourceFits at t (Wire id pin) = Contains at.done (id, port pin t)
SourceFits at t (Back id pin) = FeedsBack at.pou id (port pin t)

-- the sources of a pin suit it, and they are not too many
pub record LinkFits (at : Standing) (link : Link) : Type 0 where
  pub first : SourceFits at link.ty link.first
  pub others : Each (SourceFits at link.ty) link.others
  -- only truth values are negated or joined
  pub negated : link.negated ≡ true → link.ty ≡ ty.Bool
  pub several : link.others ≢ [] → link.ty ≡ ty.Bool
  pub few : length (link.first ∷ link.others) ≤ max_pin_connections

-- what is read is a variable of the type, or an output of an instance
abbrev pub OperandFits : Standing → Operand → Ty → Type 0
OperandFits at (Own x) t = IsVariable (variables at) x t
OperandFits at (Output i x) t = (within : List Variable) × IsInstance (world_of at.project) (variables at) i within × IsDeclaredAs within x t (λ class. class ≡ tree.Output)

-- what is inverted, set or reset is a truth value
abbrev pub StoringFits : Storing → Ty → Type 0
StoringFits Stored t = Unit {0}
StoringFits _ t = t ≡ ty.Bool

-- what is wired to EN is a truth value
abbrev pub EnableFits : Standing → Enable → Type 0
EnableFits at enable = (link : Link) → enable.en ≡ Some link → LinkFits at link × (link.ty ≡ ty.Bool)

-- a connected input is one of the block's, and its link has that one's type
abbrev pub InputFits : Standing → List Variable → InputPin → Type 0
InputFits at within i = IsDeclaredAs within i.name i.link.ty (λ class. class ≡ tree.Input) × LinkFits at i.link

-- an in-out is one of the block's, and stands for a variable of its type that can be written
abbrev pub InOutFits : Standing → List Variable → InOutPin → Type 0
InOutFits at within i = (t : Ty) × IsDeclaredAs within i.name t (λ class. class ≡ tree.InOut) × IsVariable (variables at) i.variable t × CanBeWritten (variables at) i.variable

-- a listed output is one of the block's; only truth values are negated
abbrev pub OutputFits : List Variable → OutputPin → Type 0
OutputFits within o = IsDeclaredAs within o.name o.ty (λ class. class ≡ tree.Output) × (o.negated ≡ true → o.ty ≡ ty.Bool)

-- each in-out of a block is one of the listed
abbrev pub all_listed : List InOutPin → List Variable → Bool
all_listed in_outs vs = list_all (λ (v : Variable). elim v.class [ tree.InOut ↦ list_any (λ (i : InOutPin). bytes_eq (in_lower_case i.name) (in_lower_case v.name)) in_outs | _ ↦ true ]) vs

-- a call is one of an instance, whose inputs, in-outs and outputs suit its block
pub record CallFits (at : Standing) (instance : List ℕ) (taken : List InputPin) (bound : List InOutPin) (given : List OutputPin) : Type 0 where
  pub within : List Variable
  pub called : IsInstance (world_of at.project) (variables at) instance within
  pub inputs : Each (InputFits at within) taken
  pub in_outs : Each (InOutFits at within) bound
  pub all : all_listed bound within ≡ true
  pub outputs : Each (OutputFits within) given
  -- nothing is named twice
  pub formals : are_distinct (map (λ (i : InputPin). in_lower_case i.name) taken ++ map (λ (i : InOutPin). in_lower_case i.name) bound) ≡ true

-- a function is one that there is, and its inputs suit its signature at the type of its group
pub record FunctionFits (at : Standing) (f : Func) (t : Ty) (links : List Link) : Type 0 where
  pub function : is_function f ≡ true
  pub group : group_of f (map (λ (l : Link). l.ty) links) ≡ Some t
  pub applies : can_apply f t (map (λ (l : Link). l.ty) links) ≡ true
  pub inputs : Each (LinkFits at) links

-- a link of truth values
abbrev pub TruthFits : Standing → Link → Type 0
TruthFits at link = LinkFits at link × (link.ty ≡ ty.Bool)

-- an element suits its POU, and the types of its pins suit one another
abbrev pub KindFits : Standing → ElementKind → Type 0
KindFits at Still = Unit {0}
KindFits at (In t negated operand) = OperandFits at operand t × (negated ≡ true → t ≡ ty.Bool)
KindFits at (Out how x link) = IsVariable (variables at) x link.ty × StoringFits how link.ty × LinkFits at link × CanBeWritten (variables at) x
KindFits at (Contact how operand link) = OperandFits at operand ty.Bool × TruthFits at link
KindFits at (Coil how x link) = IsVariable (variables at) x ty.Bool × TruthFits at link × CanBeWritten (variables at) x
KindFits at (Pass link) = LinkFits at link
KindFits at (Label name) = Unit {0}
KindFits at (Jump label link) = TruthFits at link
KindFits at (Return link) = TruthFits at link
KindFits at (Function f t enable inputs negated) = FunctionFits at f t inputs × EnableFits at enable × (negated ≡ true → out_type f t ≡ ty.Bool)
KindFits at (Call instance enable inputs in_outs outputs) = CallFits at instance inputs in_outs outputs × EnableFits at enable

-- the outputs that are fixed behind an element
abbrev pub fixed_by : DiagramElement → List (ℕ × Port)
fixed_by e = map (λ (o : Port). (e.id, o)) (ports e.kind)

-- no output of the element of this number is among these
abbrev pub is_fresh : ℕ → List (ℕ × Port) → Bool
is_fresh id done = list_all (λ (d : ℕ × Port). not (nat_eq d.0 id)) done

-- Each element is one of the POU's and stands behind its sources, and none of its outputs is fixed before: so one with outputs stands once, while one
-- without may stand again.
abbrev pub ElementsFit : Project → Pou → List (ℕ × Port) → List DiagramElement → Type 0
ElementsFit project p done [] = Unit {0}
ElementsFit project p done (e ∷ es) =
    Contains p.elements e × (is_fresh e.id done ≡ true) × KindFits (record { project = project; pou = p; done = done }) e.kind
    × ElementsFit project p (fixed_by e ++ done) es

-- the name of a pin is of letters, digits and `_`, and no longer than a declared name
abbrev pub IsPin : Port → Type 0
IsPin o = (list_all is_next_byte o.pin ≡ true) × (length o.pin ≤ max_declared_name_bytes)

-- an element's outputs have names of their own, and those that feed back are the ones that are read so
pub record PortsFit (p : Pou) (e : DiagramElement) : Type 0 where
  pub small : e.id < 2 ^ 64
  pub pins : are_distinct (map (λ (o : Port). in_lower_case o.pin) (ports e.kind)) ≡ true
  pub fed : e.fed ≡ filter (is_fed p e.id) (ports e.kind)
  pub names : Each IsPin (ports e.kind)

-- a type that a variable may have
abbrev pub project_knows : Project → List ℕ → Bool
project_knows project name = is_some (type_named name) || (is_some (kind_named name) || is_some (block_named name project))

-- the name of a type as the text prints it: in capitals, and that of a function block as its POU declares it
abbrev pub printed_type : Project → List ℕ → List ℕ
printed_type project name =
    if is_some (type_named name) || is_some (kind_named name) then map to_ascii_uppercase name
    else (elim (block_named name project) [ Some q ↦ q.name | None ↦ name ])

-- what is promised of a variable of a diagram
pub record VariableFits (project : Project) (v : Variable) : Type 0 where
  pub name : IsGoodName v.name
  pub class : v.class ≢ Temp
  pub known : project_knows project v.ty ≡ true
  pub spelled : v.ty ≡ printed_type project v.ty
  pub initial : InitialIsTyped v
  -- an instance stands among the local variables that are no constants
  pub instance : type_named v.ty ≡ None → (v.class ≡ tree.Local) × (v.mark ≢ tree.Constant)

-- an in-out stands in a function block, without a mark, an address and an initial value
abbrev pub InOutsFit : PouKind → Block → Type 0
InOutsFit kind b = b.class ≡ tree.InOut → (b.mark ≡ Plain) × Each (λ (d : Declaration). (kind ≢ Program) × (d.address ≡ None) × (d.initial ≡ None)) b.declarations

-- what a variable adds to the parts of its POU: an instance is one, and has those of its block
abbrev pub variable_parts : (Pou → ℕ) → Project → Variable → ℕ
variable_parts inner project v =
    if is_some (type_named v.ty) then 0
    else if is_some (kind_named v.ty) then 1
    else (elim (block_named v.ty project) [ Some q ↦ suc (inner q) | None ↦ 1 ])

-- the parts of a POU, so many levels deep: its elements, their outputs that feed back, and its instances
abbrev pub parts : ℕ → Project → Pou → ℕ
parts zero project p = 0
parts (suc n) project p = sum_by (λ (e : DiagramElement). suc (length e.fed)) p.elements + sum_by (variable_parts (parts n project) project) (variables_of p.lists)

-- what is promised of a POU
pub record PouFits (project : Project) (p : Pou) : Type 0 where
  pub name : IsGoodName p.name
  pub variables : Each (VariableFits project) (variables_of p.lists)
  pub distinct : are_distinct (map (λ (v : Variable). in_lower_case v.name) (variables_of p.lists)) ≡ true
  pub few : length (variables_of p.lists) ≤ max_variables
  pub ids : all_differ (map (λ (e : DiagramElement). e.id) p.elements) ≡ true
  pub elements : length p.elements ≤ max_elements
  pub ports : Each (PortsFit p) p.elements
  pub networks : Each (ElementsFit project p []) p.networks
  pub count : length p.networks ≤ max_elements
  pub in_outs : Each (InOutsFit p.kind) p.lists
  pub leaves : length (layout (scope_of project p)) ≤ max_leaves
  -- twice the limit of the file, which counts its connections: an output may also feed back by the name of a continuation
  pub parts : parts 18 project p ≤ 2 * max_parts
  pub addresses : Each (λ (b : Block). Each (λ (d : Declaration). AddressFits d.address) b.declarations) p.lists

-- below a POU stand at most so many levels of user blocks
abbrev pub PouNests : ℕ → Project → Pou → Type 0
PouNests zero project p = (x : List ℕ) (v : Variable) → variable_named x (variables_of p.lists) ≡ Some v → type_named v.ty ≡ None → kind_named v.ty ≡ None → block_named v.ty project ≡ None
PouNests (suc n) project p = (x : List ℕ) (v : Variable) → variable_named x (variables_of p.lists) ≡ Some v → type_named v.ty ≡ None → kind_named v.ty ≡ None
    → (q : Pou) × (block_named v.ty project ≡ Some q) × PouNests n project q

-- what is promised of a project: no two POUs have one name, each fits, and none has too many levels of blocks below it
pub record ProjectFits (project : Project) : Type 0 where
  pub names : are_distinct (map (λ (p : Pou). in_lower_case p.name) project) ≡ true
  pub pous : Each (PouFits project) project
  pub nests : Each (PouNests max_instance_chain project) project
