-- The text of a diagram.
use Rattle.std.specs.Prelude.{ℕ, ◌+◌, ℤ, pos, Bool, true, false, ◌++◌, is_some, List, [], ◌∷◌, Option, Some, None, map, length, codes, decimal, if◌then◌else◌}
use Rattle.std.specs.List.{flat_map, fold}
use Rattle.std.specs.Option.{option_map}
use Rattle.plcx_types.specs.declared.ty.Ty.{Ty}
use Rattle.plcx_types.specs.declared.ty.Ty.TheVariants as ty
use Rattle.plcx_types.specs.TypeName.{type_name}
use Rattle.plcx_funcs.specs.declared.func.Func.{Func}
use Rattle.plcx_funcs.specs.declared.func.Func.TheVariants as func
use Rattle.plcx_funcs.specs.Names.{function_name}
use Rattle.plcx_funcs.specs.Applied.{value}
use Rattle.plcx_meaning.specs.Base.{Memory, AtEdge, AtOutput}
use Rattle.plcx_meaning.specs.Tree.{Class, Local, Temp, Mark, Plain, Declaration, Block, Operator, Or, Xor, And, Equal, NotEqual, Less, Greater, LessOrEqual, GreaterOrEqual, Plus, Minus, Times, Divide, Mod, Expression, Number, Name, Member, Apply, Not, Binary, Argument, Statement, Assign, Call, If, While, Case, PouText, expressions, statements, arms}
use Rattle.plcx_meaning.specs.Functions.{out_type}
use Rattle.plcx_meaning.specs.Diagram as diagram
use Rattle.plcx_meaning.specs.Diagram.{Source, Rail, Literal, Wire, Back, Link, Operand, Own, Output, Storing, Stored, Inverted, Set, Reset, Contacting, Open, Closed, RisingContact, FallingContact, Coiling, By, RisingCoil, FallingCoil, Enable, eno_negated, InputPin, InOutPin, OutputPin, ElementKind, Still, In, Out, Contact, Coil, Pass, Label, Jump, Return, Function, Port, port, ports, has_edge, DiagramElement, Pou, Project, has_jump}
use Rattle.plcx_meaning.specs.Evaluate.{leads_to}

-- the name of a pin behind a number; an element that is no block has none
abbrev pub suffix : List ℕ → List ℕ
suffix [] = []
suffix (b ∷ bs) = codes "_" ++ (b ∷ bs)

-- the temporary that holds a wire
abbrev pub wire_name : ℕ → List ℕ → List ℕ
wire_name id pin = codes "PLCX_W" ++ (decimal id ++ suffix pin)

-- the variable that holds a memory
abbrev pub memory_name : Memory → List ℕ
memory_name (AtEdge id) = codes "PLCX_M" ++ decimal id
memory_name (AtOutput id pin) = codes "PLCX_F" ++ (decimal id ++ suffix pin)

-- the temporary that holds the number of the network that follows
abbrev pub counter_name : List ℕ
counter_name = codes "PLCX_N"

-- a literal
abbrev pub number : Ty → ℤ → Expression
number t n = Number (value t n)

-- TRUE or FALSE
abbrev pub truth : Bool → Expression
truth b = number ty.Bool (if b then pos 1 else pos 0)

-- a number of the counter
abbrev pub dint : ℕ → Expression
dint n = number ty.Dint (pos n)

-- an expression under NOT, or as it is
abbrev pub not_if : Bool → Expression → Expression
not_if true e = Not e
not_if false e = e

-- AND of two expressions
abbrev pub both : Expression → Expression → Expression
both a b = Binary And a b

-- the temporary of a wire, as an expression
abbrev pub wire : ℕ → List ℕ → Expression
wire id pin = Name (wire_name id pin)

-- the variable of a memory, as an expression
abbrev pub memory : Memory → Expression
memory k = Name (memory_name k)

-- what a source stands for in the type of the pin
abbrev pub source_text : Ty → Source → Expression
source_text t Rail = truth true
source_text t (Literal negated n) = not_if negated (number t n)
source_text t (Wire id pin) = wire id pin
source_text t (Back id pin) = memory (AtOutput id pin)

-- the OR of several expressions, from the left
abbrev pub or_text : Expression → List Expression → Expression
or_text e [] = e
or_text e (s ∷ rest) = or_text (Binary Or e s) rest

-- the OR of a link's sources, under NOT where the pin is negated
abbrev pub link_text : Link → Expression
link_text link = not_if link.negated (or_text (source_text link.ty link.first) (map (source_text link.ty) link.others))

-- a variable, or an output of an instance
abbrev pub operand_text : Operand → Expression
operand_text (Own x) = Name x
operand_text (Output i x) = Member i x

-- a variable gets a value, or its opposite; or it is set or reset where the value is TRUE
abbrev pub store_text : Storing → List ℕ → Expression → Statement
store_text Stored x e = Assign x e
store_text Inverted x e = Assign x (Not e)
store_text Set x e = If e (statements (Assign x (truth true) ∷ []))
store_text Reset x e = If e (statements (Assign x (truth false) ∷ []))

-- a contact's wire, by its link, its variable and what it remembers
abbrev pub contact_text : Contacting → Expression → Expression → Expression → Expression
contact_text Open l v m = both l v
contact_text Closed l v m = both l (Not v)
contact_text RisingContact l v m = both (both l v) (Not m)
contact_text FallingContact l v m = both (both l (Not v)) m

-- a contact at an edge remembers its variable
abbrev pub contact_edge : Contacting → Memory → Expression → List Statement
contact_edge Open k v = []
contact_edge Closed k v = []
contact_edge RisingContact k v = Assign (memory_name k) v ∷ []
contact_edge FallingContact k v = Assign (memory_name k) v ∷ []

-- what a coil stores, and at an edge remembers, by its wire
abbrev pub coil_text : Coiling → List ℕ → Memory → Expression → List Statement
coil_text (By how) x k w = store_text how x w ∷ []
coil_text RisingCoil x k w = Assign x (both w (Not (memory k))) ∷ Assign (memory_name k) w ∷ []
coil_text FallingCoil x k w = Assign x (both (Not w) (memory k)) ∷ Assign (memory_name k) w ∷ []

-- the inputs joined by an operator, from the left
abbrev pub chain : Operator → List Expression → Expression
chain op [] = truth true
chain op (e ∷ es) = fold (Binary op) e es

-- neighbours compared, joined by AND
abbrev pub compared : Operator → Expression → Expression → List Expression → Expression
compared op so_far e [] = so_far
compared op so_far e (next ∷ es) = compared op (both so_far (Binary op e next)) next es

-- each input compared with the next one
abbrev pub neighbours : Operator → List Expression → Expression
neighbours op [] = truth true
neighbours op (e ∷ []) = truth true
neighbours op (e ∷ next ∷ es) = compared op (Binary op e next) next es

-- the one input under NOT
abbrev pub negation : List Expression → Expression
negation [] = truth true
negation (e ∷ es) = Not e

-- the functions with a sign or a word of their own, and the others called by their names
abbrev pub function_text : Func → List Expression → Expression
function_text func.Add es = chain Plus es
function_text func.Mul es = chain Times es
function_text func.Sub es = chain Minus es
function_text func.Div es = chain Divide es
function_text func.Mod es = chain Mod es
function_text func.And es = chain And es
function_text func.Or es = chain Or es
function_text func.Xor es = chain Xor es
function_text func.Not es = negation es
function_text func.Gt es = neighbours Greater es
function_text func.Ge es = neighbours GreaterOrEqual es
function_text func.Eq es = neighbours Equal es
function_text func.Le es = neighbours LessOrEqual es
function_text func.Lt es = neighbours Less es
function_text func.Ne es = chain NotEqual es
function_text f es = Apply (function_name f) (expressions es)

-- ENO is EN's link; TRUE where EN is not connected and ENO is listed
abbrev pub eno_value : Enable → Option Expression
eno_value enable = elim enable.en [ Some link ↦ Some (link_text link) | None ↦ option_map (λ negated. truth true) enable.eno ]

-- ENO gets its value where the block has it
abbrev pub eno_text : ℕ → Enable → List Statement
eno_text id enable = elim (eno_value enable) [ Some e ↦ Assign (wire_name id (codes "ENO")) e ∷ [] | None ↦ [] ]

-- what EN enables stands within an IF where EN is connected
abbrev pub enabled : ℕ → Enable → Statement → Statement
enabled id enable s = if is_some enable.en then If (wire id (codes "ENO")) (statements (s ∷ [])) else s

-- a wire under NOT, behind all others
abbrev pub turned_if : Bool → ℕ → List ℕ → List Statement
turned_if true id pin = Assign (wire_name id pin) (Not (wire id pin)) ∷ []
turned_if false id pin = []

-- OUT begins with its default where EN may be FALSE
abbrev pub out_default : ℕ → Enable → Ty → List Statement
out_default id enable t = if is_some enable.en then Assign (wire_name id (codes "OUT")) (number t (pos 0)) ∷ [] else []

-- the argument of a connected input
abbrev pub input_text : InputPin → Argument
input_text i = record { formal = i.name; value = link_text i.link }

-- the argument of an in-out
abbrev pub in_out_text : InOutPin → Argument
in_out_text i = record { formal = i.name; value = Name i.variable }

-- the wire of a listed output gets what the instance stores
abbrev pub output_text : ℕ → List ℕ → OutputPin → Statement
output_text id instance o = Assign (wire_name id o.name) (not_if o.negated (Member instance o.name))

-- the statements of an element of this number
abbrev pub kind_text : ElementKind → ℕ → List Statement
kind_text Still id = []
kind_text (In t negated operand) id = Assign (wire_name id []) (not_if negated (operand_text operand)) ∷ []
kind_text (Out how x link) id = store_text how x (link_text link) ∷ []
kind_text (Contact how operand link) id =
    Assign (wire_name id []) (contact_text how (link_text link) (operand_text operand) (memory (AtEdge id))) ∷ contact_edge how (AtEdge id) (operand_text operand)
kind_text (Coil how x link) id = Assign (wire_name id []) (link_text link) ∷ coil_text how x (AtEdge id) (wire id [])
kind_text (Pass link) id = Assign (wire_name id []) (link_text link) ∷ []
kind_text (Label name) id = []
kind_text (Jump label link) id = Assign (wire_name id []) (link_text link) ∷ []
kind_text (Return link) id = Assign (wire_name id []) (link_text link) ∷ []
kind_text (Function f t enable inputs negated) id =
    eno_text id enable ++ (out_default id enable (out_type f t)
    ++ (enabled id enable (Assign (wire_name id (codes "OUT")) (function_text f (map link_text inputs)))
    ∷ (turned_if (eno_negated enable) id (codes "ENO") ++ turned_if negated id (codes "OUT"))))
kind_text (diagram.Call instance enable inputs in_outs outputs) id =
    eno_text id enable ++ (enabled id enable (Call instance (map input_text inputs ++ map in_out_text in_outs))
    ∷ (map (output_text id instance) outputs ++ turned_if (eno_negated enable) id (codes "ENO")))

-- what feeds back goes to its variable
abbrev pub feed_text : ℕ → Port → Statement
feed_text id p = Assign (memory_name (AtOutput id p.pin)) (wire id p.pin)

-- the statements of an element, and behind them what feeds back
abbrev pub element_text : DiagramElement → List Statement
element_text e = kind_text e.kind e.id ++ map (feed_text e.id) e.fed

-- the statements of elements, one after another
abbrev pub elements_text : List DiagramElement → List Statement
elements_text es = flat_map element_text es

-- the counter gets where a jump or a return leads
abbrev pub choice_text : List (List DiagramElement) → DiagramElement → List Statement
choice_text networks e = elim (leads_to networks e.kind) [ Some n ↦ If (wire e.id []) (statements (Assign counter_name (dint n) ∷ [])) ∷ [] | None ↦ [] ]

-- from the last jump or return to the first, so that the first decides
abbrev pub choices_text : List (List DiagramElement) → List DiagramElement → List Statement
choices_text networks [] = []
choices_text networks (e ∷ es) = choices_text networks es ++ choice_text networks e

-- a network in a loop: its elements, and then the number of the network that follows
abbrev pub turn_text : List (List DiagramElement) → ℕ → List DiagramElement → List Statement
turn_text networks next network = elements_text network ++ (Assign counter_name (dint next) ∷ choices_text networks network)

-- an arm for each network, by its number
abbrev pub arms_text : List (List DiagramElement) → ℕ → List (List DiagramElement) → List (ℕ × List Statement)
arms_text networks i [] = []
arms_text networks i (network ∷ rest) = (i, turn_text networks (i + 1) network) ∷ arms_text networks (i + 1) rest

-- a body without jump and return: its networks, one after another
abbrev pub straight_text : List (List DiagramElement) → List Statement
straight_text networks = flat_map elements_text networks

-- a loop over a counter, in which each network is an arm
abbrev pub jumping_text : List (List DiagramElement) → List Statement
jumping_text networks =
    Assign counter_name (dint 0)
    ∷ While (Binary Less (Name counter_name) (dint (length networks))) (statements (Case (Name counter_name) (arms (arms_text networks 0 networks)) ∷ []))
    ∷ []

-- the statements of a body
abbrev pub body_text : List (List DiagramElement) → List Statement
body_text networks = if has_jump networks then jumping_text networks else straight_text networks

-- the compiler's own variables have no address and no initial value
abbrev pub own : List ℕ → Ty → Declaration
own name t = record { name = name; address = None; ty = type_name t; initial = None }

-- the variables of what an element remembers: its edge, then what feeds back
abbrev pub element_memories : DiagramElement → List Declaration
element_memories e = (if has_edge e.kind then own (memory_name (AtEdge e.id)) ty.Bool ∷ [] else []) ++ map (λ (p : Port). own (memory_name (AtOutput e.id p.pin)) p.ty) e.fed

-- the temporaries of an element's wires
abbrev pub element_wires : DiagramElement → List Declaration
element_wires e = map (λ (p : Port). own (wire_name e.id p.pin) p.ty) (ports e.kind)

-- the counter of a body with a jump or a return
abbrev pub counter : List (List DiagramElement) → List Declaration
counter networks = if has_jump networks then own counter_name ty.Dint ∷ [] else []

-- an empty list has no block
abbrev pub block : Class → Mark → List Declaration → List Block
block class mark [] = []
block class mark (d ∷ ds) = record { class = class; mark = mark; declarations = d ∷ ds } ∷ []

-- a block of the diagram
abbrev pub list_text : Block → List Block
list_text b = block b.class b.mark b.declarations

-- the lists of the diagram, the memories and then the wires by their elements in the order of the file, and the networks in theirs
abbrev pub pou_text : Pou → PouText
pou_text p = record {
  kind = p.kind;
  name = p.name;
  blocks =
      flat_map list_text p.lists
      ++ (block Local Plain (flat_map element_memories p.elements) ++ block Temp Plain (flat_map element_wires p.elements ++ counter p.networks));
  body = body_text p.networks;
}

-- the text of a project
abbrev pub unit_of : Project → List PouText
unit_of project = map pou_text project
