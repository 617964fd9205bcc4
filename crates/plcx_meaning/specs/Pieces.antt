-- Short words to write a diagram and its events down.
use Rattle.std.specs.Prelude.{ℕ, ℤ, false, List, [], ◌∷◌, Some, None, map, nat_eq, codes, if◌then◌else◌}
use Rattle.std.specs.List.{flat_map}
use Rattle.plcx_types.specs.declared.ty.Ty.{Ty}
use Rattle.plcx_types.specs.declared.ty.Ty.TheVariants as ty
use Rattle.plcx_types.specs.Name.{in_lower_case}
use Rattle.plcx_types.specs.TypeName.{type_name}
use Rattle.plcx_funcs.specs.declared.func.Func.{Func}
use Rattle.plcx_funcs.specs.Applied.{value}
use Rattle.plcx_meaning.specs.Tree as tree
use Rattle.plcx_meaning.specs.Tree.{Class, Plain, Retain, Declaration, Block, Program, FunctionBlock}
use Rattle.plcx_meaning.specs.Run.{Event, Scan}
use Rattle.plcx_meaning.specs.Diagram.{Source, Literal, Wire, Link, Own, Storing, Stored, Contacting, By, Enable, InputPin, InOutPin, OutputPin, ElementKind, In, Out, Contact, Coil, Label, Jump, Function, Call, port, DiagramElement, Pou}

-- a variable
abbrev pub variable : List ℕ → Ty → Declaration
variable name t = record { name = name; address = None; ty = type_name t; initial = None }

-- a variable with an initial value
abbrev pub starting : List ℕ → Ty → ℤ → Declaration
starting name t n = record { name = name; address = None; ty = type_name t; initial = Some (value t n) }

-- an instance of a block
abbrev pub instance_of : List ℕ → List ℕ → Declaration
instance_of name type = record { name = name; address = None; ty = type; initial = None }

-- a list without a mark
abbrev pub listed : Class → List Declaration → Block
listed class declarations = record { class = class; mark = Plain; declarations = declarations }

-- a list of retained local variables
abbrev pub retained : List Declaration → Block
retained declarations = record { class = tree.Local; mark = Retain; declarations = declarations }

-- an element without feedback
abbrev pub element : ℕ → ElementKind → DiagramElement
element id kind = record { id = id; kind = kind; fed = [] }

-- the element of a number, and a network of several
abbrev pub numbered : List DiagramElement → ℕ → List DiagramElement
numbered [] id = []
numbered (e ∷ es) id = if nat_eq e.id id then e ∷ [] else numbered es id

-- the elements of these numbers, in order
abbrev pub network : List DiagramElement → List ℕ → List DiagramElement
network es ids = flat_map (numbered es) ids

-- the program, with its lists, its elements, and the numbers of those in each network
abbrev pub main : List Block → List DiagramElement → List (List ℕ) → Pou
main lists es ids = record { kind = Program; name = codes "Main"; lists = lists; elements = es; networks = map (network es) ids }

-- a function block of a name
abbrev pub block : List ℕ → List Block → List DiagramElement → List (List ℕ) → Pou
block name lists es ids = record { kind = FunctionBlock; name = name; lists = lists; elements = es; networks = map (network es) ids }

-- a literal at a pin
abbrev pub literal : ℤ → Source
literal n = Literal false n

-- the output of an element without pins
abbrev pub wire : ℕ → Source
wire id = Wire id []

-- OUT of a function
abbrev pub result : ℕ → Source
result id = Wire id (codes "OUT")

-- one source at a pin
abbrev pub link : Ty → Source → Link
link t source = record { ty = t; negated = false; first = source; others = [] }

-- two sources at a pin
abbrev pub either : Source → Source → Link
either source other = record { ty = ty.Bool; negated = false; first = source; others = other ∷ [] }

-- an inVariable with a variable
abbrev pub reads : ℕ → Ty → List ℕ → DiagramElement
reads id t x = element id (In t false (Own x))

-- an outVariable with a variable
abbrev pub writes : ℕ → List ℕ → Ty → Source → DiagramElement
writes id x t source = element id (Out Stored x (link t source))

-- a contact on a variable
abbrev pub contact : ℕ → Contacting → List ℕ → Link → DiagramElement
contact id how x l = element id (Contact how (Own x) l)

-- a coil on a variable
abbrev pub coil : ℕ → Storing → List ℕ → Source → DiagramElement
coil id how x source = element id (Coil (By how) x (link ty.Bool source))

-- a label
abbrev pub label : ℕ → List ℕ → DiagramElement
label id name = element id (Label name)

-- a jump to a label
abbrev pub jump : ℕ → List ℕ → Source → DiagramElement
jump id name source = element id (Jump name (link ty.Bool source))

-- EN is not connected and ENO not listed
abbrev pub always : Enable
always = record { en = None; eno = None }

-- EN is connected
abbrev pub where_true : Source → Enable
where_true source = record { en = Some (link ty.Bool source); eno = None }

-- a function of two inputs of one type
abbrev pub both_by : Func → Ty → Enable → Source → Source → ElementKind
both_by f t enable a b = Function f t enable (link t a ∷ link t b ∷ []) false

-- such a function as an element
abbrev pub applies : ℕ → Func → Ty → Source → Source → DiagramElement
applies id f t a b = element id (both_by f t always a b)

-- the same, whose OUT of that type feeds back
abbrev pub feeds : ℕ → Func → Ty → Enable → Source → Source → DiagramElement
feeds id f t enable a b = record { id = id; kind = both_by f t enable a b; fed = port (codes "OUT") t ∷ [] }

-- a call of an instance
abbrev pub calls : ℕ → List ℕ → List InputPin → List InOutPin → List OutputPin → DiagramElement
calls id instance inputs in_outs outputs = element id (Call instance always inputs in_outs outputs)

-- a connected input with one source
abbrev pub input : List ℕ → Ty → Source → InputPin
input name t source = record { name = name; link = link t source }

-- an in-out and its variable
abbrev pub in_out : List ℕ → List ℕ → InOutPin
in_out name x = record { name = name; variable = x }

-- a listed output
abbrev pub output : List ℕ → Ty → OutputPin
output name t = record { name = name; ty = t; negated = false }

-- a scan that sets variables first
abbrev pub scan : ℕ → List (List ℕ × ℤ) → Event
scan time inputs = Scan time (map (λ (i : List ℕ × ℤ). record { path = in_lower_case i.0 ∷ []; value = i.1 }) inputs)
