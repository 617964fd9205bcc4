-- Diagrams as the checks of a project hand them on: with their links, types, feedback and networks.
use Rattle.std.specs.Prelude.{ℕ, ◌+◌, ℤ, Bool, true, false, not, ◌||◌, ◌&&◌, is_some, nat_eq, List, [], ◌∷◌, ◌++◌, Option, Some, None, map, codes, if◌then◌else◌}
use Rattle.std.specs.List.{list_any}
use Rattle.std.specs.Str.{bytes_eq}
use Rattle.plcx_types.specs.declared.ty.Ty.{Ty}
use Rattle.plcx_types.specs.declared.ty.Ty.TheVariants as ty
use Rattle.plcx_types.specs.Name.{in_lower_case}
use Rattle.plcx_funcs.specs.declared.func.Func.{Func}
use Rattle.plcx_meaning.specs.Functions.{out_type}
use Rattle.plcx_meaning.specs.Tree.{PouKind, Block}
pub use Rattle.plcx_meaning.specs.Tree.{is_program}

-- What a pin is wired to. An output is named by its element's number and its pin, which has the very bytes that it has among the element's ports.
pub data Source : Type 0 where
  -- a left rail
  Rail : Source
  -- a literal, in the type of the link, and whether its inVariable is negated
  Literal : (negated : Bool) → ℤ → Source
  -- an output that is fixed before
  Wire : ℕ → (pin : List ℕ) → Source
  -- an output that feeds back
  Back : ℕ → (pin : List ℕ) → Source

-- What stands at an input pin: the OR of its sources, negated or not. Its type is that of the pin; where the pin takes any type it is that of its
-- sources, and DINT where they are literals without a type.
pub record Link : Type 0 where
  pub ty : Ty
  pub negated : Bool
  pub first : Source
  pub others : List Source

-- what an inVariable or a contact reads: a variable, or an output of an instance
pub data Operand : Type 0 where
  Own : List ℕ → Operand
  Output : (instance output : List ℕ) → Operand

-- how an outVariable stores what stands at its pin
pub data Storing : Type 0 where
  Stored Inverted Set Reset : Storing

-- when a contact lets through
pub data Contacting : Type 0 where
  Open Closed RisingContact FallingContact : Contacting

-- when and how a coil stores
pub data Coiling : Type 0 where
  By : Storing → Coiling
  RisingCoil FallingCoil : Coiling

-- EN where it is connected, and ENO where it is listed, with its negation. An EN that is not connected is left out, as if it were not listed.
pub record Enable : Type 0 where
  pub en : Option Link
  pub eno : Option Bool

-- a connected input of an instance, by its declared name
pub record InputPin : Type 0 where
  pub name : List ℕ
  pub link : Link

-- an in-out of an instance, and the variable that it stands for
pub record InOutPin : Type 0 where
  pub name : List ℕ
  pub variable : List ℕ

-- a listed output of an instance
pub record OutputPin : Type 0 where
  pub name : List ℕ
  pub ty : Ty
  pub negated : Bool

-- what an element is, with all that its effect takes
pub data ElementKind : Type 0 where
  -- a rail, a comment or a vendor element, or an inVariable with a literal: it does nothing
  Still : ElementKind
  -- an inVariable with what it reads
  In : Ty → (negated : Bool) → Operand → ElementKind
  Out : Storing → List ℕ → Link → ElementKind
  Contact : Contacting → Operand → Link → ElementKind
  Coil : Coiling → List ℕ → Link → ElementKind
  -- a connector or a continuation
  Pass : Link → ElementKind
  Label : List ℕ → ElementKind
  Jump : (label : List ℕ) → Link → ElementKind
  Return : Link → ElementKind
  -- a function at the type of its group, a conversion at the type that it converts from; its inputs go in the order of the signature, and negated is
  -- said of OUT
  Function : Func → Ty → Enable → List Link → (negated : Bool) → ElementKind
  -- an instance of a block, with its connected inputs, its in-outs and its listed outputs, each in the listed order
  Call : (instance : List ℕ) → Enable → List InputPin → List InOutPin → List OutputPin → ElementKind

-- an output of an element, with its type; the name of its pin is empty but at a block
pub record Port : Type 0 where
  pub pin : List ℕ
  pub ty : Ty

-- an element by its number, and those of its ports that feed back, which are those that is_fed says, in the order of the ports
pub record DiagramElement : Type 0 where
  pub id : ℕ
  pub kind : ElementKind
  pub fed : List Port

-- a POU; its elements stand in the order of the file, and those that take part once more in networks, in the order of their evaluation
pub record Pou : Type 0 where
  pub kind : PouKind
  pub name : List ℕ
  pub lists : List Block
  pub elements : List DiagramElement
  pub networks : List (List DiagramElement)

-- its POUs, in the order of the file
abbrev pub Project : Type 0
Project = List Pou

-- an output by its pin and its type
abbrev pub port : List ℕ → Ty → Port
port pin t = record { pin = pin; ty = t }

-- a block has ENO where EN is connected or ENO is listed
abbrev pub has_eno : Enable → Bool
has_eno e = is_some e.en || is_some e.eno

-- ENO is listed, and negated there
abbrev pub eno_negated : Enable → Bool
eno_negated e = elim e.eno [ Some negated ↦ negated | None ↦ false ]

-- the output ENO, where a block has it
abbrev pub eno_ports : Enable → List Port
eno_ports e = if has_eno e then port (codes "ENO") ty.Bool ∷ [] else []

-- the listed outputs of an instance, by their declared names
abbrev pub output_ports : List OutputPin → List Port
output_ports [] = []
output_ports (o ∷ os) = port o.name o.ty ∷ output_ports os

-- the link of EN, where it is connected
abbrev pub enable_links : Enable → List Link
enable_links e = elim e.en [ Some link ↦ link ∷ [] | None ↦ [] ]

-- the outputs of an element, which are its wires, in their order
abbrev pub ports : ElementKind → List Port
ports Still = []
ports (In t negated operand) = port [] t ∷ []
ports (Out how x link) = []
ports (Contact how operand link) = port [] ty.Bool ∷ []
ports (Coil how x link) = port [] ty.Bool ∷ []
ports (Pass link) = port [] link.ty ∷ []
ports (Label name) = []
ports (Jump label link) = port [] ty.Bool ∷ []
ports (Return link) = port [] ty.Bool ∷ []
ports (Function f t enable inputs negated) = eno_ports enable ++ port (codes "OUT") (out_type f t) ∷ []
ports (Call instance enable inputs in_outs outputs) = eno_ports enable ++ output_ports outputs

-- the links of an element, in the order of its pins
abbrev pub links_of : ElementKind → List Link
links_of Still = []
links_of (In t negated operand) = []
links_of (Out how x link) = link ∷ []
links_of (Contact how operand link) = link ∷ []
links_of (Coil how x link) = link ∷ []
links_of (Pass link) = link ∷ []
links_of (Label name) = []
links_of (Jump label link) = link ∷ []
links_of (Return link) = link ∷ []
links_of (Function f t enable inputs negated) = enable_links enable ++ inputs
links_of (Call instance enable inputs in_outs outputs) = enable_links enable ++ map (λ (i : InputPin). i.link) inputs

-- the source reads this output as one that feeds back
abbrev pub reads_back : ℕ → List ℕ → Source → Bool
reads_back id pin (Back i p) = nat_eq i id && bytes_eq p pin
reads_back id pin _ = false

-- one of the sources of a link does
abbrev pub link_reads_back : ℕ → List ℕ → Link → Bool
link_reads_back id pin link = list_any (reads_back id pin) (link.first ∷ link.others)

-- some element of the POU reads the output of this number and pin as one that feeds back
abbrev pub is_fed : Pou → ℕ → Port → Bool
is_fed p id o = list_any (λ (e : DiagramElement). list_any (link_reads_back id o.pin) (links_of e.kind)) p.elements

-- the element remembers a value at its edge
abbrev pub has_edge : ElementKind → Bool
has_edge (Contact RisingContact operand link) = true
has_edge (Contact FallingContact operand link) = true
has_edge (Coil RisingCoil x link) = true
has_edge (Coil FallingCoil x link) = true
has_edge _ = false

-- a jump or a return
abbrev pub is_jump : DiagramElement → Bool
is_jump e = elim e.kind [ Jump label link ↦ true | Return link ↦ true | _ ↦ false ]

-- a body with a jump or a return
abbrev pub has_jump : List (List DiagramElement) → Bool
has_jump networks = list_any (list_any is_jump) networks

-- a label of this name, whatever the case of its letters
abbrev pub is_label : List ℕ → DiagramElement → Bool
is_label label e = elim e.kind [ Label name ↦ bytes_eq (in_lower_case name) (in_lower_case label) | _ ↦ false ]

-- the number of the network that the label stands in
abbrev pub target : List ℕ → List (List DiagramElement) → ℕ
target label [] = 0
target label (network ∷ networks) = if list_any (is_label label) network then 0 else target label networks + 1

-- the program of a name
abbrev pub program_named : List ℕ → Project → Option Pou
program_named name [] = None
program_named name (p ∷ ps) = if is_program p.kind && bytes_eq (in_lower_case p.name) (in_lower_case name) then Some p else program_named name ps

-- the function block of a name
abbrev pub block_named : List ℕ → Project → Option Pou
block_named name [] = None
block_named name (p ∷ ps) = if not (is_program p.kind) && bytes_eq (in_lower_case p.name) (in_lower_case name) then Some p else block_named name ps
