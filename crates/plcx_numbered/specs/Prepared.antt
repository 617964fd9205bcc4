-- What is prepared of a diagram: the steps of its elements, and the bodies of its POUs.
use Rattle.std.specs.Prelude.{ℕ, ◌+◌, pos, Bool, true, false, not, ◌&&◌, List, [], ◌∷◌, ◌++◌, Some, None, length, map, codes, if◌then◌else◌}
use Rattle.std.specs.Str.{bytes_eq}
use Rattle.plcx_types.specs.declared.ty.Ty.{Ty}
use Rattle.plcx_types.specs.Name.{in_lower_case}
use Rattle.plcx_funcs.specs.declared.func.Func.{Func}
use Rattle.plcx_funcs.specs.Applied.{value}
use Rattle.plcx_std.specs.declared.kind.StdKind.{StdKind}
use Rattle.plcx_meaning.specs.Base.{Memory, AtEdge, AtOutput, not_if}
use Rattle.plcx_meaning.specs.Functions.{out_type}
use Rattle.plcx_meaning.specs.Diagram as diagram
use Rattle.plcx_meaning.specs.Diagram.{Link, Own, Output, Storing, Stored, Inverted, Set, Reset, Contacting, Open, Closed, RisingContact, FallingContact, Coiling, By, RisingCoil, FallingCoil, Enable, has_eno, eno_negated, InputPin, InOutPin, OutputPin, ElementKind, Still, In, Out, Contact, Coil, Pass, Label, Jump, Return, Function, Call, Port, ports, DiagramElement}
use Rattle.plcx_steps.specs.declared.program.Operand.{Operand}
use Rattle.plcx_steps.specs.declared.program.Operand.TheVariants.{Leaf}
use Rattle.plcx_steps.specs.declared.program.Source.{Source}
use Rattle.plcx_steps.specs.declared.program.Source.TheVariants.{Constant, Wire, Memory as Kept, Variable}
use Rattle.plcx_steps.specs.declared.program.Argument.{Argument}
use Rattle.plcx_steps.specs.declared.program.Action.TheVariants.{Fix, Write, Keep, Not, And, Or, Apply, Standard}
use Rattle.plcx_steps.specs.declared.program.Step.{Step}
use Rattle.plcx_steps.specs.declared.program.Step.TheVariants.{Act, Skip, Enter, Tell}
use Rattle.plcx_steps.specs.Numbered.{bit}

-- What an instance calls: a standard block from a leaf on, or a POU at its place, with the first of its leaves and memories and the names of its
-- in-outs without case.
pub data Callee : Type 0 where
  Block : StdKind → (leaf : ℕ) → Callee
  User : (pou leaves memories : ℕ) → (in_outs : List (List ℕ)) → Callee

-- The numbers of what an element names: of an output by its element and pin, of a variable, of a variable within an instance, of a memory, and of what
-- an instance calls; and the first of the wires that no output has.
pub record Numbering : Type 0 where
  pub wire : ℕ → List ℕ → ℕ
  pub spare : ℕ
  pub operand : List ℕ → Operand
  pub inner : (instance x : List ℕ) → ℕ
  pub memory : Memory → ℕ
  pub callee : List ℕ → Callee

-- ---- links

-- TRUE and FALSE
abbrev pub on : Source
on = Constant (bit (pos 1))

abbrev pub off : Source
off = Constant (bit (pos 0))

-- a source at a pin of this type
abbrev pub source_of : Numbering → Ty → diagram.Source → Source
source_of c t diagram.Rail = on
source_of c t (diagram.Literal negated n) = Constant (value t (not_if negated n))
source_of c t (diagram.Wire id pin) = Wire (c.wire id pin)
source_of c t (diagram.Back id pin) = Kept (c.memory (AtOutput id pin))

-- one source, and not negated
abbrev pub is_plain : Link → Bool
is_plain link = not link.negated && (elim link.others [ [] ↦ true | _ ∷ _ ↦ false ])

-- a wire with the OR of what it has and of further sources
abbrev pub or_steps : Numbering → Ty → ℕ → List diagram.Source → List Step
or_steps c t w [] = []
or_steps c t w (o ∷ os) = Act (Or (Wire w) (source_of c t o) w) ∷ or_steps c t w os

-- a wire under NOT
abbrev pub not_steps : Bool → ℕ → List Step
not_steps true w = Act (Not (Wire w) w) ∷ []
not_steps false w = []

-- what stands at a link, brought into a wire
abbrev pub joined_steps : Numbering → ℕ → Link → List Step
joined_steps c w link = Act (Fix (source_of c link.ty link.first) w) ∷ (or_steps c link.ty w link.others ++ not_steps link.negated w)

-- the same where it is more than one source
abbrev pub link_steps : Numbering → ℕ → Link → List Step
link_steps c w link = if is_plain link then [] else joined_steps c w link

-- what stands at a link, behind those steps
abbrev pub link_source : Numbering → ℕ → Link → Source
link_source c w link = if is_plain link then source_of c link.ty link.first else Wire w

-- ---- kinds of elements

-- what is read
abbrev pub operand_of : Numbering → diagram.Operand → Source
operand_of c (Own x) = Variable (c.operand x)
operand_of c (Output i x) = Variable (Leaf (c.inner i x))

-- a value is stored; the wire is a spare one
abbrev pub store_steps : Storing → Operand → Source → (spare : ℕ) → List Step
store_steps Stored to s w = Act (Write to s) ∷ []
store_steps Inverted to s w = Act (Not s w) ∷ Act (Write to (Wire w)) ∷ []
store_steps Set to s w = Skip s 1 ∷ Act (Write to on) ∷ []
store_steps Reset to s w = Skip s 1 ∷ Act (Write to off) ∷ []

-- a contact of the link l on v, with two spare wires
abbrev pub contact_steps : Contacting → (l v : Source) → (memory wire spare : ℕ) → List Step
contact_steps Open l v m wire w = Act (And l v wire) ∷ []
contact_steps Closed l v m wire w = Act (Not v w) ∷ Act (And l (Wire w) wire) ∷ []
contact_steps RisingContact l v m wire w = Act (And l v w) ∷ Act (Not (Kept m) (w + 1)) ∷ Act (And (Wire w) (Wire (w + 1)) wire) ∷ Act (Keep m v) ∷ []
contact_steps FallingContact l v m wire w = Act (Not v w) ∷ Act (And l (Wire w) w) ∷ Act (And (Wire w) (Kept m) wire) ∷ Act (Keep m v) ∷ []

-- a coil whose wire has its link's value
abbrev pub coil_steps : Coiling → Operand → (memory wire spare : ℕ) → List Step
coil_steps (By how) to m wire w = store_steps how to (Wire wire) w
coil_steps RisingCoil to m wire w = Act (Not (Kept m) w) ∷ Act (And (Wire wire) (Wire w) w) ∷ Act (Write to (Wire w)) ∷ Act (Keep m (Wire wire)) ∷ []
coil_steps FallingCoil to m wire w = Act (Not (Wire wire) w) ∷ Act (And (Wire w) (Kept m) w) ∷ Act (Write to (Wire w)) ∷ Act (Keep m (Wire wire)) ∷ []

-- what stands at EN, brought into the first spare wire
abbrev pub enable_steps : Numbering → Enable → List Step
enable_steps c enable = elim enable.en [ Some link ↦ joined_steps c c.spare link | None ↦ [] ]

-- EN behind those steps, which is TRUE where it is not connected
abbrev pub enabled : Numbering → Enable → Source
enabled c enable = elim enable.en [ Some link ↦ Wire c.spare | None ↦ on ]

-- ENO where there is one
abbrev pub eno_steps : Numbering → ℕ → Enable → List Step
eno_steps c id enable = if has_eno enable then Act (Fix (enabled c enable) (c.wire id (codes "ENO"))) ∷ [] else []

-- the links of a function, each with a spare wire of its own
abbrev pub argument_steps : Numbering → ℕ → List Link → List Step
argument_steps c w [] = []
argument_steps c w (l ∷ ls) = link_steps c w l ++ argument_steps c (w + 1) ls

-- and its arguments behind those steps
abbrev pub arguments : Numbering → ℕ → List Link → List Argument
arguments c w [] = []
arguments c w (l ∷ ls) = record { ty = l.ty; source = link_source c w l } ∷ arguments c (w + 1) ls

-- a function, whose arguments are so many of the program's from the first on; where EN is FALSE it is passed over, and OUT is its default
abbrev pub apply_steps : Numbering → ℕ → Func → Ty → Enable → (first count : ℕ) → List Step
apply_steps c id f t enable first count =
    let out = c.wire id (codes "OUT") in
    elim enable.en [
      | None ↦ Act (Apply f t first count out) ∷ []
      | Some link ↦ Skip (Wire c.spare) 2 ∷ Act (Apply f t first count out) ∷ Skip off 1 ∷ Act (Fix (Constant (value (out_type f t) (pos 0))) out) ∷ []
    ]

-- the whole of it
abbrev pub function_steps : Numbering → ℕ → ℕ → Func → Ty → Enable → List Link → (negated : Bool) → List Step
function_steps c first id f t enable inputs negated =
    enable_steps c enable
    ++ (argument_steps c (c.spare + 1) inputs
    ++ (apply_steps c id f t enable first (length inputs)
    ++ (eno_steps c id enable
    ++ (not_steps (eno_negated enable) (c.wire id (codes "ENO"))
    ++ not_steps negated (c.wire id (codes "OUT"))))))

-- the inputs of a call
abbrev pub input_steps : Numbering → List ℕ → List InputPin → List Step
input_steps c instance [] = []
input_steps c instance (i ∷ is) =
    link_steps c (c.spare + 1) i.link ++ (Act (Write (Leaf (c.inner instance i.name)) (link_source c (c.spare + 1) i.link)) ∷ input_steps c instance is)

-- the variable that an in-out of this name without case is bound to
abbrev pub bound_variable : List InOutPin → List ℕ → List ℕ
bound_variable [] key = []
bound_variable (i ∷ is) key = if bytes_eq (in_lower_case i.name) key then i.variable else bound_variable is key

-- the call itself, with the program's bindings from the first on
abbrev pub call_steps : Callee → (first : ℕ) → List Step
call_steps (Block k leaf) first = Act (Standard k leaf) ∷ []
call_steps (User pou leaves memories in_outs) first = Enter pou leaves memories first (length in_outs) ∷ []

-- what the in-outs of what is called are bound to
abbrev pub bindings : Numbering → Callee → List InOutPin → List Operand
bindings c (Block k leaf) bound = []
bindings c (User pou leaves memories in_outs) bound = map (λ key. c.operand (bound_variable bound key)) in_outs

-- the outputs of a call
abbrev pub output_steps : Numbering → List ℕ → ℕ → List OutputPin → List Step
output_steps c instance id [] = []
output_steps c instance id (o ∷ os) =
    (let from = Variable (Leaf (c.inner instance o.name)) in
    if o.negated then Act (Not from (c.wire id o.name)) else Act (Fix from (c.wire id o.name)))
    ∷ output_steps c instance id os

-- these steps, passed over where EN is FALSE
abbrev pub under : Numbering → Enable → List Step → List Step
under c enable steps = elim enable.en [ None ↦ steps | Some link ↦ Skip (Wire c.spare) (length steps) ∷ steps ]

-- the whole of a call
abbrev pub called_steps : Numbering → ℕ → List ℕ → Enable → List InputPin → List OutputPin → ℕ → List Step
called_steps c first instance enable inputs outputs id =
    enable_steps c enable
    ++ (under c enable (input_steps c instance inputs ++ call_steps (c.callee instance) first)
    ++ (eno_steps c id enable
    ++ (output_steps c instance id outputs
    ++ not_steps (eno_negated enable) (c.wire id (codes "ENO")))))

-- an element of this number, where the program's arguments and bindings from the first on are its own
abbrev pub kind_steps : Numbering → (argument binding : ℕ) → ElementKind → ℕ → List Step
kind_steps c a b Still id = []
kind_steps c a b (In t negated operand) id = (if negated then Act (Not (operand_of c operand) (c.wire id [])) else Act (Fix (operand_of c operand) (c.wire id []))) ∷ []
kind_steps c a b (Out how x link) id = link_steps c c.spare link ++ store_steps how (c.operand x) (link_source c c.spare link) (c.spare + 1)
kind_steps c a b (Contact how operand link) id =
    link_steps c c.spare link ++ contact_steps how (link_source c c.spare link) (operand_of c operand) (c.memory (AtEdge id)) (c.wire id []) (c.spare + 1)
kind_steps c a b (Coil how x link) id =
    link_steps c c.spare link ++ (Act (Fix (link_source c c.spare link) (c.wire id [])) ∷ coil_steps how (c.operand x) (c.memory (AtEdge id)) (c.wire id []) (c.spare + 1))
kind_steps c a b (Pass link) id = link_steps c c.spare link ++ Act (Fix (link_source c c.spare link) (c.wire id [])) ∷ []
kind_steps c a b (Label name) id = []
kind_steps c a b (Jump label link) id = link_steps c c.spare link ++ Act (Fix (link_source c c.spare link) (c.wire id [])) ∷ []
kind_steps c a b (Return link) id = link_steps c c.spare link ++ Act (Fix (link_source c c.spare link) (c.wire id [])) ∷ []
kind_steps c a b (Function f t enable inputs negated) id = function_steps c a id f t enable inputs negated
kind_steps c a b (Call instance enable inputs in_outs outputs) id = called_steps c b instance enable inputs outputs id

-- the arguments of an element, and its bindings
abbrev pub kind_arguments : Numbering → ElementKind → List Argument
kind_arguments c (Function f t enable inputs negated) = arguments c (c.spare + 1) inputs
kind_arguments c _ = []

abbrev pub kind_bindings : Numbering → ElementKind → List Operand
kind_bindings c (Call instance enable inputs in_outs outputs) = bindings c (c.callee instance) in_outs
kind_bindings c _ = []

-- how many spare wires an element takes
abbrev pub spares : ElementKind → ℕ
spares (Out how x link) = 2
spares (Contact how operand link) = 3
spares (Coil how x link) = 2
spares (Pass link) = 1
spares (Jump label link) = 1
spares (Return link) = 1
spares (Function f t enable inputs negated) = length inputs + 1
spares (Call instance enable inputs in_outs outputs) = 2
spares _ = 0

-- ---- elements

-- what feeds back is remembered
abbrev pub feed_steps : Numbering → ℕ → List Port → List Step
feed_steps c id [] = []
feed_steps c id (p ∷ ps) = Act (Keep (c.memory (AtOutput id p.pin)) (Wire (c.wire id p.pin))) ∷ feed_steps c id ps

-- and the outputs are told, with these numbers
abbrev pub tell_steps : Numbering → (id number : ℕ) → List Port → List Step
tell_steps c id n [] = []
tell_steps c id n (p ∷ ps) = Tell id n p.ty (c.wire id p.pin) ∷ tell_steps c id (n + 1) ps

-- an element
abbrev pub element_steps : Numbering → (argument binding : ℕ) → DiagramElement → List Step
element_steps c a b e = kind_steps c a b e.kind e.id ++ (feed_steps c e.id e.fed ++ tell_steps c e.id 0 (ports e.kind))

-- elements one after another
abbrev pub elements_steps : Numbering → (argument binding : ℕ) → List DiagramElement → List Step
elements_steps c a b [] = []
elements_steps c a b (e ∷ es) = element_steps c a b e ++ elements_steps c (a + length (kind_arguments c e.kind)) (b + length (kind_bindings c e.kind)) es

-- and their arguments and bindings
abbrev pub elements_arguments : Numbering → List DiagramElement → List Argument
elements_arguments c [] = []
elements_arguments c (e ∷ es) = kind_arguments c e.kind ++ elements_arguments c es

abbrev pub elements_bindings : Numbering → List DiagramElement → List Operand
elements_bindings c [] = []
elements_bindings c (e ∷ es) = kind_bindings c e.kind ++ elements_bindings c es
