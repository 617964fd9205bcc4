-- When the numbers that steps use are right: what each has to be the number of, where an element mentions it.
use Rattle.std.specs.Prelude.{◌≡◌, ℕ, ◌+◌, ◌<◌, ◌≤◌, pos, true, false, List, [], ◌∷◌, Option, Some, None, length, slice_get, slice_range, codes}
use Rattle.std.specs.List.{AllZip}
use Rattle.plcx_types.specs.Name.{in_lower_case}
use Rattle.plcx_types.specs.Lists.{Each}
use Rattle.plcx_std.specs.declared.kind.StdKind.{StdKind}
use Rattle.plcx_std.specs.Kind.{kind_named}
use Rattle.plcx_std.specs.Pins.{Pin as Leaf', pins}
use Rattle.plcx_meaning.specs.Base.{Path, Memory, AtEdge, AtOutput}
use Rattle.plcx_meaning.specs.Layout.{Variable, variables_of, variable_named}
use Rattle.plcx_meaning.specs.Diagram as diagram
use Rattle.plcx_meaning.specs.Diagram.{Link, Own, Output, Contacting, RisingContact, FallingContact, Coiling, RisingCoil, FallingCoil, Enable, has_eno, InputPin, InOutPin, OutputPin, ElementKind, Still, In, Out, Contact, Coil, Pass, Label, Jump, Return, Function, Call, Port, ports, DiagramElement, Project, has_jump, block_named}
use Rattle.plcx_meaning.specs.Evaluate.{is_in_out, bind, leads_to, place_named}
use Rattle.plcx_steps.specs.declared.program.Operand.{Operand}
use Rattle.plcx_steps.specs.declared.program.Operand.TheVariants.{Leaf, InOut}
use Rattle.plcx_steps.specs.declared.program.Instance.{Instance}
use Rattle.plcx_steps.specs.declared.program.Jump.{Jump as Leap}
use Rattle.plcx_steps.specs.declared.program.Network.{Network}
use Rattle.plcx_steps.specs.declared.program.Body.{Body}
use Rattle.plcx_steps.specs.declared.program.Program.{Program}
use Rattle.plcx_steps.specs.Numbered.{number_at}
use Rattle.plcx_numbered.specs.Agreeing.{AreApart, Pin, Shape, plain_memory, Lies}
use Rattle.plcx_numbered.specs.Prepared.{Callee, Block, User, Numbering, bound_variable, spares, elements_steps, elements_arguments, elements_bindings}

-- a POU of the project, how many levels of blocks are below it at most, the shape of its instances, and the names of its in-outs without case
pub record Plan : Type 0 where
  pub pou : diagram.Pou
  pub level : ℕ
  pub shape : Shape
  pub in_outs : List (List ℕ)

-- where a network is prepared: the project with its plans, the POU's plan, the numbers, the outputs by their wires, and how many wires there are
pub record Place : Type 0 where
  pub project : Project
  pub plans : List Plan
  pub plan : Plan
  pub num : Numbering
  pub pins : List Pin
  pub width : ℕ

-- the variables of the POU
abbrev pub variables : Place → List Variable
variables c = variables_of c.plan.pou.lists

-- the number of an output, of a memory, of a variable within an instance
abbrev pub IsWire : Place → ℕ → List ℕ → Type 0
IsWire c id pin = slice_get c.pins (c.num.wire id pin) ≡ Some (id, in_lower_case pin)

abbrev pub IsCell : Place → Memory → Type 0
IsCell c k = slice_get c.plan.shape.cells (c.num.memory k) ≡ Some ([], plain_memory k)

abbrev pub IsInner : Place → (instance x : List ℕ) → Type 0
IsInner c instance x = slice_get c.plan.shape.paths (c.num.inner instance x) ≡ Some (in_lower_case x ∷ in_lower_case instance ∷ [])

-- what a variable's name stands for
abbrev pub NamesOperand : Place → List ℕ → Operand → Type 0
NamesOperand c x (Leaf offset) = (is_in_out (variable_named (in_lower_case x) (variables c)) ≡ false) × (slice_get c.plan.shape.paths offset ≡ Some (in_lower_case x ∷ []))
NamesOperand c x (InOut j) = (is_in_out (variable_named (in_lower_case x) (variables c)) ≡ true) × (slice_get c.plan.in_outs j ≡ Some (in_lower_case x))

abbrev pub IsOperand : Place → List ℕ → Type 0
IsOperand c x = NamesOperand c x (c.num.operand x)

-- ---- links

abbrev pub RightSource : Place → diagram.Source → Type 0
RightSource c diagram.Rail = Unit {0}
RightSource c (diagram.Literal negated n) = Unit {0}
RightSource c (diagram.Wire id pin) = IsWire c id pin
RightSource c (diagram.Back id pin) = IsCell c (AtOutput id pin)

pub record RightLink (c : Place) (link : Link) : Type 0 where
  pub first : RightSource c link.first
  pub others : Each (RightSource c) link.others

-- ---- kinds of elements

abbrev pub RightOperand : Place → diagram.Operand → Type 0
RightOperand c (Own x) = IsOperand c x
RightOperand c (Output i x) = IsInner c i x

abbrev pub RightContact : Place → ℕ → Contacting → Type 0
RightContact c id RisingContact = IsCell c (AtEdge id)
RightContact c id FallingContact = IsCell c (AtEdge id)
RightContact c id _ = Unit {0}

abbrev pub RightCoil : Place → ℕ → Coiling → Type 0
RightCoil c id RisingCoil = IsCell c (AtEdge id)
RightCoil c id FallingCoil = IsCell c (AtEdge id)
RightCoil c id _ = Unit {0}

pub record RightEnable (c : Place) (id : ℕ) (enable : Enable) : Type 0 where
  pub en : (link : Link) → enable.en ≡ Some link → RightLink c link
  pub eno : has_eno enable ≡ true → IsWire c id (codes "ENO")

-- a standard block: its variable, and its leaves
pub record IsBlock (c : Place) (instance : List ℕ) (k : StdKind) (leaf : ℕ) : Type 0 where
  pub variable : Variable
  pub found : variable_named (in_lower_case instance) (variables c) ≡ Some variable
  pub kind : kind_named variable.ty ≡ Some k
  pub leaves : (i : ℕ) (p : Leaf') → slice_get (pins k) i ≡ Some p → slice_get c.plan.shape.paths (leaf + i) ≡ Some (in_lower_case p.name ∷ in_lower_case instance ∷ [])

-- an in-out of a block is bound to a variable
pub record IsBound (c : Place) (bound : List InOutPin) (key : List ℕ) : Type 0 where
  pub is : (leaf : List ℕ → Path) → bind bound leaf key ≡ leaf (bound_variable bound key)
  pub operand : IsOperand c (bound_variable bound key)

-- a block of the project: its variable, its plan, where its instance lies, and what its in-outs are bound to
pub record IsUser (c : Place) (instance : List ℕ) (bound : List InOutPin) (pou : ℕ) (at : Instance) (in_outs : List (List ℕ)) : Type 0 where
  pub variable : Variable
  pub found : variable_named (in_lower_case instance) (variables c) ≡ Some variable
  pub user : kind_named variable.ty ≡ None
  pub plan : Plan
  pub is_plan : slice_get c.plans pou ≡ Some plan
  pub block : block_named variable.ty c.project ≡ Some plan.pou
  pub level : plan.level < c.plan.level
  pub lies : Lies c.plan.shape plan.shape (in_lower_case instance ∷ []) at
  pub names : in_outs ≡ plan.in_outs
  pub bound_to : Each (IsBound c bound) in_outs

abbrev pub instance_at : ℕ → ℕ → Instance
instance_at leaves memories = record { leaves = leaves; memories = memories }

abbrev pub RightCallee : Place → List ℕ → List InOutPin → Callee → Type 0
RightCallee c instance bound (Block k leaf) = IsBlock c instance k leaf
RightCallee c instance bound (User pou leaves memories in_outs) = IsUser c instance bound pou (instance_at leaves memories) in_outs

pub record RightCall (c : Place) (instance : List ℕ) (enable : Enable) (inputs : List InputPin) (in_outs : List InOutPin) (outputs : List OutputPin) (id : ℕ) : Type 0 where
  pub enabling : RightEnable c id enable
  pub are_inputs : Each (λ (i : InputPin). IsInner c instance i.name × RightLink c i.link) inputs
  pub called : RightCallee c instance in_outs (c.num.callee instance)
  pub are_outputs : Each (λ (o : OutputPin). IsInner c instance o.name × IsWire c id o.name) outputs

abbrev pub RightKind : Place → ElementKind → ℕ → Type 0
RightKind c Still id = Unit {0}
RightKind c (In t negated operand) id = RightOperand c operand × IsWire c id []
RightKind c (Out how x link) id = IsOperand c x × RightLink c link
RightKind c (Contact how operand link) id = RightOperand c operand × RightLink c link × RightContact c id how × IsWire c id []
RightKind c (Coil how x link) id = IsOperand c x × RightLink c link × RightCoil c id how × IsWire c id []
RightKind c (Pass link) id = RightLink c link × IsWire c id []
RightKind c (Label name) id = Unit {0}
RightKind c (Jump label link) id = RightLink c link × IsWire c id []
RightKind c (Return link) id = RightLink c link × IsWire c id []
RightKind c (Function f t enable inputs negated) id = RightEnable c id enable × Each (RightLink c) inputs × IsWire c id (codes "OUT")
RightKind c (Call instance enable inputs in_outs outputs) id = RightCall c instance enable inputs in_outs outputs id

-- ---- elements

pub record RightElement (c : Place) (e : DiagramElement) : Type 0 where
  pub kind : RightKind c e.kind e.id
  pub spare : c.num.spare + spares e.kind ≤ c.width
  pub fed : Each (λ (p : Port). IsCell c (AtOutput e.id p.pin) × IsWire c e.id p.pin) e.fed
  pub outputs : Each (λ (p : Port). IsWire c e.id p.pin) (ports e.kind)

-- a part stands in a list from a place on
abbrev pub HasAt : {A : Type 0} → List A → ℕ → List A → Type 0
HasAt whole i part = slice_range whole i (i + length part) ≡ part

-- ---- bodies

-- the jumps of a network: where each leads, and the element that decides
abbrev pub lead : ℕ → Option ℕ → List (ℕ × ℕ) → List (ℕ × ℕ)
lead id None rest = rest
lead id (Some n) rest = (n, id) ∷ rest

abbrev pub leaps : List (List DiagramElement) → List DiagramElement → List (ℕ × ℕ)
leaps networks [] = []
leaps networks (e ∷ es) = lead e.id (leads_to networks e.kind) (leaps networks es)

abbrev pub IsLeap : Place → (ℕ × ℕ) → Leap → Type 0
IsLeap c l j = (l.0 ≡ j.target) × IsWire c l.1 [] × (c.num.wire l.1 [] ≡ j.wire)

abbrev pub place : Project → List Plan → Plan → Numbering → List Pin → ℕ → Place
place project plans plan num pins width = record { project = project; plans = plans; plan = plan; num = num; pins = pins; width = width }

-- a network
pub record IsNetwork (program : Program) (project : Project) (plans : List Plan) (plan : Plan) (es : List DiagramElement) (network : Network) : Type 0 where
  pub num : Numbering
  pub pins : List Pin
  pub apart : AreApart pins
  pub spare : length pins ≤ num.spare
  pub room : length pins ≤ length network.wires.items
  pub zeros : (w : ℕ) → number_at network.wires.items w ≡ pos 0
  pub argument : ℕ
  pub binding : ℕ
  pub steps : network.steps.items ≡ elements_steps num argument binding es
  pub arguments : HasAt program.arguments.items argument (elements_arguments num es)
  pub bindings : HasAt program.bindings.items binding (elements_bindings num es)
  pub right : Each (RightElement (place project plans plan num pins (length network.wires.items))) es
  pub jumps : AllZip (IsLeap (place project plans plan num pins (length network.wires.items))) (leaps plan.pou.networks es) network.jumps.items

-- a body
pub record IsBody (program : Program) (project : Project) (plans : List Plan) (k : ℕ) (plan : Plan) (body : Body) : Type 0 where
  pub name : place_named plan.pou.name project ≡ k
  pub jumps : has_jump plan.pou.networks ≡ body.jumps
  pub networks : AllZip (IsNetwork program project plans plan) plan.pou.networks body.networks.items

-- each plan has its body, at the same place
pub record IsPrepared (project : Project) (plans : List Plan) (program : Program) : Type 0 where
  pub each : (k : ℕ) (plan : Plan) → slice_get plans k ≡ Some plan → (body : Body) × (slice_get program.bodies.items k ≡ Some body) × IsBody program project plans k plan body
