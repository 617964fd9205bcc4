-- What a diagram does in a scan. There is no loop of dispatch in it, and no text.
use Rattle.std.specs.Prelude.{ℕ, zero, suc, ◌+◌, ℤ, pos, Bool, true, false, ◌&&◌, List, [], ◌∷◌, ◌++◌, Option, Some, None, nat_eq, map, length, codes, slice_get, if◌then◌else◌}
use Rattle.std.specs.Str.{bytes_eq}
use Rattle.std.specs.declared.result.Result.{Result}
use Rattle.std.specs.declared.result.Result.TheVariants.{Ok, Err}
use Rattle.plcx_types.specs.declared.fault.Fault.{Fault}
use Rattle.plcx_types.specs.declared.ty.Ty.{Ty}
use Rattle.plcx_types.specs.Name.{in_lower_case}
use Rattle.plcx_types.specs.Value.{Value}
use Rattle.plcx_std.specs.Kind.{kind_named}
use Rattle.plcx_funcs.specs.declared.func.Func.{Func}
use Rattle.plcx_funcs.specs.Applied.{value, applied}
use Rattle.plcx_meaning.specs.Base.{Path, is_true, and_of, or_of, not_of, not_if, put, Memory, AtEdge, AtOutput, put_memory, Faulted, OutOfTurns, Outcome, Ended, Stopped, Stuck, then_do, spend, found, Site, top}
use Rattle.plcx_meaning.specs.Tree as tree
use Rattle.plcx_meaning.specs.Layout.{Variable, variables_of, variable_named, World, Scope, is_retained, layout, Restart, Warm, Cold, begun, restarted}
use Rattle.plcx_meaning.specs.Standard.{called}
use Rattle.plcx_meaning.specs.Run as run
use Rattle.plcx_meaning.specs.Run.{put_inputs, Machine}
use Rattle.plcx_meaning.specs.Diagram.{Source, Rail, Literal, Wire, Back, Link, Operand, Own, Output, Storing, Stored, Inverted, Set, Reset, Contacting, Open, Closed, RisingContact, FallingContact, Coiling, By, RisingCoil, FallingCoil, Enable, has_eno, eno_negated, InputPin, InOutPin, OutputPin, ElementKind, Still, In, Out, Contact, Coil, Pass, Label, Jump, Return, Function, Call, Port, ports, DiagramElement, Pou, Project, has_jump, target, block_named}

-- An output that a watch hears of: the place of the POU in the project, the element, the number of the wire among the element's, and its value.
pub record Heard : Type 0 where
  pub pou : ℕ
  pub id : ℕ
  pub number : ℕ
  pub value : Value

-- what a scan changes: the leaves, the memories, and the turns that are left; and what a watch has heard of it so far, in order
pub record DiagramState : Type 0 where
  pub store : Path → ℤ
  pub memories : Path → Memory → ℤ
  pub left : ℕ
  pub heard : List Heard

-- the outputs that are fixed, by the number of their element and the name of their pin
abbrev pub Wires : Type 0
Wires = ℕ → List ℕ → ℤ

-- before an element is evaluated, no output is fixed
abbrev pub no_wires : Wires
no_wires id pin = pos 0

-- an output is fixed
abbrev pub fix : Wires → ℕ → List ℕ → ℤ → Wires
fix ws id pin v i p = if nat_eq i id && bytes_eq (in_lower_case p) (in_lower_case pin) then v else ws i p

-- a leaf gets a value
abbrev pub set_leaf : DiagramState → Path → ℤ → DiagramState
set_leaf d p v = record d { store = put d.store p v }

-- a memory gets a value
abbrev pub set_memory : DiagramState → Path → Memory → ℤ → DiagramState
set_memory d p k v = record d { memories = put_memory d.memories p k v }

-- the variable is an in-out
abbrev pub is_in_out : Option Variable → Bool
is_in_out None = false
is_in_out (Some v) = elim v.class [ tree.InOut ↦ true | _ ↦ false ]

-- the leaf that a name stands for: that of an in-out is the one that it is bound to
abbrev pub leaf_named : List Variable → Site → List ℕ → Path
leaf_named vs site x = if is_in_out (variable_named (in_lower_case x) vs) then site.bound (in_lower_case x) else in_lower_case x ∷ site.path

-- the leaf that is read: the one of a name, or an output within an instance
abbrev pub operand_leaf : List Variable → Site → Operand → Path
operand_leaf vs site (Own x) = leaf_named vs site x
operand_leaf vs site (Output i x) = in_lower_case x ∷ in_lower_case i ∷ site.path

-- a feedback connection reads what its source gave when it was last evaluated
abbrev pub source_value : Path → DiagramState → Wires → Source → ℤ
source_value path d ws Rail = pos 1
source_value path d ws (Literal negated n) = not_if negated n
source_value path d ws (Wire id pin) = ws id pin
source_value path d ws (Back id pin) = d.memories path (AtOutput id pin)

-- the OR of several sources, from the left
abbrev pub or_all : ℤ → List ℤ → ℤ
or_all v [] = v
or_all v (w ∷ rest) = or_all (or_of v w) rest

-- the value at an input pin: the OR of its sources, or its opposite
abbrev pub link_value : Path → DiagramState → Wires → Link → ℤ
link_value path d ws link = not_if link.negated (or_all (source_value path d ws link.first) (map (source_value path d ws) link.others))

-- a leaf gets a value, or its opposite; or it is set or reset where the value is TRUE
abbrev pub store_by : Storing → Path → ℤ → DiagramState → DiagramState
store_by Stored p v d = set_leaf d p v
store_by Inverted p v d = set_leaf d p (not_of v)
store_by Set p v d = if is_true v then set_leaf d p (pos 1) else d
store_by Reset p v d = if is_true v then set_leaf d p (pos 0) else d

-- the link's value, the variable's, and the variable's at the last evaluation
abbrev pub contact_value : Contacting → ℤ → ℤ → ℤ → ℤ
contact_value Open l v m = and_of l v
contact_value Closed l v m = and_of l (not_of v)
contact_value RisingContact l v m = and_of (and_of l v) (not_of m)
contact_value FallingContact l v m = and_of (and_of l (not_of v)) m

-- a contact at an edge remembers the variable's value
abbrev pub contact_does : Contacting → Path → ℕ → ℤ → DiagramState → DiagramState
contact_does Open p id v d = d
contact_does Closed p id v d = d
contact_does RisingContact p id v d = set_memory d p (AtEdge id) v
contact_does FallingContact p id v d = set_memory d p (AtEdge id) v

-- a coil at an edge stores whether its link rose or fell, and remembers the link's value
abbrev pub coil_does : Coiling → Path → Path → ℕ → ℤ → DiagramState → DiagramState
coil_does (By how) leaf p id l d = store_by how leaf l d
coil_does RisingCoil leaf p id l d = set_memory (set_leaf d leaf (and_of l (not_of (d.memories p (AtEdge id))))) p (AtEdge id) l
coil_does FallingCoil leaf p id l d = set_memory (set_leaf d leaf (and_of (not_of l) (d.memories p (AtEdge id)))) p (AtEdge id) l

-- EN is TRUE where it is not connected
abbrev pub enable_value : (Link → ℤ) → Enable → ℤ
enable_value values enable = elim enable.en [ Some link ↦ values link | None ↦ pos 1 ]

-- ENO is fixed where the block has it
abbrev pub fix_eno : Enable → ℕ → ℤ → Wires → Wires
fix_eno enable id v ws = if has_eno enable then fix ws id (codes "ENO") v else ws

-- an output pin that is negated negates its wire
abbrev pub turn : Bool → ℕ → List ℕ → Wires → Wires
turn true id pin ws = fix ws id pin (not_of (ws id pin))
turn false id pin ws = ws

-- what follows a result; a fault stops the scan
abbrev pub with_result : {L : Type 0} → Result Value Fault → DiagramState → (ℤ → Outcome DiagramState L) → Outcome DiagramState L
with_result (Ok v) d go = go v.n
with_result (Err fault) d go = Stopped (Faulted fault) d

-- a function is applied only where EN is not FALSE, else OUT is its default
abbrev pub function_result : Func → Ty → List Link → ℤ → (Link → ℤ) → Result Value Fault
function_result f t inputs v values = if is_true v then applied f t (map (λ l. value l.ty (values l)) inputs) else Ok (value t (pos 0))

-- a call stores its connected inputs in the instance
abbrev pub store_inputs : List InputPin → Path → (Link → ℤ) → DiagramState → DiagramState
store_inputs [] inner values d = d
store_inputs (i ∷ is) inner values d = store_inputs is inner values (set_leaf d (in_lower_case i.name ∷ inner) (values i.link))

-- its in-outs stand for the leaves of their variables
abbrev pub bind : List InOutPin → (List ℕ → Path) → List ℕ → Path
bind [] leaf key = []
bind (i ∷ is) leaf key = if bytes_eq (in_lower_case i.name) key then leaf i.variable else bind is leaf key

-- and its wires are the stored outputs
abbrev pub take_outputs : List OutputPin → ℕ → Path → DiagramState → Wires → Wires
take_outputs [] id inner d ws = ws
take_outputs (o ∷ os) id inner d ws = take_outputs os id inner d (fix ws id o.name (not_if o.negated (d.store (in_lower_case o.name ∷ inner))))

-- how a block is evaluated: the one of a type's name, as the instance at a site
abbrev pub DiagramCalls : Type 0
DiagramCalls = List ℕ → Site → DiagramState → Outcome DiagramState (Unit {0})

-- where a body is evaluated: the place of its POU in the project, its variables, its instance, and how the blocks of its instances are evaluated
pub record DiagramSetting : Type 0 where
  pub pou : ℕ
  pub variables : List Variable
  pub site : Site
  pub called : DiagramCalls

-- a block is stored to and evaluated only where EN is not FALSE
abbrev pub call_does : List ℕ → List ℕ → ℤ → List InputPin → List InOutPin → DiagramSetting → (Link → ℤ) → DiagramState → Outcome DiagramState (Unit {0})
call_does instance type v inputs in_outs c values d =
    if is_true v
    then c.called type (record { path = in_lower_case instance ∷ c.site.path; bound = bind in_outs (leaf_named c.variables c.site) })
    (store_inputs inputs (in_lower_case instance ∷ c.site.path) values d)
    else Ended d tt

-- the effect of an element of this number
abbrev pub kind_does : ElementKind → ℕ → DiagramSetting → DiagramState → Wires → Outcome DiagramState Wires
kind_does Still id c d ws = Ended d ws
kind_does (In t negated operand) id c d ws = Ended d (fix ws id [] (not_if negated (d.store (operand_leaf c.variables c.site operand))))
kind_does (Out how x link) id c d ws = Ended (store_by how (leaf_named c.variables c.site x) (link_value c.site.path d ws link) d) ws
kind_does (Contact how operand link) id c d ws =
    Ended
    (contact_does how c.site.path id (d.store (operand_leaf c.variables c.site operand)) d)
    (fix ws id [] (contact_value how (link_value c.site.path d ws link) (d.store (operand_leaf c.variables c.site operand)) (d.memories c.site.path (AtEdge id))))
kind_does (Coil how x link) id c d ws =
    Ended
    (coil_does how (leaf_named c.variables c.site x) c.site.path id (link_value c.site.path d ws link) d)
    (fix ws id [] (link_value c.site.path d ws link))
kind_does (Pass link) id c d ws = Ended d (fix ws id [] (link_value c.site.path d ws link))
kind_does (Label name) id c d ws = Ended d ws
kind_does (Jump label link) id c d ws = Ended d (fix ws id [] (link_value c.site.path d ws link))
kind_does (Return link) id c d ws = Ended d (fix ws id [] (link_value c.site.path d ws link))
kind_does (Function f t enable inputs negated) id c d ws =
    with_result (function_result f t inputs (enable_value (link_value c.site.path d ws) enable) (link_value c.site.path d ws)) d (λ n.
    Ended d
    (turn negated id (codes "OUT")
    (turn (eno_negated enable) id (codes "ENO")
    (fix (fix_eno enable id (enable_value (link_value c.site.path d ws) enable) ws) id (codes "OUT") n))))
kind_does (Call instance enable inputs in_outs outputs) id c d ws =
    found (variable_named (in_lower_case instance) c.variables) (λ v.
    then_do (call_does instance v.ty (enable_value (link_value c.site.path d ws) enable) inputs in_outs c (link_value c.site.path d ws) d) (λ d' u.
    Ended d'
    (turn (eno_negated enable) id (codes "ENO")
    (take_outputs outputs id (in_lower_case instance ∷ c.site.path) d' (fix_eno enable id (enable_value (link_value c.site.path d ws) enable) ws)))))

-- what feeds back is remembered when the element has been evaluated to its end
abbrev pub feed : ℕ → List Port → Path → Wires → DiagramState → DiagramState
feed id [] path ws d = d
feed id (p ∷ ps) path ws d = feed id ps path ws (set_memory d path (AtOutput id p.pin) (ws id p.pin))

-- the outputs of an element of this number, with those numbers
abbrev pub outputs_heard : (pou id number : ℕ) → List Port → Wires → List Heard
outputs_heard pou id n [] ws = []
outputs_heard pou id n (p ∷ ps) ws = record { pou = pou; id = id; number = n; value = value p.ty (ws id p.pin) } ∷ outputs_heard pou id (n + 1) ps ws

-- more is heard
abbrev pub hear : List Heard → DiagramState → DiagramState
hear hs d = record d { heard = d.heard ++ hs }

-- a watch hears of an element once it has been evaluated to its end, of each output in the order of its wires
abbrev pub element_does : DiagramElement → DiagramSetting → DiagramState → Wires → Outcome DiagramState Wires
element_does e c d ws = then_do (kind_does e.kind e.id c d ws) (λ d' ws'. Ended (hear (outputs_heard c.pou e.id 0 (ports e.kind) ws') (feed e.id e.fed c.site.path ws' d')) ws')

-- elements one after another
abbrev pub elements_do : List DiagramElement → DiagramSetting → DiagramState → Wires → Outcome DiagramState Wires
elements_do [] c d ws = Ended d ws
elements_do (e ∷ es) c d ws = then_do (element_does e c d ws) (λ d' ws'. elements_do es c d' ws')

-- a body without jump and return: its networks once, in order; each fixes its wires anew
abbrev pub straight : List (List DiagramElement) → DiagramSetting → DiagramState → Outcome DiagramState (Unit {0})
straight [] c d = Ended d tt
straight (network ∷ networks) c d = then_do (elements_do network c d no_wires) (λ d' ws. straight networks c d')

-- where a jump or a return leads: a jump to the network of its label, a return behind the last
abbrev pub leads_to : List (List DiagramElement) → ElementKind → Option ℕ
leads_to networks (Jump label link) = Some (target label networks)
leads_to networks (Return link) = Some (length networks)
leads_to networks _ = None

-- where a jump or a return leads if its condition is TRUE, else what follows anyway
abbrev pub chosen : Option ℕ → ℤ → ℕ → ℕ
chosen None v other = other
chosen (Some n) v other = if is_true v then n else other

-- the first jump or return whose condition is TRUE decides which network follows
abbrev pub successor : List (List DiagramElement) → List DiagramElement → ℕ → Wires → ℕ
successor networks [] next ws = next
successor networks (e ∷ es) next ws = chosen (leads_to networks e.kind) (ws e.id []) (successor networks es next ws)

-- what follows at a network; behind the last one the body ends
abbrev pub at_network : Option (List DiagramElement) → DiagramState → (List DiagramElement → Outcome DiagramState (Unit {0})) → Outcome DiagramState (Unit {0})
at_network None d go = Ended d tt
at_network (Some network) d go = go network

-- A body with a jump or a return, from a network on: each evaluation of a network costs one turn. The first number only bounds the
-- recursion; it is the number of turns that are left.
abbrev pub jumping : ℕ → List (List DiagramElement) → DiagramSetting → ℕ → DiagramState → Outcome DiagramState (Unit {0})
jumping zero networks c i d = at_network (slice_get networks i) d (λ network. Stopped OutOfTurns d)
jumping (suc n) networks c i d =
    at_network (slice_get networks i) d (λ network.
    spend d.left d (λ left.
    then_do (elements_do network c (record d { left = left }) no_wires) (λ d' ws. jumping n networks c (successor networks network (i + 1) ws) d')))

-- a body, which has jumps or returns or not
abbrev pub body_does : List (List DiagramElement) → DiagramSetting → DiagramState → Outcome DiagramState (Unit {0})
body_does networks c d = if has_jump networks then jumping d.left networks c 0 d else straight networks c d

-- a standard block takes one step at the time of the scan, and others are evaluated as users say
abbrev pub with_standard : ℕ → DiagramCalls → DiagramCalls
with_standard time users type site d = elim (kind_named type) [ Some k ↦ Ended (record d { store = called k time site.path d.store }) tt | None ↦ users type site d ]

-- the place of a POU in the project, from 0, by its name
abbrev pub place_named : List ℕ → Project → ℕ
place_named name [] = 0
place_named name (p ∷ ps) = if bytes_eq (in_lower_case p.name) (in_lower_case name) then 0 else place_named name ps + 1

-- a POU as the instance at a site
abbrev pub pou_does : Project → DiagramCalls → Pou → Site → DiagramState → Outcome DiagramState (Unit {0})
pou_does project called p site d = body_does p.networks (record { pou = place_named p.name project; variables = variables_of p.lists; site = site; called = called }) d

-- the function blocks of a project, with so many levels of them below
abbrev pub blocks_do : ℕ → (time : ℕ) → Project → DiagramCalls
blocks_do zero time project type site d = Stuck
blocks_do (suc n) time project type site d =
    found (block_named type project) (λ p. pou_does project (with_standard time (blocks_do n time project)) p site d)

-- a program, below which stand 16 levels of function blocks at most
abbrev pub program_does : (time : ℕ) → Project → Pou → DiagramState → Outcome DiagramState (Unit {0})
program_does time project p d = pou_does project (with_standard time (blocks_do 16 time project)) p top d

-- what the names of a project's function blocks declare
abbrev pub world_of : Project → World
world_of project key = elim (block_named key project) [ Some p ↦ p.lists | None ↦ [] ]

-- a program with what its types stand for
abbrev pub scope_of : Project → Pou → Scope
scope_of project p = record { world = world_of project; own = variables_of p.lists }

-- a warm restart keeps the memories of retained instances, a cold one none
abbrev pub restarted_memories : Scope → Restart → (Path → Memory → ℤ) → Path → Memory → ℤ
restarted_memories c Warm m p k = if is_retained c p then m p k else pos 0
restarted_memories c Cold m p k = pos 0

-- one scan of a program: the inputs are written, and a watch has heard nothing yet
abbrev pub scan_does : Project → Pou → (turns time : ℕ) → List run.Input → DiagramState → Outcome DiagramState (Unit {0})
scan_does project p turns time inputs d = program_does time project p (record { store = put_inputs inputs d.store; memories = d.memories; left = turns; heard = [] })

-- what was heard of a scan is not kept behind it
abbrev pub unheard : Outcome DiagramState (Unit {0}) → Outcome DiagramState (Unit {0})
unheard (Ended d u) = Ended (record d { heard = [] }) u
unheard (Stopped s d) = Stopped s (record d { heard = [] })
unheard Stuck = Stuck

-- a program as a side
abbrev pub diagram_machine : Project → Pou → Machine DiagramState
diagram_machine project p = record {
  layout = layout (scope_of project p);
  begin = λ kept. record { store = begun (scope_of project p) kept; memories = λ q k. pos 0; left = 0; heard = [] };
  scan = λ turns time inputs d. unheard (scan_does project p turns time inputs d);
  restart = λ r d. record { store = restarted (scope_of project p) r d.store; memories = restarted_memories (scope_of project p) r d.memories; left = 0; heard = [] };
  value = λ d q. d.store q;
}
