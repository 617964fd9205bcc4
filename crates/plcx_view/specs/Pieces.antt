-- Short words to write a project down, with what was found out about it.
use Rattle.std.specs.Prelude.{ℕ, ℤ, pos, Bool, true, false, List, [], ◌∷◌, Some, None, map, codes}
use Rattle.plcx_types.specs.declared.ty.Ty.{Ty}
use Rattle.plcx_funcs.specs.Applied.{value}
use Rattle.plcx_model.specs.declared.body.Edge.{Edge}
use Rattle.plcx_model.specs.declared.body.Edge.TheVariants as edge
use Rattle.plcx_model.specs.declared.body.Storage.{Storage}
use Rattle.plcx_model.specs.declared.body.Storage.TheVariants as storage
use Rattle.plcx_model.specs.declared.body.Mods.{Mods}
use Rattle.plcx_model.specs.declared.body.Connection.{Connection}
use Rattle.plcx_model.specs.declared.body.PinIn.{PinIn}
use Rattle.plcx_model.specs.declared.body.PinOut.{PinOut}
use Rattle.plcx_model.specs.declared.body.Kind.{Kind}
use Rattle.plcx_model.specs.declared.body.Kind.TheVariants as kind
use Rattle.plcx_model.specs.declared.body.BodyElement.{BodyElement}
use Rattle.plcx_model.specs.declared.plan.BodyPlan.{BodyPlan}
use Rattle.plcx_model.specs.declared.project.PouKind.TheVariants.{Program, FunctionBlock}
use Rattle.plcx_model.specs.declared.project.ListClass.{ListClass}
use Rattle.plcx_model.specs.declared.project.ListClass.TheVariants as class
use Rattle.plcx_model.specs.declared.project.VarTy.{VarTy}
use Rattle.plcx_model.specs.declared.project.VarTy.TheVariants as var
use Rattle.plcx_model.specs.declared.project.Variable.{Variable}
use Rattle.plcx_model.specs.declared.project.VarList.{VarList}
use Rattle.plcx_model.specs.declared.project.Pou.{Pou}
use Rattle.plcx_rules.specs.Sources.{links_of}
use Rattle.plcx_meaning.specs.Diagram as diagram
use Rattle.plcx_view.specs.Diagrams.{diagrams_of}

-- no modifier
abbrev pub plain : Mods
plain = record { negated = false; edge = edge.Plain; storage = storage.Plain }

-- negated alone
abbrev pub turned : Mods
turned = record { negated = true; edge = edge.Plain; storage = storage.Plain }

-- an edge alone
abbrev pub at_edge : Edge → Mods
at_edge e = record { negated = false; edge = e; storage = storage.Plain }

-- storage alone
abbrev pub by_storage : Storage → Mods
by_storage s = record { negated = false; edge = edge.Plain; storage = s }

-- one connection, which names an output
abbrev pub to_pin : ℕ → List ℕ → List Connection
to_pin id formal = record { element = id; formal = formal } ∷ []

-- one connection, which names none
abbrev pub to : ℕ → List Connection
to id = to_pin id []

-- an element
abbrev pub element : ℕ → Kind → BodyElement
element id k = record { local_id = id; order = None; x = pos 0; y = pos 0; kind = k }

-- an inVariable
abbrev pub reads : ℕ → List ℕ → BodyElement
reads id text = element id (kind.In text plain)

-- an outVariable
abbrev pub writes : ℕ → List ℕ → List Connection → BodyElement
writes id text input = element id (kind.Out input text plain)

-- an input pin without modifiers
abbrev pub input : List ℕ → List Connection → PinIn
input formal connections = record { formal = formal; mods = plain; input = connections }

-- an output pin without modifiers
abbrev pub output : List ℕ → PinOut
output formal = record { formal = formal; mods = plain }

-- a function
abbrev pub function : ℕ → List ℕ → List PinIn → BodyElement
function id name inputs = element id (kind.Block name None inputs [] (output (codes "OUT") ∷ []))

-- a block of an instance
abbrev pub instance : ℕ → (type_name name : List ℕ) → (inputs in_outs : List PinIn) → List PinOut → BodyElement
instance id type_name name inputs in_outs outputs = element id (kind.Block type_name (Some name) inputs in_outs outputs)

-- a variable without an initial value
abbrev pub variable : List ℕ → VarTy → Variable
variable name t = record { name = name; address = None; ty = t; initial = None }

-- a variable of an elementary type with one
abbrev pub starting : List ℕ → Ty → ℤ → Variable
starting name t n = record { name = name; address = None; ty = var.Plain t; initial = Some (value t n) }

-- a list without marks
abbrev pub listed : ListClass → List Variable → VarList
listed c vs = record { class = c; constant = false; retain = false; variables = vs }

-- a retained list
abbrev pub retained : List Variable → VarList
retained vs = record { class = class.Local; constant = false; retain = true; variables = vs }

-- the program
abbrev pub main : List VarList → List BodyElement → Pou
main lists elements = record { name = codes "Main"; kind = Program; lists = lists; body = record { ladder = true; elements = elements } }

-- a function block
abbrev pub block : List ℕ → List VarList → List BodyElement → Pou
block name lists elements = record { name = name; kind = FunctionBlock; lists = lists; body = record { ladder = true; elements = elements } }

-- what was found out about a body: the types of its input pins, its networks, and its marks
pub record Found : Type 0 where
  pub types : List Ty
  pub networks : List (List ℕ)
  pub marks : List Bool

-- the plan of a body
abbrev pub plan_of : Found → BodyPlan
plan_of f = record { networks = f.networks; marks = f.marks }

-- the diagram of these POUs, whose links are theirs
abbrev pub diagram_of : List Pou → List Found → diagram.Project
diagram_of pous found = diagrams_of (record { pous = pous })
    (record { bodies = links_of pous })
    (record { inputs = map (λ (f : Found). f.types) found; wires = [] })
    (record { bodies = map plan_of found })
