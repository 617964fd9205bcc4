-- The diagram of a checked project.
use Rattle.std.specs.Prelude.{ℕ, ◌+◌, List, [], ◌∷◌, map, filter, take, drop, slice_get, get_or}
use Rattle.std.specs.List.{filter_map}
use Rattle.plcx_types.specs.declared.ty.Ty.{Ty}
use Rattle.plcx_meaning.specs.Diagram as diagram
use Rattle.plcx_meaning.specs.Diagram.{DiagramElement, ports, is_fed}
use Rattle.plcx_model.specs.declared.body.BodyElement.{BodyElement}
use Rattle.plcx_model.specs.declared.source.Source.{Source}
use Rattle.plcx_model.specs.declared.plan.Links.{Links}
use Rattle.plcx_model.specs.declared.plan.Types.{Types}
use Rattle.plcx_model.specs.declared.plan.BodyPlan.{BodyPlan}
use Rattle.plcx_model.specs.declared.plan.Plan.{Plan}
use Rattle.plcx_model.specs.declared.project.Pou.{Pou}
use Rattle.plcx_model.specs.declared.project.Project.{Project}
use Rattle.plcx_model.specs.Numbering.{pins_of}
use Rattle.plcx_view.specs.Pins.{Pin, pins_from}
use Rattle.plcx_view.specs.Declared.{kind_of_pou, lists_of}
use Rattle.plcx_view.specs.Kinds.{kind_of}

-- an element by its localId, before it is known which of its outputs feed back
abbrev pub element_of : List Pou → Pou → List Pin → BodyElement → DiagramElement
element_of pous p pins e = record { id = e.local_id; kind = kind_of pous p pins e.kind; fed = [] }

-- the elements of a body in the order of the file, each with its own pins, which come first in the list of pins
abbrev pub elements_from : List Pou → Pou → List Pin → List BodyElement → List DiagramElement
elements_from pous p pins [] = []
elements_from pous p pins (e ∷ es) = element_of pous p (take (pins_of e.kind) pins) e ∷ elements_from pous p (drop (pins_of e.kind) pins) es

-- a POU with its elements, and without networks
abbrev pub without_networks : List Pou → Pou → List DiagramElement → diagram.Pou
without_networks pous p elements = record { kind = kind_of_pou p.kind; name = p.name; lists = lists_of pous p; elements = elements; networks = [] }

-- an element, and those of its outputs that elements of the POU read as ones that feed back, in the order of its outputs
abbrev pub with_fed : diagram.Pou → DiagramElement → DiagramElement
with_fed p e = record e { fed = filter (is_fed p e.id) (ports e.kind) }

-- the elements of a body, whose input pins are these
abbrev pub elements_of : List Pou → Pou → List Pin → List DiagramElement
elements_of pous p pins =
    let bare = elements_from pous p pins p.body.elements in
    map (with_fed (without_networks pous p bare)) bare

-- the elements at these places
abbrev pub network_of : List DiagramElement → List ℕ → List DiagramElement
network_of elements places = filter_map (slice_get elements) places

-- a POU whose elements are these, with its networks
abbrev pub with_networks : List Pou → Pou → List DiagramElement → List (List ℕ) → diagram.Pou
with_networks pous p elements networks = record (without_networks pous p elements) { networks = map (network_of elements) networks }

-- a POU with what was found out about its body
abbrev pub pou_of : List Pou → Pou → List (List Source) → List Ty → BodyPlan → diagram.Pou
pou_of pous p sources types plan = with_networks pous p (elements_of pous p (pins_from types sources plan.marks)) plan.networks

-- the plan of a body of which nothing is known
abbrev pub no_plan : BodyPlan
no_plan = record { networks = []; marks = [] }

-- the POUs from this place on
abbrev pub pous_from : Project → Links → Types → Plan → ℕ → List Pou → diagram.Project
pous_from project links types plan place [] = []
pous_from project links types plan place (p ∷ ps) =
    pou_of project.pous p (get_or links.bodies place []) (get_or types.inputs place []) (get_or plan.bodies place no_plan)
    ∷ pous_from project links types plan (place + 1) ps

-- the diagram of a project, with its links, types and plan
abbrev pub diagrams_of : Project → Links → Types → Plan → diagram.Project
diagrams_of project links types plan = pous_from project links types plan 0 project.pous
