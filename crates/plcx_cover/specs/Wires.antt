-- The wires of a project: the outputs of its elements.
use Rattle.std.specs.Prelude.{ℕ, ◌+◌, List, [], ◌∷◌, ◌++◌}
use Rattle.std.specs.List.{flat_map}
use Rattle.plcx_types.specs.declared.ty.Ty.{Ty}
use Rattle.plcx_meaning.specs.Diagram.{Port, ports, DiagramElement, Pou, Project}

-- An output of an element: the place of the POU in the project and its name, the element, the output's number among the element's and the name of
-- its pin, and its type.
pub record Wire : Type 0 where
  pub pou : ℕ
  pub name : List ℕ
  pub id : ℕ
  pub number : ℕ
  pub pin : List ℕ
  pub ty : Ty

-- the outputs of an element, which are counted from a number on
abbrev pub wires_from : (pou : ℕ) → (name : List ℕ) → (id number : ℕ) → List Port → List Wire
wires_from pou name id n [] = []
wires_from pou name id n (p ∷ ps) = record { pou = pou; name = name; id = id; number = n; pin = p.pin; ty = p.ty } ∷ wires_from pou name id (n + 1) ps

-- those of an element of a POU, and of all its elements in the order of the file
abbrev pub element_wires : (pou : ℕ) → (name : List ℕ) → DiagramElement → List Wire
element_wires pou name e = wires_from pou name e.id 0 (ports e.kind)

abbrev pub pou_wires : ℕ → Pou → List Wire
pou_wires pou p = flat_map (element_wires pou p.name) p.elements

-- those of POUs, which are counted from a place on
abbrev pub pous_wires : ℕ → List Pou → List Wire
pous_wires pou [] = []
pous_wires pou (p ∷ ps) = pou_wires pou p ++ pous_wires (pou + 1) ps

-- the wires of a project, in the order of POUs, elements and outputs
abbrev pub wires_of : Project → List Wire
wires_of project = pous_wires 0 project
