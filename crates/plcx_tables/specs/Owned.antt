-- What the code keeps of a POU.
use Rattle.std.specs.Prelude.{◌≡◌, ℕ, List, [], ◌∷◌, ◌++◌, Option, Some, map, filter, if◌then◌else◌}
use Rattle.std.specs.List.{flat_map, AllZip}
use Rattle.plcx_types.specs.Name.{in_lower_case}
use Rattle.plcx_meaning.specs.Base.{Memory, AtEdge, AtOutput}
use Rattle.plcx_meaning.specs.Diagram.{Port, DiagramElement, Pou, Project, has_edge}
use Rattle.plcx_meaning.specs.Layout.{variables_of}
use Rattle.plcx_prepare.specs.Called.{key_of}
use Rattle.plcx_tables.specs.declared.own.Own.{Own}
use Rattle.plcx_tables.specs.declared.variables.Declared.{Declared}
use Rattle.plcx_tables.specs.Named.{NamesTold, MemoriesTold}
use Rattle.plcx_tables.specs.Telling.{Told, told, shown}

-- ---- variables

-- the name of a variable, at its place
abbrev pub variable_name : Declared → Option (List ℕ)
variable_name d = Some d.name.now

-- the names of the in-outs, without case
abbrev pub in_outs_of : List Told → List (List ℕ)
in_outs_of ts = map (λ (t : Told). in_lower_case t.name) (filter (λ (t : Told). t.in_out) ts)

-- ---- memories

-- outputs of an element that feed back
abbrev pub outputs_of : ℕ → List Port → List Memory
outputs_of id ports = map (λ (p : Port). AtOutput id p.pin) ports

-- what an element remembers: the value at its edge, and its outputs that feed back
abbrev pub remembered_by : DiagramElement → List Memory
remembered_by e = (if has_edge e.kind then AtEdge e.id ∷ [] else []) ++ outputs_of e.id e.fed

-- and all elements one after another
abbrev pub remembered : List DiagramElement → List Memory
remembered es = flat_map remembered_by es

-- each has a place
abbrev pub places_of : List Memory → List (Option Memory)
places_of ms = map Some ms

-- ---- POUs

-- this is kept of a POU of the project
pub record IsOwn (project : Project) (p : Pou) (own : Own) : Type 0 where
  pub variables : map shown own.variables.items ≡ map (told project) (variables_of p.lists)
  pub names : NamesTold own.names.numbers.entries own.names.count (map variable_name own.variables.items)
  pub in_outs : map key_of own.in_outs.items ≡ in_outs_of (map shown own.variables.items)
  pub memories : MemoriesTold own.memories.numbers.entries own.memories.count (places_of (remembered p.elements))

-- and of each POU
abbrev pub AreOwn : Project → List Own → Type 0
AreOwn project owns = AllZip (IsOwn project) project owns
