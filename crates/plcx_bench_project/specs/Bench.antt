-- The project of `bench N`.
use Rattle.std.specs.Prelude.{◌≡◌, ◌≤◌, ◌+◌, ◌*◌, ◌%◌, ℕ, pos, false, List, [], ◌∷◌, ◌++◌, map, None, codes}
use Rattle.std.specs.List.{flat_map, range_with_len}
use Rattle.std.specs.Fmt.{decimal}
use Rattle.plcx_types.specs.declared.ty.Ty.TheVariants as ty
use Rattle.plcx_model.specs.declared.body.Edge.TheVariants as edge
use Rattle.plcx_model.specs.declared.body.Storage.TheVariants as storage
use Rattle.plcx_model.specs.declared.body.Mods.{Mods}
use Rattle.plcx_model.specs.declared.body.Connection.{Connection}
use Rattle.plcx_model.specs.declared.body.PinIn.{PinIn}
use Rattle.plcx_model.specs.declared.body.Kind.{Kind}
use Rattle.plcx_model.specs.declared.body.Kind.TheVariants as kind
use Rattle.plcx_model.specs.declared.body.BodyElement.{BodyElement}
use Rattle.plcx_model.specs.declared.project.PouKind.TheVariants.{Program}
use Rattle.plcx_model.specs.declared.project.ListClass.TheVariants.{Local}
use Rattle.plcx_model.specs.declared.project.VarTy.TheVariants.{Plain}
use Rattle.plcx_model.specs.declared.project.Variable.{Variable}
use Rattle.plcx_model.specs.declared.project.VarList.{VarList}
use Rattle.plcx_model.specs.declared.project.Pou.{Pou}
use Rattle.plcx_model.specs.declared.project.Project.{Project}

-- how many networks a measured project may have
pub record IsMeasured (n : ℕ) : Type 0 where
  pub some : 1 ≤ n
  pub few : n ≤ 1000

-- the name of a variable, from V0 on
abbrev pub variable_name : ℕ → List ℕ
variable_name i = codes "V" ++ decimal i

-- the variable that takes the sum of the i-th network: the next one, behind the last the first
abbrev pub next_name : ℕ → ℕ → List ℕ
next_name n i = variable_name ((i + 1) % n)

-- the number of an element of the i-th network, from 1 on
abbrev pub id_in : ℕ → ℕ → ℕ
id_in i place = 4 * i + place

-- no modifier
abbrev pub plain : Mods
plain = record { negated = false; edge = edge.Plain; storage = storage.Plain }

-- an element of the i-th network, which stands i units from the top
abbrev pub element_in : ℕ → ℕ → Kind → BodyElement
element_in i place k = record { local_id = id_in i place; order = None; x = pos 0; y = pos (i * 1000000); kind = k }

-- one connection, to an output of this name
abbrev pub to : ℕ → List ℕ → List Connection
to id formal = record { element = id; formal = formal } ∷ []

-- an input of the addition
abbrev pub term : List ℕ → ℕ → PinIn
term formal id = record { formal = formal; mods = plain; input = to id [] }

-- the i-th of n networks: a variable and 1 are added, and the sum is given to the next variable
abbrev pub network : ℕ → ℕ → List BodyElement
network n i =
    element_in i 1 (kind.In (variable_name i) plain)
    ∷ element_in i 2 (kind.In (codes "DINT#1") plain)
    ∷ element_in i 3 (kind.Block (codes "ADD") None (term (codes "IN1") (id_in i 1) ∷ term (codes "IN2") (id_in i 2) ∷ []) [] (record { formal = codes "OUT"; mods = plain } ∷ []))
    ∷ element_in i 4 (kind.Out (to (id_in i 3) (codes "OUT")) (next_name n i) plain)
    ∷ []

-- a variable of the ring
abbrev pub variable : ℕ → Variable
variable i = record { name = variable_name i; address = None; ty = Plain ty.Dint; initial = None }

-- the variables in their order
abbrev pub ring_variables : ℕ → List Variable
ring_variables n = map variable (range_with_len 0 n)

-- the elements, network by network
abbrev pub ring_elements : ℕ → List BodyElement
ring_elements n = flat_map (network n) (range_with_len 0 n)

-- the program of n networks
abbrev pub ring : ℕ → Pou
ring n = record {
  name = codes "Bench";
  kind = Program;
  lists = record { class = Local; constant = false; retain = false; variables = ring_variables n } ∷ [];
  body = record { ladder = false; elements = ring_elements n };
}

-- the project that is measured with n networks
abbrev pub IsBench : ℕ → Project → Type 0
IsBench n project = project ≡ record { pous = ring n ∷ [] }
