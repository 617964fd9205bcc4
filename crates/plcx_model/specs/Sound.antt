-- What the checks from rule 20 on may presume of a project.
use Rattle.std.specs.Prelude.{◌≡◌, ◌≢◌, ℕ, zero, suc, ◌+◌, ◌^◌, ◌<◌, ◌≤◌, true, false, length, List, [], ◌∷◌, ◌++◌, map, filter_map, Option, Some, None, AllPairs, sum_by, slice_get}
use Rattle.std.specs.List.{flat_map}
use Rattle.plcx_types.specs.Address.{AddressFits}
use Rattle.plcx_types.specs.Limits.{max_pous, max_variables, max_elements, max_connections, max_pin_connections, max_pins, max_instance_chain, max_leaves, max_parts, max_declared_name_bytes}
use Rattle.plcx_types.specs.Name.{is_identifier, in_lower_case}
use Rattle.plcx_types.specs.Range.{InRange}
use Rattle.plcx_types.specs.Reserved.{is_reserved}
use Rattle.plcx_types.specs.Value.{Value}
use Rattle.plcx_std.specs.Pins.{pins}
use Rattle.plcx_types.specs.Lists.{Each}
use Rattle.plcx_model.specs.declared.body.Connection.{Connection}
use Rattle.plcx_model.specs.declared.body.PinIn.{PinIn}
use Rattle.plcx_model.specs.declared.body.Kind.{Kind}
use Rattle.plcx_model.specs.declared.body.Kind.TheVariants as kind
use Rattle.plcx_model.specs.declared.body.BodyElement.{BodyElement}
use Rattle.plcx_model.specs.declared.body.Body.{Body}
use Rattle.plcx_model.specs.declared.project.PouKind.{PouKind}
use Rattle.plcx_model.specs.declared.project.PouKind.TheVariants.{Program, FunctionBlock}
use Rattle.plcx_model.specs.declared.project.ListClass.{ListClass}
use Rattle.plcx_model.specs.declared.project.ListClass.TheVariants.{Local, InOut}
use Rattle.plcx_model.specs.declared.project.VarTy.{VarTy}
use Rattle.plcx_model.specs.declared.project.VarTy.TheVariants.{Plain, Std, Block}
use Rattle.plcx_model.specs.declared.project.Variable.{Variable}
use Rattle.plcx_model.specs.declared.project.VarList.{VarList}
use Rattle.plcx_model.specs.declared.project.Pou.{Pou}
use Rattle.plcx_model.specs.declared.project.Project.{Project}

-- the variables of a POU, in the order of the file
abbrev pub variables_of : Pou → List Variable
variables_of p = flat_map (λ (list : VarList). list.variables) p.lists

-- the addresses of all variables
abbrev pub addresses_of : List Pou → List (List ℕ)
addresses_of pous = filter_map (λ (v : Variable). v.address) (flat_map variables_of pous)

-- a name that a diagram may declare
pub record IsDeclarable (name : List ℕ) : Type 0 where
  pub identifier : is_identifier name ≡ true
  pub short : length name ≤ max_declared_name_bytes
  pub free : is_reserved name ≡ false

-- a type is an elementary one, a standard block or a function block of the project
abbrev pub IsKnown : List Pou → VarTy → Type 0
IsKnown pous (Block place) = (p : Pou) × (slice_get pous place ≡ Some p) × (p.kind ≡ FunctionBlock)
IsKnown pous _ = Unit {0}

-- an instance stands in a local list that isn't constant
abbrev pub MayHold : VarList → VarTy → Type 0
MayHold list (Plain t) = Unit {0}
MayHold list _ = (list.class ≡ Local) × (list.constant ≡ false)

-- an initial value is one of the variable's type, which is elementary
abbrev pub InitialSuits : VarTy → Option Value → Type 0
InitialSuits t None = Unit {0}
InitialSuits (Plain t) (Some v) = (v.ty ≡ t) × InRange t v.n
InitialSuits _ (Some v) = ⊥

-- At most so many instances of function blocks stand in one another where a variable has this type, itself among them.
abbrev pub Nests : List Pou → ℕ → VarTy → Type 0
Nests pous zero (Block place) = ⊥
Nests pous (suc n) (Block place) = (p : Pou) → slice_get pous place ≡ Some p → Each (λ (v : Variable). Nests pous n v.ty) (variables_of p)
Nests pous n (Plain t) = Unit {0}
Nests pous n (Std k) = Unit {0}

-- what is promised of a variable in its list
pub record VariableIsSound (pous : List Pou) (list : VarList) (v : Variable) : Type 0 where
  pub name : IsDeclarable v.name
  pub known : IsKnown pous v.ty
  pub instance : MayHold list v.ty
  pub initial : InitialSuits v.ty v.initial
  pub address : AddressFits v.address
  pub nests : Nests pous max_instance_chain v.ty
  -- an in-out has neither an address nor an initial value
  pub in_out : list.class ≡ InOut → (v.address ≡ None) × (v.initial ≡ None)

-- what is promised of a list of a POU of this kind
pub record ListIsSound (pous : List Pou) (pou_kind : PouKind) (list : VarList) : Type 0 where
  pub variables : Each (VariableIsSound pous list) list.variables
  pub marks : list.constant ≡ true → list.retain ≡ false
  -- in-outs have no marks, and stand in function blocks alone
  pub in_out_marks : list.class ≡ InOut → (list.constant ≡ false) × (list.retain ≡ false)
  pub in_outs : list.class ≡ InOut → pou_kind ≡ Program → list.variables ≡ []

-- the connections of an element, by its pins: those of a right rail stand together
abbrev pub connections_of : Kind → List (List Connection)
connections_of (kind.RightRail input) = input ∷ []
connections_of (kind.Contact input text mods) = input ∷ []
connections_of (kind.Coil input text mods) = input ∷ []
connections_of (kind.Out input text mods) = input ∷ []
connections_of (kind.Block type_name instance inputs in_outs outputs) = map (λ (p : PinIn). p.input) inputs ++ map (λ (p : PinIn). p.input) in_outs
connections_of (kind.Connector name input) = input ∷ []
connections_of (kind.Jump label input) = input ∷ []
connections_of (kind.Return input) = input ∷ []
connections_of _ = []

-- how many connections an element has
abbrev pub connections : BodyElement → ℕ
connections e = sum_by (λ (pin : List Connection). length pin) (connections_of e.kind)

-- at a pin that isn't a right rail's stand few connections, and in a list of a block few pins
abbrev pub PinsAreFew : Kind → Type 0
PinsAreFew (kind.RightRail input) = Unit {0}
PinsAreFew (kind.Block type_name instance inputs in_outs outputs) =
    (length inputs ≤ max_pins) × (length in_outs ≤ max_pins)
    × Each (λ (p : PinIn). length p.input ≤ max_pin_connections) inputs × Each (λ (p : PinIn). length p.input ≤ max_pin_connections) in_outs
PinsAreFew k = Each (λ (pin : List Connection). length pin ≤ max_pin_connections) (connections_of k)

-- what is promised of a body
pub record BodyIsSound (body : Body) : Type 0 where
  pub elements : length body.elements ≤ max_elements
  pub connections : sum_by connections body.elements ≤ max_connections
  pub pins : Each (λ (e : BodyElement). PinsAreFew e.kind) body.elements
  pub ids : Each (λ (e : BodyElement). e.local_id < 2 ^ 64) body.elements

-- what is counted of a POU, where there is one
abbrev pub count_at : (Pou → ℕ) → Option Pou → ℕ
count_at count None = 0
count_at count (Some p) = count p

-- the leaves of a type, where those of POUs are known
abbrev pub type_leaves : (Pou → ℕ) → List Pou → VarTy → ℕ
type_leaves inner pous (Plain t) = 1
type_leaves inner pous (Std k) = length (pins k)
type_leaves inner pous (Block place) = count_at inner (slice_get pous place)

-- an in-out is no leaf
abbrev pub list_leaves : (Pou → ℕ) → List Pou → ListClass → List Variable → ℕ
list_leaves inner pous InOut vs = 0
list_leaves inner pous _ vs = sum_by (λ (v : Variable). type_leaves inner pous v.ty) vs

-- the leaves of a POU and of its instances, so many levels deep
abbrev pub leaves : List Pou → ℕ → Pou → ℕ
leaves pous zero p = 0
leaves pous (suc n) p = sum_by (λ (list : VarList). list_leaves (leaves pous n) pous list.class list.variables) p.lists

-- an instance is a part, and has those of its block; a standard block has none
abbrev pub type_parts : (Pou → ℕ) → List Pou → VarTy → ℕ
type_parts inner pous (Plain t) = 0
type_parts inner pous (Std k) = 1
type_parts inner pous (Block place) = suc (count_at inner (slice_get pous place))

-- the parts of a POU and of its instances, so many levels deep: elements, connections and instances
abbrev pub parts : List Pou → ℕ → Pou → ℕ
parts pous zero p = 0
parts pous (suc n) p =
    length p.body.elements + sum_by connections p.body.elements + sum_by (λ (v : Variable). type_parts (parts pous n) pous v.ty) (variables_of p)

-- what is promised of a POU
pub record PouIsSound (pous : List Pou) (p : Pou) : Type 0 where
  pub name : IsDeclarable p.name
  pub lists : Each (ListIsSound pous p.kind) p.lists
  pub names : AllPairs (λ (x y : List ℕ). x ≢ y) (map (λ (v : Variable). in_lower_case v.name) (variables_of p))
  pub variables : length (variables_of p) ≤ max_variables
  pub body : BodyIsSound p.body
  pub leaves : leaves pous (suc max_instance_chain) p ≤ max_leaves
  pub parts : parts pous (suc max_instance_chain) p ≤ max_parts

-- What link, typing and check may presume of a project: it breaks none of the rules 10 to 16 and passes no limit.
pub record Sound (project : Project) : Type 0 where
  pub few : length project.pous ≤ max_pous
  pub names : AllPairs (λ (x y : List ℕ). x ≢ y) (map (λ (p : Pou). in_lower_case p.name) project.pous)
  pub pous : Each (PouIsSound project.pous) project.pous
  pub addresses : AllPairs (λ (x y : List ℕ). x ≢ y) (addresses_of project.pous)
