-- The numbers of a project's leaves, memories and wires, by what is declared.
use Rattle.std.specs.Prelude.{ℕ, zero, suc, ◌+◌, Bool, ◌&&◌, List, [], ◌∷◌, ◌++◌, Option, Some, None, length, map, filter, nat_eq, max, if◌then◌else◌}
use Rattle.std.specs.List.{flat_map}
use Rattle.std.specs.Str.{bytes_eq}
use Rattle.plcx_types.specs.declared.ty.Ty.{Ty}
use Rattle.plcx_types.specs.declared.ty.Ty.TheVariants as ty
use Rattle.plcx_types.specs.Name.{in_lower_case}
use Rattle.plcx_types.specs.TypeName.{type_named}
use Rattle.plcx_std.specs.declared.kind.StdKind.TheVariants as kind
use Rattle.plcx_std.specs.Kind.{kind_named}
use Rattle.plcx_meaning.specs.Base.{Path, AtEdge, AtOutput, same_memory, same_path}
use Rattle.plcx_meaning.specs.Layout.{Variable, variables_of, variable_named, World, Elementary, Composed, meaning, parts_of, is_kept}
use Rattle.plcx_meaning.specs.Diagram.{Port, ports, has_edge, DiagramElement, Pou, Project, block_named}
use Rattle.plcx_meaning.specs.Evaluate.{is_in_out, place_named, world_of}
use Rattle.plcx_steps.specs.declared.program.Operand.TheVariants.{Leaf, InOut}
use Rattle.plcx_numbered.specs.Agreeing.{Cell, Pin, Shape}
use Rattle.plcx_numbered.specs.Prepared.{Callee, Block, User, Numbering, spares}
use Rattle.plcx_numbered.specs.Right.{Plan, place}
use Rattle.plcx_numbered.specs.Right.{Place as Standing}

-- ---- leaves

-- a leaf within an instance, with its type
abbrev pub Place : Type 0
Place = Path × Ty

-- what lies within an instance of this name
abbrev pub behind : List ℕ → List Place → List Place
behind name places = map (λ (x : Place). (x.0 ++ name ∷ [], x.1)) places

-- the leaves of a variable, where inner gives those of the variables of an instance
abbrev pub variable_places : (List Variable → List Place) → World → Variable → List Place
variable_places inner world v = if is_kept v.class
    then (elim (meaning world v.ty) [ Elementary t ↦ (in_lower_case v.name ∷ [], t) ∷ [] | Composed vs ↦ behind (in_lower_case v.name) (inner vs) ])
    else []

-- the leaves of variables in their order, so many levels deep
abbrev pub places : ℕ → World → List Variable → List Place
places zero world vs = []
places (suc n) world vs = flat_map (variable_places (places n world) world) vs

-- how many leaves stand before those of the variable of a name
abbrev pub first_leaf : (Variable → ℕ) → List ℕ → List Variable → ℕ
first_leaf count key [] = 0
first_leaf count key (v ∷ vs) = if bytes_eq (in_lower_case v.name) key then 0 else count v + first_leaf count key vs

-- ---- memories

-- the memories of an element: that at its edge, and those of its outputs that feed back
abbrev pub element_cells : DiagramElement → List Cell
element_cells e = (if has_edge e.kind then ([], AtEdge e.id) ∷ [] else []) ++ map (λ (p : Port). ([], AtOutput e.id (in_lower_case p.pin))) e.fed

-- what lies within an instance of this name
abbrev pub cells_behind : List ℕ → List Cell → List Cell
cells_behind name cells = map (λ (x : Cell). (x.0 ++ name ∷ [], x.1)) cells

-- the block of the project that the variable is an instance of, if it is one
abbrev pub user_of : Project → Variable → Option Pou
user_of project v = elim (type_named v.ty) [ Some t ↦ None | None ↦ elim (kind_named v.ty) [ Some k ↦ None | None ↦ block_named v.ty project ] ]

-- the memories of such an instance
abbrev pub instance_cells : (Pou → List Cell) → Project → Variable → List Cell
instance_cells inner project v = elim (user_of project v) [ Some q ↦ cells_behind (in_lower_case v.name) (inner q) | None ↦ [] ]

-- the memories of a POU's elements, and behind them those of its instances, so many levels deep
abbrev pub cells : ℕ → Project → Pou → List Cell
cells zero project p = []
cells (suc n) project p = flat_map element_cells p.elements ++ flat_map (instance_cells (cells n project) project) (variables_of p.lists)

-- the types of what an element remembers, in the same order
abbrev pub element_types : DiagramElement → List Ty
element_types e = (if has_edge e.kind then ty.Bool ∷ [] else []) ++ map (λ (p : Port). p.ty) e.fed

-- the types of the memories of an instance
abbrev pub instance_types : (Pou → List Ty) → Project → Variable → List Ty
instance_types inner project v = elim (user_of project v) [ Some q ↦ inner q | None ↦ [] ]

-- the types of the memories of a POU, in the order of its cells
abbrev pub cell_types : ℕ → Project → Pou → List Ty
cell_types zero project p = []
cell_types (suc n) project p = flat_map element_types p.elements ++ flat_map (instance_types (cell_types n project) project) (variables_of p.lists)

-- ---- levels

-- the greatest number that one of the variables has
abbrev pub highest : (Variable → ℕ) → List Variable → ℕ
highest f [] = 0
highest f (v ∷ vs) = max (f v) (highest f vs)

-- one level more than the block of the project that the variable is an instance of
abbrev pub instance_level : (Pou → ℕ) → Project → Variable → ℕ
instance_level inner project v = elim (user_of project v) [ Some q ↦ suc (inner q) | None ↦ 0 ]

-- how many levels of blocks are below a POU, so many at most
abbrev pub level : ℕ → Project → Pou → ℕ
level zero project p = 0
level (suc n) project p = highest (instance_level (level n project) project) (variables_of p.lists)

-- ---- keys by their numbers

-- the number of the first key that is the same, counted from 0
abbrev pub number_of : {K : Type 0} → (K → K → Bool) → List K → K → ℕ
number_of same [] k = 0
number_of same (x ∷ xs) k = if same x k then 0 else number_of same xs k + 1

abbrev pub same_cell : Cell → Cell → Bool
same_cell x y = same_path x.0 y.0 && same_memory x.1 y.1

abbrev pub same_pin : Pin → Pin → Bool
same_pin x y = nat_eq x.0 y.0 && bytes_eq (in_lower_case x.1) (in_lower_case y.1)

-- the outputs of elements, which are the first wires of a network
abbrev pub pins_of : List DiagramElement → List Pin
pins_of es = flat_map (λ (e : DiagramElement). map (λ (p : Port). (e.id, in_lower_case p.pin)) (ports e.kind)) es

-- how many spare wires stand behind them
abbrev pub spare_wires : List DiagramElement → ℕ
spare_wires [] = 0
spare_wires (e ∷ es) = max (spares e.kind) (spare_wires es)

-- ---- POUs

-- the names of the in-outs among variables, without case
abbrev pub in_out_names : List Variable → List (List ℕ)
in_out_names vs = map (λ (v : Variable). in_lower_case v.name) (filter (λ v. is_in_out (Some v)) vs)

-- a program has 16 levels of instances at most, and a standard block below them
abbrev pub depth : ℕ
depth = 18

abbrev pub inner_depth : ℕ
inner_depth = 17

abbrev pub places_of : Project → List Variable → List Place
places_of project vs = places depth (world_of project) vs

-- the shape of the instances of a POU
abbrev pub shape_of : Project → Pou → Shape
shape_of project p = record { paths = map (λ (x : Place). x.0) (places_of project (variables_of p.lists)); cells = cells depth project p }

-- how many leaves a variable has, and how many memories
abbrev pub leaf_count : Project → Variable → ℕ
leaf_count project v = length (variable_places (places inner_depth (world_of project)) (world_of project) v)

abbrev pub cell_count : Project → Variable → ℕ
cell_count project v = length (instance_cells (cells inner_depth project) project v)

-- what an instance of a type calls
abbrev pub callee_of : Project → Pou → List ℕ → Option Variable → Callee
callee_of project p key None = Block kind.Ton 0
callee_of project p key (Some v) = elim (kind_named v.ty) [
  | Some k ↦ Block k (first_leaf (leaf_count project) key (variables_of p.lists))
  | None ↦ User (place_named v.ty project)
      (first_leaf (leaf_count project) key (variables_of p.lists))
      (length (flat_map element_cells p.elements) + first_leaf (cell_count project) key (variables_of p.lists))
      (elim (block_named v.ty project) [ Some q ↦ in_out_names (variables_of q.lists) | None ↦ [] ])
]

-- the numbers that a network of a POU uses
abbrev pub numbering : Project → Pou → List DiagramElement → Numbering
numbering project p es = record {
  wire = λ id pin. number_of same_pin (pins_of es) (id, pin);
  spare = length (pins_of es);
  operand = λ x. if is_in_out (variable_named (in_lower_case x) (variables_of p.lists))
      then InOut (number_of bytes_eq (in_out_names (variables_of p.lists)) (in_lower_case x))
      else Leaf (first_leaf (leaf_count project) (in_lower_case x) (variables_of p.lists));
  inner = λ i x.
      first_leaf (leaf_count project) (in_lower_case i) (variables_of p.lists)
      + first_leaf (leaf_count project) (in_lower_case x) (parts_of (world_of project) (variable_named (in_lower_case i) (variables_of p.lists)));
  memory = λ k. number_of same_cell (flat_map element_cells p.elements) ([], k);
  callee = λ i. callee_of project p (in_lower_case i) (variable_named (in_lower_case i) (variables_of p.lists));
}

-- what is known of a POU
abbrev pub plan_of : Project → Pou → Plan
plan_of project p = record { pou = p; level = level inner_depth project p; shape = shape_of project p; in_outs = in_out_names (variables_of p.lists) }

-- and of each POU, in the order of the project
abbrev pub plans_of : Project → List Plan
plans_of project = map (plan_of project) project

-- where a network is prepared, with so many wires
abbrev pub place_of : Project → Pou → List DiagramElement → ℕ → Standing
place_of project p es width = place project (plans_of project) (plan_of project p) (numbering project p es) (pins_of es) width
