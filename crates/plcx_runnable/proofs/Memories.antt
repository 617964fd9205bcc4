-- The memories of an instance have the types of what is remembered there.
use Rattle.std.proofs.Common.{◌≡◌, ℕ, zero, suc, ◌+◌, ◌<◌, ◌≤◌, Bool, true, false, List, [], ◌∷◌, ◌++◌, length, length-append, map, Option, Some, None, refl, sym, ap, ap₂, ◌∙◌, subst, arith}
use Rattle.std.specs.Prelude.{slice_get, if◌then◌else◌}
use Rattle.std.specs.List.{flat_map, Contains}
use Rattle.std.specs.Str.{bytes_eq}
use Rattle.std.proofs.lemmas.List.{length-map}
use Rattle.std.proofs.lemmas.Option.{same_Some}
use Rattle.std.proofs.lemmas.List.Elements.{Contains-append_left, Contains-append_right}
use Rattle.plcx_types.specs.declared.ty.Ty.{Ty}
use Rattle.plcx_types.specs.declared.ty.Ty.TheVariants as ty
use Rattle.plcx_types.specs.Name.{in_lower_case}
use Rattle.plcx_meaning.specs.Base.{AtEdge, AtOutput, Memory, are_distinct}
use Rattle.plcx_meaning.specs.Layout.{Variable, variables_of, variable_named}
use Rattle.plcx_meaning.specs.Diagram.{Port, has_edge, DiagramElement, Pou, Project}
use Rattle.plcx_meaning.specs.Fits.{PouFits, PouNests, ProjectFits}
use Rattle.plcx_meaning.proofs.Lists.{each_weaker, contains_first, contains_map, contains_flat_map}
use Rattle.plcx_meaning.proofs.Lookups.{map_append, map_flat}
use Rattle.plcx_meaning.proofs.ReadyUnits.{named_each}
use Rattle.plcx_numbered.specs.Agreeing.{AreApart, Cell, plain_memory}
use Rattle.plcx_numbered.specs.Numbers.{element_cells, element_types, cells_behind, user_of, instance_cells, instance_types, cells, cell_types, depth, inner_depth, number_of, same_cell, first_leaf, cell_count}
use Rattle.plcx_numbered.proofs.Numbers.{place_in, there_at}
use Rattle.plcx_numbered.proofs.Leaves.{names_of, AreDistinct, flat_same, past_front, at_front, from_first}
use Rattle.plcx_numbered.proofs.Nested.{steady, cells_steady}
use Rattle.plcx_numbered.proofs.Sources.{cell_right}
use Rattle.plcx_runnable.proofs.Lists.{mapped_at, map_map, flat_all}

-- ---- the memories of elements with their types

-- a memory within an instance, with its type
abbrev pub Kept : Type 0
Kept = Cell × Ty

abbrev fed_kept : ℕ → Port → Kept
fed_kept id o = (([], AtOutput id (in_lower_case o.pin)), o.ty)

abbrev edge_kept : ℕ → Bool → List Kept
edge_kept id b = if b then (([], AtEdge id), ty.Bool) ∷ [] else []

abbrev pub element_kept : DiagramElement → List Kept
element_kept e = edge_kept e.id (has_edge e.kind) ++ map (fed_kept e.id) e.fed

abbrev cell_of : Kept → Cell
cell_of k = k.0

abbrev type_of : Kept → Ty
type_of k = k.1

element_cells_are : (e : DiagramElement) → map cell_of (element_kept e) ≡ element_cells e
element_cells_are e = map_append cell_of (edge_kept e.id (has_edge e.kind)) (map (fed_kept e.id) e.fed) ∙ ap₂ (λ a b. a ++ b) (edge (has_edge e.kind)) (map_map cell_of (fed_kept e.id) e.fed)
  where
    edge : (b : Bool) → map cell_of (edge_kept e.id b) ≡ (if b then ([], AtEdge e.id) ∷ [] else [])
    edge true = refl
    edge false = refl

element_types_are : (e : DiagramElement) → map type_of (element_kept e) ≡ element_types e
element_types_are e = map_append type_of (edge_kept e.id (has_edge e.kind)) (map (fed_kept e.id) e.fed) ∙ ap₂ (λ a b. a ++ b) (edge (has_edge e.kind)) (map_map type_of (fed_kept e.id) e.fed)
  where
    edge : (b : Bool) → map type_of (edge_kept e.id b) ≡ (if b then ty.Bool ∷ [] else [])
    edge true = refl
    edge false = refl

cells_are : (es : List DiagramElement) → map cell_of (flat_map element_kept es) ≡ flat_map element_cells es
cells_are es = map_flat cell_of element_kept es ∙ flat_all _ _ element_cells_are es

types_are : (es : List DiagramElement) → map type_of (flat_map element_kept es) ≡ flat_map element_types es
types_are es = map_flat type_of element_kept es ∙ flat_all _ _ element_types_are es

own_long : (es : List DiagramElement) → length (flat_map element_cells es) ≡ length (flat_map element_types es)
own_long es = ap length (sym (cells_are es)) ∙ length-map (flat_map element_kept es) cell_of ∙ sym (length-map (flat_map element_kept es) type_of) ∙ ap length (types_are es)

-- ---- and those of instances

flat_long : {A B C : Type 0} (f : A → List B) (g : A → List C) → ((x : A) → length (f x) ≡ length (g x)) → (xs : List A) → length (flat_map f xs) ≡ length (flat_map g xs)
flat_long f g same [] = refl
flat_long f g same (x ∷ xs) = length-append (f x) (flat_map f xs) ∙ ap₂ (λ a b. a + b) (same x) (flat_long f g same xs) ∙ sym (length-append (g x) (flat_map g xs))

module _ (project : Project) where
  instance_long : (inner : Pou → List Cell) (types : Pou → List Ty) → ((q : Pou) → length (inner q) ≡ length (types q)) → (v : Variable) → length (instance_cells inner project v) ≡ length (instance_types types project v)
  instance_long inner types same v = by_user (user_of project v)
    where
      by_user : (o : Option Pou) → length (elim o as (λ (x : Option Pou). List Cell) [ Some q ↦ cells_behind (in_lower_case v.name) (inner q) | None ↦ [] ]) ≡ length (elim o as (λ (x : Option Pou). List Ty) [ Some q ↦ types q | None ↦ [] ])
      by_user (Some q) = length-map (inner q) (λ (x : Cell). (x.0 ++ in_lower_case v.name ∷ [], x.1)) ∙ same q
      by_user None = refl

  -- each memory has a type
  pub types_long : (n : ℕ) (p : Pou) → length (cells n project p) ≡ length (cell_types n project p)
  types_long zero p = refl
  types_long (suc n) p =
      length-append (flat_map element_cells p.elements) (flat_map (instance_cells (cells n project) project) (variables_of p.lists))
      ∙ ap₂ (λ a b. a + b) (own_long p.elements) (flat_long _ _ (instance_long (cells n project) (cell_types n project) (types_long n)) (variables_of p.lists))
      ∙ sym (length-append (flat_map element_types p.elements) (flat_map (instance_types (cell_types n project) project) (variables_of p.lists)))

  instance_same : (f g : Pou → List Ty) (v : Variable) → ((q : Pou) → user_of project v ≡ Some q → f q ≡ g q) → instance_types f project v ≡ instance_types g project v
  instance_same f g v same = by_user (user_of project v) same
    where
      by_user : (o : Option Pou) → ((q : Pou) → o ≡ Some q → f q ≡ g q) → ◌≡◌ {A = List Ty} (elim o [ Some q ↦ f q | None ↦ [] ]) (elim o [ Some q ↦ g q | None ↦ [] ])
      by_user None h = refl
      by_user (Some q) h = h q refl

  types_depend : (f g : Pou → List Ty) (p : Pou) → are_distinct (names_of p) ≡ true → ((v : Variable) (q : Pou) → variable_named (in_lower_case v.name) (variables_of p.lists) ≡ Some v → user_of project v ≡ Some q → f q ≡ g q)
      → flat_map element_types p.elements ++ flat_map (instance_types f project) (variables_of p.lists) ≡ flat_map element_types p.elements ++ flat_map (instance_types g project) (variables_of p.lists)
  types_depend f g p apart same =
      ap (λ xs. flat_map element_types p.elements ++ xs)
      (flat_same _ _ (variables_of p.lists) (each_weaker _ _ (variables_of p.lists) (λ v found. instance_same f g v (λ q h. same v q found h)) (named_each (variables_of p.lists) apart)))

  -- so many levels are enough
  pub types_steady : AreDistinct project → (m : ℕ) (p : Pou) → are_distinct (names_of p) ≡ true → PouNests m project p → (i j : ℕ) → m < i → m < j → cell_types i project p ≡ cell_types j project p
  types_steady distinct = steady project distinct (λ f p. flat_map element_types p.elements ++ flat_map (instance_types f project) (variables_of p.lists)) (λ n p. cell_types n project p) (λ n p. refl) types_depend

-- ---- numbers

first_same : (f g : Variable → ℕ) → ((v : Variable) → f v ≡ g v) → (key : List ℕ) (vs : List Variable) → first_leaf f key vs ≡ first_leaf g key vs
first_same f g same key [] = refl
first_same f g same key (v ∷ vs) = ap₂ (λ a b. if bytes_eq (in_lower_case v.name) key then 0 else a + b) (same v) (first_same f g same key vs)

-- what comes of the variable of a name lies within what comes of all
pub first_within : {A : Type 0} (f : Variable → List A) (key : List ℕ) (vs : List Variable) (v : Variable) → variable_named key vs ≡ Some v → first_leaf (λ w. length (f w)) key vs + length (f v) ≤ length (flat_map f vs)
first_within f key [] v h = absurd (cc)
first_within f key (w ∷ vs) v h = by_test (bytes_eq (in_lower_case w.name) key) h (λ found. first_within f key vs v found)
  where
    by_test : (b : Bool) → (if b then Some w else variable_named key vs) ≡ Some v → (variable_named key vs ≡ Some v → first_leaf (λ u. length (f u)) key vs + length (f v) ≤ length (flat_map f vs))
        → (if b then 0 else length (f w) + first_leaf (λ u. length (f u)) key vs) + length (f v) ≤ length (f w ++ flat_map f vs)
    by_test true e rest =
        let both = length-append (f w) (flat_map f vs) in
        let same : length (f w) ≡ length (f v) = ap (λ (u : Variable). length (f u)) (same_Some w v e) in
        omega arith
    by_test false e rest = let both = length-append (f w) (flat_map f vs) in let low = rest e in omega arith

module _ (project : Project) (fits : ProjectFits project) (p : Pou) (one : PouFits project p) (nests : PouNests 16 project p) (es : List DiagramElement) (apart : AreApart (cells depth project p)) where
  -- a memory of an element has its type
  pub memory_typed : (k : Memory) (t : Ty) → Contains (flat_map element_kept p.elements) (([], plain_memory k), t) → slice_get (cell_types depth project p) (number_of same_cell (flat_map element_cells p.elements) ([], k)) ≡ Some t
  memory_typed k t h =
      let at = place_in (flat_map element_kept p.elements) (([], plain_memory k), t) h in
      let own : slice_get (flat_map element_cells p.elements) at.0 ≡ Some ([], plain_memory k) =
      ap (λ l. slice_get l at.0) (sym (cells_are p.elements)) ∙ mapped_at cell_of (flat_map element_kept p.elements) at.0 (([], plain_memory k), t) at.1 in
      let there = cell_right project fits p one nests es 0 k (there_at (flat_map element_cells p.elements) at.0 ([], plain_memory k) own) in
      let same = apart.apart at.0 (number_of same_cell (flat_map element_cells p.elements) ([], k)) ([], plain_memory k)
      (at_front (flat_map element_cells p.elements) (flat_map (instance_cells (cells inner_depth project) project) (variables_of p.lists)) at.0 ([], plain_memory k) own) there in
      ap (slice_get (cell_types depth project p)) (sym same)
      ∙ at_front (flat_map element_types p.elements) (flat_map (instance_types (cell_types inner_depth project) project) (variables_of p.lists)) at.0 t
      (ap (λ l. slice_get l at.0) (sym (types_are p.elements)) ∙ mapped_at type_of (flat_map element_kept p.elements) at.0 (([], plain_memory k), t) at.1)

  pub edge_typed : (e : DiagramElement) → Contains p.elements e → has_edge e.kind ≡ true → slice_get (cell_types depth project p) (number_of same_cell (flat_map element_cells p.elements) ([], AtEdge e.id)) ≡ Some ty.Bool
  edge_typed e there h =
      memory_typed (AtEdge e.id) ty.Bool
      (contains_flat_map element_kept p.elements e (([], AtEdge e.id), ty.Bool) there
      (Contains-append_left (edge_kept e.id (has_edge e.kind)) (map (fed_kept e.id) e.fed) (([], AtEdge e.id), ty.Bool)
      (subst (λ b. Contains {X = Kept} (edge_kept e.id b) (([], AtEdge e.id), ty.Bool)) (sym h) (contains_first (([], AtEdge e.id), ty.Bool) []))))

  pub fed_typed : (e : DiagramElement) → Contains p.elements e → (o : Port) → Contains e.fed o → slice_get (cell_types depth project p) (number_of same_cell (flat_map element_cells p.elements) ([], AtOutput e.id o.pin)) ≡ Some o.ty
  fed_typed e there o h =
      memory_typed (AtOutput e.id o.pin) o.ty
      (contains_flat_map element_kept p.elements e (fed_kept e.id o) there (Contains-append_right (edge_kept e.id (has_edge e.kind)) (map (fed_kept e.id) e.fed) (fed_kept e.id o) (contains_map (fed_kept e.id) e.fed o h)))

  -- the memories of an instance stand with their types within those of its owner
  pub instance_memories : AreDistinct project → (key : List ℕ) (v : Variable) → variable_named key (variables_of p.lists) ≡ Some v → (q : Pou) → user_of project v ≡ Some q → are_distinct (names_of q) ≡ true → PouNests 15 project q
      → (i : ℕ) (t : Ty) → slice_get (cell_types depth project q) i ≡ Some t
      → slice_get (cell_types depth project p) (length (flat_map element_cells p.elements) + first_leaf (cell_count project) key (variables_of p.lists) + i) ≡ Some t
  instance_memories distinct key v found q user names below i t h =
      let own = flat_map element_types p.elements in
      let inner = instance_types (cell_types inner_depth project) project in
      let n = first_leaf (cell_count project) key (variables_of p.lists) in
      let first : n ≡ first_leaf (λ w. length (inner w)) key (variables_of p.lists) = first_same _ _ (instance_long project (cells inner_depth project) (cell_types inner_depth project) (types_long project inner_depth)) key (variables_of p.lists) in
      let are : inner v ≡ cell_types inner_depth project q = ap (λ o. elim o as (λ (x : Option Pou). List Ty) [ Some r ↦ cell_types inner_depth project r | None ↦ [] ]) user in
      let same : cell_types inner_depth project q ≡ cell_types depth project q = types_steady project distinct 15 q names below 17 18 (omega arith) (omega arith) in
      ap (slice_get (own ++ flat_map inner (variables_of p.lists))) (ap (λ m. m + n + i) (own_long p.elements) ∙ (let z : length own + n + i ≡ length own + (n + i) = omega arith in z) ∙ ap (λ m. length own + (m + i)) first)
      ∙ past_front own (flat_map inner (variables_of p.lists)) _
      ∙ from_first inner key (variables_of p.lists) v found i t (ap (λ l. slice_get l i) (are ∙ same) ∙ h)

  -- and lie within them
  pub memories_within : AreDistinct project → (key : List ℕ) (v : Variable) → variable_named key (variables_of p.lists) ≡ Some v → (q : Pou) → user_of project v ≡ Some q → are_distinct (names_of q) ≡ true → PouNests 15 project q
      → length (flat_map element_cells p.elements) + first_leaf (cell_count project) key (variables_of p.lists) + length (cells depth project q) ≤ length (cells depth project p)
  memories_within distinct key v found q user names below =
      let own = flat_map element_cells p.elements in
      let inner = instance_cells (cells inner_depth project) project in
      let are : length (inner v) ≡ length (cells inner_depth project q) =
      ap (λ o. length (elim o as (λ (x : Option Pou). List Cell) [ Some r ↦ cells_behind (in_lower_case v.name) (cells inner_depth project r) | None ↦ [] ])) user ∙ length-map (cells inner_depth project q) (λ (x : Cell). (x.0 ++ in_lower_case v.name ∷ [], x.1)) in
      let same : length (cells inner_depth project q) ≡ length (cells depth project q) = ap length (cells_steady project distinct 15 q names below 17 18 (omega arith) (omega arith)) in
      let low = first_within inner key (variables_of p.lists) v found in
      let both = length-append own (flat_map inner (variables_of p.lists)) in
      omega arith
