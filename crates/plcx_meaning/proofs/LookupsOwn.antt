-- What each of the compiler's own names means in the text of a diagram.
use Rattle.std.proofs.Common.{◌≡◌, ℕ, ◌<◌, ◌^◌, inl, inr, Bool, true, false, List, [], ◌∷◌, ◌++◌, map, Some, None, refl, ap, ◌∙◌, subst}
use Rattle.std.specs.Prelude.{nat_eq, if◌then◌else◌}
use Rattle.std.specs.List.{flat_map, Contains}
use Rattle.std.specs.Str.{bytes_eq}
use Rattle.std.proofs.lemmas.Bool.{and_left, and_right}
use Rattle.plcx_types.specs.declared.ty.Ty.{Ty}
use Rattle.plcx_types.specs.declared.ty.Ty.TheVariants as ty
use Rattle.plcx_types.specs.Name.{in_lower_case}
use Rattle.plcx_types.specs.Reserved.{is_own}
use Rattle.plcx_types.specs.TypeName.{type_name, type_named}
use Rattle.plcx_types.specs.Lists.{Each}
use Rattle.plcx_meaning.specs.Base.{are_distinct, Memory, AtEdge, AtOutput, same_memory}
use Rattle.plcx_meaning.specs.Tree.{Class, Local, Temp, Plain, Declaration}
use Rattle.plcx_meaning.specs.Layout.{Variable, variable, variables_of, variable_named, World, Elementary, Composed, composed, meaning}
use Rattle.plcx_meaning.specs.Diagram.{Port, ports, has_edge, DiagramElement, Pou, Project, has_jump}
use Rattle.plcx_meaning.specs.Execute.{Temporary, Kept, referent, elementary, referent_by}
use Rattle.plcx_meaning.specs.Templates.{wire_name, memory_name, counter_name, own, element_memories, element_wires, counter, pou_text}
use Rattle.plcx_meaning.specs.Fits.{PortsFit, VariableFits, PouFits}
use Rattle.plcx_meaning.proofs.Fed.{fed_distinct}
use Rattle.plcx_meaning.proofs.Names.{bytes_self, same_wires, same_wires_to, IsSmall, same_memories, same_memories_to, wire_own, memory_own, counter_own, memory_not_wire, memory_not_counter, wire_not_counter, declared_name}
use Rattle.plcx_meaning.proofs.Lists.{contains_cases, contains_none, contains_map, each_at, each_weaker, each_append, each_map, each_flat_map, each_from, none_passes, distinct_parts}
use Rattle.plcx_meaning.proofs.Lookups.{map_append, map_flat, kept_variables, passing_variables, own_variables, text_variables, named_first, named_second, named_in, IsDeclaredVariable, own_not_named, not_named}

-- types by their names
pub type_of_name : (t : Ty) → type_named (type_name t) ≡ Some t
type_of_name ty.Bool = refl
type_of_name ty.Byte = refl
type_of_name ty.Word = refl
type_of_name ty.Dword = refl
type_of_name ty.Lword = refl
type_of_name ty.Sint = refl
type_of_name ty.Int = refl
type_of_name ty.Dint = refl
type_of_name ty.Lint = refl
type_of_name ty.Usint = refl
type_of_name ty.Uint = refl
type_of_name ty.Udint = refl
type_of_name ty.Ulint = refl
type_of_name ty.Time = refl

pub elementary_meaning : (world : World) (name : List ℕ) (t : Ty) → type_named name ≡ Some t → meaning world name ≡ Elementary t
elementary_meaning world name t h = rw (h, meaning) refl

pub composed_meaning : (world : World) (name : List ℕ) → type_named name ≡ None → meaning world name ≡ Composed (composed world name)
composed_meaning world name h = rw (h, meaning) refl

-- the compiler's own variable of a type
abbrev pub own_variable : Class → List ℕ → Ty → Variable
own_variable class name t = variable class Plain (own name t)

pub own_place : (world : World) (class : Class) (name : List ℕ) (t : Ty) → referent world (Some (own_variable class name t)) ≡ elementary class t
own_place world class name t = ap (λ m. referent_by m class (type_name t)) (elementary_meaning world (type_name t) t (type_of_name t))

-- the wires of one element
abbrev wire_variables : ℕ → List Port → List Variable
wire_variables id os = map (variable Temp Plain) (map (λ (o : Port). own (wire_name id o.pin) o.ty) os)

wire_among : (id : ℕ) → id < 2 ^ 64 → (os : List Port) (o : Port) → are_distinct (map (λ (q : Port). in_lower_case q.pin) os) ≡ true → Contains os o
    → variable_named (in_lower_case (wire_name id o.pin)) (wire_variables id os) ≡ Some (own_variable Temp (wire_name id o.pin) o.ty)
wire_among id small [] o h there = absurd (contains_none o there)
wire_among id small (q ∷ os) o h there =
    elim (contains_cases q os o there) [
      | inl e ↦ subst (λ (r : Port). variable_named (in_lower_case (wire_name id r.pin)) (wire_variables id (q ∷ os)) ≡ Some (own_variable Temp (wire_name id r.pin) r.ty)) e (rw (bytes_self (in_lower_case (wire_name id q.pin))) refl)
      | inr l ↦
          let parts = distinct_parts (in_lower_case q.pin) (map (λ (r : Port). in_lower_case r.pin) os) h in
          let other : bytes_eq (in_lower_case q.pin) (in_lower_case o.pin) ≡ false = none_passes (bytes_eq (in_lower_case q.pin)) (map (λ (r : Port). in_lower_case r.pin) os) (in_lower_case o.pin) parts.0 (contains_map (λ (r : Port). in_lower_case r.pin) os o l) in
          let apart : bytes_eq (in_lower_case (wire_name id q.pin)) (in_lower_case (wire_name id o.pin)) ≡ false = same_wires id q.pin id o.pin small ∙ and_right (nat_eq id id) (bytes_eq (in_lower_case q.pin) (in_lower_case o.pin)) other in
          rw (apart) (wire_among id small os o parts.1 l)
    ]

wires_apart : (id n : ℕ) (pin : List ℕ) → n < 2 ^ 64 → nat_eq id n ≡ false → (os : List Port) → variable_named (in_lower_case (wire_name n pin)) (wire_variables id os) ≡ None
wires_apart id n pin small other [] = refl
wires_apart id n pin small other (o ∷ os) =
    let apart : bytes_eq (in_lower_case (wire_name id o.pin)) (in_lower_case (wire_name n pin)) ≡ false = same_wires_to id o.pin n pin small ∙ and_left (nat_eq id n) (bytes_eq (in_lower_case o.pin) (in_lower_case pin)) other in
    rw (apart) (wires_apart id n pin small other os)

-- the memories of one element
abbrev memory_variables : DiagramElement → List Variable
memory_variables e = map (variable Local Plain) (element_memories e)

abbrev edge_variables : Bool → ℕ → List Variable
edge_variables b id = map (variable Local Plain) (if b then own (memory_name (AtEdge id)) ty.Bool ∷ [] else [])

abbrev fed_variables : ℕ → List Port → List Variable
fed_variables id os = map (variable Local Plain) (map (λ (o : Port). own (memory_name (AtOutput id o.pin)) o.ty) os)

memories_are : (e : DiagramElement) → memory_variables e ≡ edge_variables (has_edge e.kind) e.id ++ fed_variables e.id e.fed
memories_are e = map_append (variable Local Plain) (if has_edge e.kind then own (memory_name (AtEdge e.id)) ty.Bool ∷ [] else []) (map (λ (o : Port). own (memory_name (AtOutput e.id o.pin)) o.ty) e.fed)

edge_among : (e : DiagramElement) → has_edge e.kind ≡ true → variable_named (in_lower_case (memory_name (AtEdge e.id))) (memory_variables e) ≡ Some (own_variable Local (memory_name (AtEdge e.id)) ty.Bool)
edge_among e h =
    ap (variable_named (in_lower_case (memory_name (AtEdge e.id)))) (memories_are e ∙ ap (λ b. edge_variables b e.id ++ fed_variables e.id e.fed) h)
    ∙ rw (bytes_self (in_lower_case (memory_name (AtEdge e.id)))) refl

no_edge : (b : Bool) (id n : ℕ) (pin : List ℕ) → variable_named (in_lower_case (memory_name (AtOutput n pin))) (edge_variables b id) ≡ None
no_edge true id n pin = refl
no_edge false id n pin = refl

fed_among : (id : ℕ) → id < 2 ^ 64 → (os : List Port) (o : Port) → are_distinct (map (λ (q : Port). in_lower_case q.pin) os) ≡ true → Contains os o
    → variable_named (in_lower_case (memory_name (AtOutput id o.pin))) (fed_variables id os) ≡ Some (own_variable Local (memory_name (AtOutput id o.pin)) o.ty)
fed_among id small [] o h there = absurd (contains_none o there)
fed_among id small (q ∷ os) o h there =
    elim (contains_cases q os o there) [
      | inl e ↦ subst (λ (r : Port). variable_named (in_lower_case (memory_name (AtOutput id r.pin))) (fed_variables id (q ∷ os)) ≡ Some (own_variable Local (memory_name (AtOutput id r.pin)) r.ty)) e (rw (bytes_self (in_lower_case (memory_name (AtOutput id q.pin)))) refl)
      | inr l ↦
          let parts = distinct_parts (in_lower_case q.pin) (map (λ (r : Port). in_lower_case r.pin) os) h in
          let other : bytes_eq (in_lower_case q.pin) (in_lower_case o.pin) ≡ false = none_passes (bytes_eq (in_lower_case q.pin)) (map (λ (r : Port). in_lower_case r.pin) os) (in_lower_case o.pin) parts.0 (contains_map (λ (r : Port). in_lower_case r.pin) os o l) in
          let apart : bytes_eq (in_lower_case (memory_name (AtOutput id q.pin))) (in_lower_case (memory_name (AtOutput id o.pin))) ≡ false = same_memories (AtOutput id q.pin) (AtOutput id o.pin) small ∙ and_right (nat_eq id id) (bytes_eq (in_lower_case q.pin) (in_lower_case o.pin)) other in
          rw (apart) (fed_among id small os o parts.1 l)
    ]

-- the number of a memory's element
abbrev number_of : Memory → ℕ
number_of (AtEdge id) = id
number_of (AtOutput id pin) = id

edge_apart : (id : ℕ) (k : Memory) → nat_eq id (number_of k) ≡ false → same_memory (AtEdge id) k ≡ false
edge_apart id (AtEdge n) other = other
edge_apart id (AtOutput n pin) other = refl

output_apart : (id : ℕ) (pin : List ℕ) (k : Memory) → nat_eq id (number_of k) ≡ false → same_memory (AtOutput id pin) k ≡ false
output_apart id pin (AtEdge n) other = refl
output_apart id pin (AtOutput n q) other = and_left (nat_eq id n) (bytes_eq (in_lower_case pin) (in_lower_case q)) other

edges_apart : (b : Bool) (id : ℕ) (k : Memory) → IsSmall k → nat_eq id (number_of k) ≡ false → variable_named (in_lower_case (memory_name k)) (edge_variables b id) ≡ None
edges_apart true id k small other = rw (same_memories_to (AtEdge id) k small ∙ edge_apart id k other) refl
edges_apart false id k small other = refl

fed_apart : (id : ℕ) (k : Memory) → IsSmall k → nat_eq id (number_of k) ≡ false → (os : List Port) → variable_named (in_lower_case (memory_name k)) (fed_variables id os) ≡ None
fed_apart id k small other [] = refl
fed_apart id k small other (o ∷ os) = rw (same_memories_to (AtOutput id o.pin) k small ∙ output_apart id o.pin k other) (fed_apart id k small other os)

memories_apart : (k : Memory) → IsSmall k → (e : DiagramElement) → nat_eq e.id (number_of k) ≡ false → variable_named (in_lower_case (memory_name k)) (memory_variables e) ≡ None
memories_apart k small e other =
    ap (variable_named (in_lower_case (memory_name k))) (memories_are e)
    ∙ named_second (in_lower_case (memory_name k)) (edge_variables (has_edge e.kind) e.id) (fed_variables e.id e.fed) (edges_apart (has_edge e.kind) e.id k small other)
    ∙ fed_apart e.id k small other e.fed

-- no variable of one use is found under a name of another
no_memory : (key : List ℕ) → ((k : Memory) → bytes_eq (in_lower_case (memory_name k)) key ≡ false) → (p : Pou) → variable_named key (kept_variables p) ≡ None
no_memory key apart p = not_named key (kept_variables p) (each_map _ (variable Local Plain) (flat_map element_memories p.elements) (each_flat_map _ element_memories p.elements (each_from _ p.elements (λ e there. of_element e))))
  where
    of_edge : (b : Bool) (id : ℕ) → Each (λ (d : Declaration). bytes_eq (in_lower_case d.name) key ≡ false) (if b then own (memory_name (AtEdge id)) ty.Bool ∷ [] else [])
    of_edge true id = (apart (AtEdge id), tt)
    of_edge false id = tt

    of_element : (e : DiagramElement) → Each (λ (d : Declaration). bytes_eq (in_lower_case d.name) key ≡ false) (element_memories e)
    of_element e = each_append _ _ _ (of_edge (has_edge e.kind) e.id) (each_map _ (λ (o : Port). own (memory_name (AtOutput e.id o.pin)) o.ty) e.fed (each_from _ e.fed (λ o there. apart (AtOutput e.id o.pin))))

no_wire : (key : List ℕ) → ((id : ℕ) (pin : List ℕ) → bytes_eq (in_lower_case (wire_name id pin)) key ≡ false) → (es : List DiagramElement) → variable_named key (map (variable Temp Plain) (flat_map element_wires es)) ≡ None
no_wire key apart es = not_named key _ (each_map _ (variable Temp Plain) (flat_map element_wires es) (each_flat_map _ element_wires es (each_from _ es (λ e within. each_map _ (λ (o : Port). own (wire_name e.id o.pin) o.ty) (ports e.kind) (each_from _ (ports e.kind) (λ o there. apart e.id o.pin))))))

-- each declared variable of a POU has a name that is not the compiler's own
pub variables_declared : (project : Project) (p : Pou) → PouFits project p → Each IsDeclaredVariable (variables_of p.lists)
variables_declared project p fits = each_weaker (VariableFits project) IsDeclaredVariable (variables_of p.lists) (λ v h. declared_name v.name h.name.2) fits.variables

-- an own name, among all variables of the text
kept_in_text : (project : Project) (p : Pou) → PouFits project p → (key : List ℕ) (v : Variable) → is_own key ≡ true → variable_named key (kept_variables p) ≡ Some v
    → variable_named key (variables_of (pou_text p).blocks) ≡ Some v
kept_in_text project p fits key v own h =
    ap (variable_named key) (text_variables p)
    ∙ named_second key (variables_of p.lists) (own_variables p) (own_not_named key (variables_of p.lists) own (variables_declared project p fits))
    ∙ named_first key (kept_variables p) (passing_variables p) v h

passing_in_text : (project : Project) (p : Pou) → PouFits project p → (key : List ℕ) (v : Variable) → is_own key ≡ true → ((k : Memory) → bytes_eq (in_lower_case (memory_name k)) key ≡ false)
    → variable_named key (passing_variables p) ≡ Some v → variable_named key (variables_of (pou_text p).blocks) ≡ Some v
passing_in_text project p fits key v own apart h =
    ap (variable_named key) (text_variables p)
    ∙ named_second key (variables_of p.lists) (own_variables p) (own_not_named key (variables_of p.lists) own (variables_declared project p fits))
    ∙ named_second key (kept_variables p) (passing_variables p) (no_memory key apart p) ∙ h

wire_variable : (project : Project) (p : Pou) → PouFits project p → (e : DiagramElement) (o : Port) → Contains p.elements e → Contains (ports e.kind) o
    → variable_named (in_lower_case (wire_name e.id o.pin)) (variables_of (pou_text p).blocks) ≡ Some (own_variable Temp (wire_name e.id o.pin) o.ty)
wire_variable project p fits e o there among =
    let key = in_lower_case (wire_name e.id o.pin) in
    let fit : PortsFit p e = each_at (PortsFit p) p.elements e fits.ports there in
    let found = named_in (λ (y : DiagramElement). wire_variables y.id (ports y.kind)) (λ (y : DiagramElement). y.id) key e.id (λ y other. wires_apart y.id e.id o.pin fit.small other (ports y.kind)) p.elements e (own_variable Temp (wire_name e.id o.pin) o.ty) refl fits.ids there (wire_among e.id fit.small (ports e.kind) o fit.pins among) in
    passing_in_text project p fits key _ (wire_own e.id o.pin) (λ k. memory_not_wire k e.id o.pin)
    (ap (variable_named key) (map_append (variable Temp Plain) (flat_map element_wires p.elements) (counter p.networks))
    ∙ named_first key (map (variable Temp Plain) (flat_map element_wires p.elements)) (map (variable Temp Plain) (counter p.networks)) _
    (ap (variable_named key) (map_flat (variable Temp Plain) element_wires p.elements) ∙ found))

memory_variable : (project : Project) (p : Pou) → PouFits project p → (e : DiagramElement) (k : Memory) (v : Variable) → Contains p.elements e → e.id ≡ number_of k → IsSmall k → variable_named (in_lower_case (memory_name k)) (memory_variables e) ≡ Some v
    → variable_named (in_lower_case (memory_name k)) (variables_of (pou_text p).blocks) ≡ Some v
memory_variable project p fits e k v there same small h =
    let key = in_lower_case (memory_name k) in
    kept_in_text project p fits key v (memory_own k)
    (ap (variable_named key) (map_flat (variable Local Plain) element_memories p.elements)
    ∙ named_in memory_variables (λ (y : DiagramElement). y.id) key (number_of k) (memories_apart k small) p.elements e v same fits.ids there h)

-- the variables of the text that are the compiler's own are declared with their types
module _ (project : Project) (p : Pou) (fits : PouFits project p) (world : World) where
  pub wire_place : (e : DiagramElement) (o : Port) → Contains p.elements e → Contains (ports e.kind) o → referent world (variable_named (in_lower_case (wire_name e.id o.pin)) (variables_of (pou_text p).blocks)) ≡ Temporary o.ty
  wire_place e o there among = ap (referent world) (wire_variable project p fits e o there among) ∙ own_place world Temp (wire_name e.id o.pin) o.ty

  pub edge_place : (e : DiagramElement) → Contains p.elements e → has_edge e.kind ≡ true → referent world (variable_named (in_lower_case (memory_name (AtEdge e.id))) (variables_of (pou_text p).blocks)) ≡ Kept ty.Bool
  edge_place e there edge =
      let fit : PortsFit p e = each_at (PortsFit p) p.elements e fits.ports there in
      ap (referent world) (memory_variable project p fits e (AtEdge e.id) _ there refl fit.small (edge_among e edge)) ∙ own_place world Local (memory_name (AtEdge e.id)) ty.Bool

  pub fed_place : (e : DiagramElement) (o : Port) → Contains p.elements e → Contains e.fed o → referent world (variable_named (in_lower_case (memory_name (AtOutput e.id o.pin))) (variables_of (pou_text p).blocks)) ≡ Kept o.ty
  fed_place e o there among =
      let fit : PortsFit p e = each_at (PortsFit p) p.elements e fits.ports there in
      let key = in_lower_case (memory_name (AtOutput e.id o.pin)) in
      let found : variable_named key (memory_variables e) ≡ Some (own_variable Local (memory_name (AtOutput e.id o.pin)) o.ty) =
      ap (variable_named key) (memories_are e) ∙ named_second key (edge_variables (has_edge e.kind) e.id) (fed_variables e.id e.fed) (no_edge (has_edge e.kind) e.id e.id o.pin) ∙ fed_among e.id fit.small e.fed o (fed_distinct p e fit) among in
      ap (referent world) (memory_variable project p fits e (AtOutput e.id o.pin) _ there refl fit.small found) ∙ own_place world Local (memory_name (AtOutput e.id o.pin)) o.ty

  pub counter_place : has_jump p.networks ≡ true → referent world (variable_named (in_lower_case counter_name) (variables_of (pou_text p).blocks)) ≡ Temporary ty.Dint
  counter_place jump =
      let key = in_lower_case counter_name in
      let last : variable_named key (map (variable Temp Plain) (counter p.networks)) ≡ Some (own_variable Temp counter_name ty.Dint) = rw (jump, counter) refl in
      let found : variable_named key (passing_variables p) ≡ Some (own_variable Temp counter_name ty.Dint) =
      ap (variable_named key) (map_append (variable Temp Plain) (flat_map element_wires p.elements) (counter p.networks))
      ∙ named_second key (map (variable Temp Plain) (flat_map element_wires p.elements)) (map (variable Temp Plain) (counter p.networks)) (no_wire key wire_not_counter p.elements) ∙ last in
      ap (referent world) (passing_in_text project p fits key _ counter_own memory_not_counter found) ∙ own_place world Temp counter_name ty.Dint
