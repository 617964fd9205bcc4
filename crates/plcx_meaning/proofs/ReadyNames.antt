-- The names of a text are declared once.
use Rattle.std.proofs.Common.{◌≡◌, ℕ, ◌<◌, ◌^◌, Bool, true, false, not, ◌&&◌, List, [], ◌∷◌, ◌++◌, map, refl, sym, ap, ap₂, ◌∙◌, subst, if◌then◌else◌}
use Rattle.std.specs.Prelude.{nat_eq}
use Rattle.std.specs.List.{list_any, flat_map}
use Rattle.std.specs.Str.{bytes_eq}
use Rattle.std.proofs.lemmas.Bool.{and_parts, or_parts, or_from, not-true}
use Rattle.plcx_types.specs.declared.ty.Ty.TheVariants as ty
use Rattle.plcx_types.specs.Name.{in_lower_case}
use Rattle.plcx_types.specs.Reserved.{is_own}
use Rattle.plcx_types.specs.Lists.{Each}
use Rattle.plcx_meaning.specs.Base.{Memory, AtEdge, AtOutput, same_memory, are_distinct, all_differ}
use Rattle.plcx_meaning.specs.Tree.{Class, Local, Temp, Mark, Plain, Declaration}
use Rattle.plcx_meaning.specs.Layout.{Variable, variable, variables_of}
use Rattle.plcx_meaning.specs.Diagram.{Port, ports, has_edge, DiagramElement, has_jump, Pou, Project}
use Rattle.plcx_meaning.specs.Templates.{wire_name, memory_name, counter_name, own, element_memories, element_wires, counter, pou_text}
use Rattle.plcx_meaning.specs.Fits.{PortsFit, PouFits}
use Rattle.plcx_meaning.proofs.Fed.{fed_distinct}
use Rattle.plcx_meaning.proofs.Names.{declared_not_own, memory_own, wire_own, counter_own, IsSmall, same_memories, same_wires, memory_not_wire, memory_not_counter, wire_not_counter}
use Rattle.plcx_meaning.proofs.Lists.{each_append, each_map, each_flat_map, each_from, each_weaker, IsNew, distinct_parts, distinct_from, distinct_join}
use Rattle.plcx_meaning.proofs.Lookups.{map_append, map_flat, kept_variables, passing_variables, own_variables, text_variables, IsDeclaredVariable, IsOwnVariable}
use Rattle.plcx_meaning.proofs.LookupsOwn.{variables_declared}
use Rattle.plcx_meaning.proofs.StaticsWorlds.{own_each}

-- lists of names that share none
abbrev Apart : List (List ℕ) → List (List ℕ) → Type 0
Apart xs ys = Each (λ x. IsNew x ys) xs

new_both : (x : List ℕ) (ys zs : List (List ℕ)) → IsNew x ys → IsNew x zs → IsNew x (ys ++ zs)
new_both x [] zs h k = k
new_both x (y ∷ ys) zs h k = let parts = or_parts (bytes_eq x y) (list_any (bytes_eq x) ys) h in or_from (bytes_eq x y) (list_any (bytes_eq x) (ys ++ zs)) parts.0 (new_both x ys zs parts.1 k)

apart_both : (xs ys zs : List (List ℕ)) → Apart xs ys → Apart xs zs → Apart xs (ys ++ zs)
apart_both [] ys zs h k = tt
apart_both (x ∷ xs) ys zs h k = (new_both x ys zs h.0 k.0, apart_both xs ys zs h.1 k.1)

apart_none : (xs : List (List ℕ)) → Apart xs []
apart_none [] = tt
apart_none (x ∷ xs) = (refl, apart_none xs)

-- names of things that are told apart by a number
module _ {A : Type 0} (f : A → List (List ℕ)) (id : A → ℕ) (P : A → Type 0) (apart : (x y : A) → P x → nat_eq (id x) (id y) ≡ false → Apart (f x) (f y)) where
  apart_all : (x : A) → P x → (ys : List A) → list_any (nat_eq (id x)) (map id ys) ≡ false → Apart (f x) (flat_map f ys)
  apart_all x h [] e = apart_none (f x)
  apart_all x h (y ∷ ys) e =
      let parts = or_parts (nat_eq (id x) (id y)) (list_any (nat_eq (id x)) (map id ys)) e in
      apart_both (f x) (f y) (flat_map f ys) (apart x y h parts.0) (apart_all x h ys parts.1)

  distinct_all : (xs : List A) → Each P xs → Each (λ x. are_distinct (f x) ≡ true) xs → all_differ (map id xs) ≡ true → are_distinct (flat_map f xs) ≡ true
  distinct_all [] h d e = refl
  distinct_all (x ∷ xs) h d e =
      let parts = and_parts (not (list_any (nat_eq (id x)) (map id xs))) (all_differ (map id xs)) e in
      distinct_join (f x) (flat_map f xs) d.0 (distinct_all xs h.1 d.1 parts.1) (apart_all x h.0 xs (not-true (list_any (nat_eq (id x)) (map id xs)) parts.0))

abbrev names : List Declaration → List (List ℕ)
names ds = map (λ (d : Declaration). in_lower_case d.name) ds

abbrev of_variables : List Variable → List (List ℕ)
of_variables vs = map (λ (v : Variable). in_lower_case v.name) vs

variable_names : (class : Class) (mark : Mark) (ds : List Declaration) → of_variables (map (variable class mark) ds) ≡ names ds
variable_names class mark [] = refl
variable_names class mark (d ∷ ds) = ap (λ ns. in_lower_case d.name ∷ ns) (variable_names class mark ds)

new_among : (x : List ℕ) (ds : List Declaration) → Each (λ (d : Declaration). bytes_eq x (in_lower_case d.name) ≡ false) ds → IsNew x (names ds)
new_among x [] h = refl
new_among x (d ∷ ds) h = or_from (bytes_eq x (in_lower_case d.name)) (list_any (bytes_eq x) (names ds)) h.0 (new_among x ds h.1)

-- memories
abbrev fed_memories : ℕ → List Port → List Declaration
fed_memories id fed = map (λ (o : Port). own (memory_name (AtOutput id o.pin)) o.ty) fed

abbrev edge_memory : Bool → ℕ → List Declaration
edge_memory b id = if b then own (memory_name (AtEdge id)) ty.Bool ∷ [] else []

memory_new : (k : Memory) → IsSmall k → (id : ℕ) (fed : List Port) → Each (λ (o : Port). same_memory k (AtOutput id o.pin) ≡ false) fed → IsNew (in_lower_case (memory_name k)) (names (fed_memories id fed))
memory_new k small id [] h = refl
memory_new k small id (o ∷ fed) h = or_from _ _ (same_memories k (AtOutput id o.pin) small ∙ h.0) (memory_new k small id fed h.1)

and_false : (a b : Bool) → b ≡ false → (a && b) ≡ false
and_false true b h = h
and_false false b h = refl

false_and : (a b : Bool) → a ≡ false → (a && b) ≡ false
false_and true b h = absurd (cc)
false_and false b h = refl

pins_apart : (id : ℕ) (pin : List ℕ) (fed : List Port) → IsNew (in_lower_case pin) (map (λ (o : Port). in_lower_case o.pin) fed) → Each (λ (o : Port). (nat_eq id id && bytes_eq (in_lower_case pin) (in_lower_case o.pin)) ≡ false) fed
pins_apart id pin [] h = tt
pins_apart id pin (o ∷ fed) h = let parts = or_parts (bytes_eq (in_lower_case pin) (in_lower_case o.pin)) _ h in (and_false (nat_eq id id) _ parts.0, pins_apart id pin fed parts.1)

names_distinct : (id : ℕ) → id < 2 ^ 64 → (fed : List Port) → are_distinct (map (λ (o : Port). in_lower_case o.pin) fed) ≡ true → are_distinct (names (fed_memories id fed)) ≡ true
names_distinct id small [] h = refl
names_distinct id small (o ∷ fed) h =
    let parts = distinct_parts (in_lower_case o.pin) (map (λ (q : Port). in_lower_case q.pin) fed) h in
    distinct_from (in_lower_case (memory_name (AtOutput id o.pin))) (names (fed_memories id fed)) (memory_new (AtOutput id o.pin) small id fed (pins_apart id o.pin fed parts.0)) (names_distinct id small fed parts.1)

memories_distinct : (p : Pou) (e : DiagramElement) → PortsFit p e → are_distinct (names (element_memories e)) ≡ true
memories_distinct p e fit = by (has_edge e.kind)
  where
    by : (b : Bool) → are_distinct (names (edge_memory b e.id ++ fed_memories e.id e.fed)) ≡ true
    by true =
        distinct_from (in_lower_case (memory_name (AtEdge e.id))) (names (fed_memories e.id e.fed)) (memory_new (AtEdge e.id) fit.small e.id e.fed (each_from _ e.fed (λ o h. refl))) (names_distinct e.id fit.small e.fed (fed_distinct p e fit))
    by false = names_distinct e.id fit.small e.fed (fed_distinct p e fit)

-- those of two elements
abbrev number_of : Memory → ℕ
number_of (AtEdge id) = id
number_of (AtOutput id pin) = id

other_memory : (j k : Memory) → nat_eq (number_of j) (number_of k) ≡ false → same_memory j k ≡ false
other_memory (AtEdge i) (AtEdge j) h = h
other_memory (AtEdge i) (AtOutput j q) h = refl
other_memory (AtOutput i p) (AtEdge j) h = refl
other_memory (AtOutput i p) (AtOutput j q) h = false_and (nat_eq i j) (bytes_eq (in_lower_case p) (in_lower_case q)) h

-- what holds of each memory of an element holds of each of its declarations
memories_each : (P : Declaration → Type 0) (e : DiagramElement) → ((k : Memory) → number_of k ≡ e.id → (t : _) → P (own (memory_name k) t)) → Each P (element_memories e)
memories_each P e h = each_append P (edge_memory (has_edge e.kind) e.id) (fed_memories e.id e.fed) (by (has_edge e.kind)) (each_map P (λ (o : Port). own (memory_name (AtOutput e.id o.pin)) o.ty) e.fed (each_from _ e.fed (λ o there. h (AtOutput e.id o.pin) refl o.ty)))
  where
    by : (b : Bool) → Each P (edge_memory b e.id)
    by true = (h (AtEdge e.id) refl ty.Bool, tt)
    by false = tt

small_memory : (k : Memory) (id : ℕ) → number_of k ≡ id → id < 2 ^ 64 → IsSmall k
small_memory (AtEdge i) id h small = subst (λ n. n < 2 ^ 64) (sym h) small
small_memory (AtOutput i p) id h small = subst (λ n. n < 2 ^ 64) (sym h) small

memories_apart : (p : Pou) (e d : DiagramElement) → PortsFit p e → nat_eq e.id d.id ≡ false → Apart (names (element_memories e)) (names (element_memories d))
memories_apart p e d fit other =
    each_map (λ x. IsNew x (names (element_memories d))) (λ (a : Declaration). in_lower_case a.name) (element_memories e)
    (memories_each _ e (λ j same t. new_among (in_lower_case (memory_name j)) (element_memories d)
    (memories_each _ d (λ k equal u. same_memories j k (small_memory j e.id same fit.small) ∙ other_memory j k (ap₂ nat_eq same equal ∙ other)))))

-- wires
wire_new : (id : ℕ) → id < 2 ^ 64 → (pin : List ℕ) (n : ℕ) (os : List Port) → Each (λ (o : Port). (nat_eq id n && bytes_eq (in_lower_case pin) (in_lower_case o.pin)) ≡ false) os → IsNew (in_lower_case (wire_name id pin)) (names (map (λ (o : Port). own (wire_name n o.pin) o.ty) os))
wire_new id small pin n [] h = refl
wire_new id small pin n (o ∷ os) h = or_from _ _ (same_wires id pin n o.pin small ∙ h.0) (wire_new id small pin n os h.1)

wires_of : (id : ℕ) → id < 2 ^ 64 → (os : List Port) → are_distinct (map (λ (o : Port). in_lower_case o.pin) os) ≡ true → are_distinct (names (map (λ (o : Port). own (wire_name id o.pin) o.ty) os)) ≡ true
wires_of id small [] h = refl
wires_of id small (o ∷ os) h =
    let parts = distinct_parts (in_lower_case o.pin) (map (λ (q : Port). in_lower_case q.pin) os) h in
    distinct_from (in_lower_case (wire_name id o.pin)) (names (map (λ (q : Port). own (wire_name id q.pin) q.ty) os)) (wire_new id small o.pin id os (pins_apart id o.pin os parts.0)) (wires_of id small os parts.1)

wires_distinct : (p : Pou) (e : DiagramElement) → PortsFit p e → are_distinct (names (element_wires e)) ≡ true
wires_distinct p e fit = wires_of e.id fit.small (ports e.kind) fit.pins

wires_apart : (p : Pou) (e d : DiagramElement) → PortsFit p e → nat_eq e.id d.id ≡ false → Apart (names (element_wires e)) (names (element_wires d))
wires_apart p e d fit other =
    each_map (λ x. IsNew x (names (element_wires d))) (λ (a : Declaration). in_lower_case a.name) (element_wires e)
    (each_map _ (λ (o : Port). own (wire_name e.id o.pin) o.ty) (ports e.kind)
    (each_from _ (ports e.kind) (λ o there. wire_new e.id fit.small o.pin d.id (ports d.kind) (each_from _ (ports d.kind) (λ q h. false_and (nat_eq e.id d.id) _ other)))))

module _ (p : Pou) (ports_fit : Each (PortsFit p) p.elements) (ids : all_differ (map (λ (e : DiagramElement). e.id) p.elements) ≡ true) where
  all_memories : are_distinct (names (flat_map element_memories p.elements)) ≡ true
  all_memories =
      ap are_distinct (map_flat (λ (d : Declaration). in_lower_case d.name) element_memories p.elements)
      ∙ distinct_all (λ e. names (element_memories e)) (λ (e : DiagramElement). e.id) (PortsFit p) (memories_apart p) p.elements ports_fit (each_weaker (PortsFit p) _ p.elements (memories_distinct p) ports_fit) ids

  all_wires : are_distinct (names (flat_map element_wires p.elements)) ≡ true
  all_wires =
      ap are_distinct (map_flat (λ (d : Declaration). in_lower_case d.name) element_wires p.elements)
      ∙ distinct_all (λ e. names (element_wires e)) (λ (e : DiagramElement). e.id) (PortsFit p) (wires_apart p) p.elements ports_fit (each_weaker (PortsFit p) _ p.elements (wires_distinct p) ports_fit) ids

  -- wires, and behind them the counter
  abbrev passing : List Declaration
  passing = flat_map element_wires p.elements ++ counter p.networks

  counter_distinct : are_distinct (names (counter p.networks)) ≡ true
  counter_distinct = by (has_jump p.networks)
    where
      by : (b : Bool) → are_distinct (names (if b then own counter_name ty.Dint ∷ [] else [])) ≡ true
      by true = refl
      by false = refl

  counter_each : (P : Declaration → Type 0) → P (own counter_name ty.Dint) → Each P (counter p.networks)
  counter_each P h = by (has_jump p.networks)
    where
      by : (b : Bool) → Each P (if b then own counter_name ty.Dint ∷ [] else [])
      by true = (h, tt)
      by false = tt

  wires_each : (P : Declaration → Type 0) → ((id : ℕ) (pin : List ℕ) (t : _) → P (own (wire_name id pin) t)) → Each P (flat_map element_wires p.elements)
  wires_each P h = each_flat_map P element_wires p.elements (each_from _ p.elements (λ e there. each_map P (λ (o : Port). own (wire_name e.id o.pin) o.ty) (ports e.kind) (each_from _ (ports e.kind) (λ o among. h e.id o.pin o.ty))))

  passing_distinct : are_distinct (names passing) ≡ true
  passing_distinct =
      ap are_distinct (map_append (λ (d : Declaration). in_lower_case d.name) (flat_map element_wires p.elements) (counter p.networks))
      ∙ distinct_join (names (flat_map element_wires p.elements)) (names (counter p.networks)) all_wires counter_distinct
      (each_map (λ x. IsNew x (names (counter p.networks))) (λ (d : Declaration). in_lower_case d.name) (flat_map element_wires p.elements)
      (wires_each _ (λ id pin t. new_among (in_lower_case (wire_name id pin)) (counter p.networks) (counter_each _ (wire_not_counter id pin)))))

  memories_passing : Apart (names (flat_map element_memories p.elements)) (names passing)
  memories_passing =
      each_map (λ x. IsNew x (names passing)) (λ (d : Declaration). in_lower_case d.name) (flat_map element_memories p.elements)
      (each_flat_map _ element_memories p.elements (each_from _ p.elements (λ e there. memories_each _ e (λ k same t. new_among (in_lower_case (memory_name k)) passing
      (each_append _ (flat_map element_wires p.elements) (counter p.networks) (wires_each _ (λ id pin u. memory_not_wire k id pin)) (counter_each _ (memory_not_counter k)))))))

  own_distinct : are_distinct (of_variables (own_variables p)) ≡ true
  own_distinct =
      ap are_distinct (map_append (λ (v : Variable). in_lower_case v.name) (kept_variables p) (passing_variables p) ∙ ap₂ (λ a b. a ++ b) (variable_names Local Plain (flat_map element_memories p.elements)) (variable_names Temp Plain passing))
      ∙ distinct_join (names (flat_map element_memories p.elements)) (names passing) all_memories passing_distinct memories_passing

-- a declared name is none of the compiler's own
new_own : (x : List ℕ) (vs : List Variable) → is_own (in_lower_case x) ≡ false → Each IsOwnVariable vs → IsNew (in_lower_case x) (of_variables vs)
new_own x [] own h = refl
new_own x (v ∷ vs) own h = or_from (bytes_eq (in_lower_case x) (in_lower_case v.name)) (list_any (bytes_eq (in_lower_case x)) (of_variables vs)) (declared_not_own x (in_lower_case v.name) own h.0) (new_own x vs own h.1)

pub all_distinct : (project : Project) (p : Pou) → PouFits project p → are_distinct (map (λ (v : Variable). in_lower_case v.name) (variables_of (pou_text p).blocks)) ≡ true
all_distinct project p fits =
    ap (λ vs. are_distinct (of_variables vs)) (text_variables p)
    ∙ ap are_distinct (map_append (λ (v : Variable). in_lower_case v.name) (variables_of p.lists) (own_variables p))
    ∙ distinct_join (of_variables (variables_of p.lists)) (of_variables (own_variables p)) fits.distinct (own_distinct p fits.ports fits.ids)
    (each_map (λ x. IsNew x (of_variables (own_variables p))) (λ (v : Variable). in_lower_case v.name) (variables_of p.lists)
    (each_weaker IsDeclaredVariable _ (variables_of p.lists) (λ v declared. new_own v.name (own_variables p) declared (own_each IsOwnVariable (λ k t. memory_own k) (λ id pin t. wire_own id pin) counter_own p)) (variables_declared project p fits)))
