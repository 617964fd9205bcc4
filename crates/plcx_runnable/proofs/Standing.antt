-- A program stands where there is room for it.
use Rattle.std.proofs.Common.{◌≡◌, ℕ, zero, suc, ◌+◌, ◌^◌, ◌<◌, ◌≤◌, List, [], ◌∷◌, ◌++◌, Bool, true, false, length, length-append, map, Option, Some, None, refl, sym, ap, ap₂, ◌∙◌, subst, zero-add, arith}
use Rattle.std.specs.Prelude.{slice_get, is_some, if◌then◌else◌}
use Rattle.std.specs.List.{flat_map, sum_by, Contains}
use Rattle.std.specs.Coded.{Coded-set, coded_ℕ, le_prop}
use Rattle.std.proofs.lemmas.List.{length-map}
use Rattle.std.proofs.lemmas.List.Sums.{sum_by-cons}
use Rattle.std.proofs.lemmas.Option.{same_Some, slice_get_within}
use Rattle.plcx_types.specs.declared.ty.Ty.{Ty}
use Rattle.plcx_types.specs.Name.{in_lower_case}
use Rattle.plcx_types.specs.TypeName.{type_named}
use Rattle.plcx_types.specs.Value.{Value}
use Rattle.plcx_std.specs.declared.kind.StdKind.{StdKind}
use Rattle.plcx_std.specs.Kind.{kind_named}
use Rattle.plcx_meaning.specs.Base.{AtEdge, AtOutput}
use Rattle.plcx_meaning.specs.Tree as tree
use Rattle.plcx_meaning.specs.Layout.{Variable, variables_of, Leaf, layout}
use Rattle.plcx_meaning.specs.Diagram.{Port, DiagramElement, has_edge, Pou, Project, block_named}
use Rattle.plcx_meaning.specs.Evaluate.{scope_of}
use Rattle.plcx_meaning.specs.Fits.{variable_parts, parts, PouFits, ProjectFits}
use Rattle.plcx_meaning.proofs.Lists.{each_at, contains_map}
use Rattle.plcx_state.specs.Stores.{HasValue}
use Rattle.plcx_steps.specs.declared.program.Body.{Body}
use Rattle.plcx_steps.specs.declared.program.Program.{Program}
use Rattle.plcx_steps.specs.Sound.{Stands, levels, origin}
use Rattle.plcx_steps.specs.Typed.{SameTypes, IsTyped}
use Rattle.plcx_steps.specs.Running.{StandsTyped}
use Rattle.plcx_numbered.specs.Agreeing.{Cell}
use Rattle.plcx_numbered.specs.Right.{Plan}
use Rattle.plcx_numbered.specs.Numbers.{element_cells, cells_behind, instance_cells, cells, depth, in_out_names, plan_of, plans_of}
use Rattle.plcx_numbered.specs.Programs.{IsBodyOf, IsProgramOf}
use Rattle.plcx_numbered.proofs.Laid.{types_are}
use Rattle.plcx_numbered.proofs.Numbers.{there_at}
use Rattle.plcx_numbered.proofs.Programs.{plans_low, programs_free}
use Rattle.plcx_runnable.specs.Shapes.{types_of}
use Rattle.plcx_runnable.proofs.Lists.{mapped_at, mapped_from}
use Rattle.plcx_runnable.proofs.Good.{IsShapeOf}
use Rattle.plcx_runnable.proofs.Programs.{body_for, shape_of_body}

-- ---- a POU's memories are few

abbrev edge_cell : ℕ → Bool → List Cell
edge_cell id b = if b then ([], AtEdge id) ∷ [] else []

abbrev fed_cell : ℕ → Port → Cell
fed_cell id o = ([], AtOutput id (in_lower_case o.pin))

edge_few : (id : ℕ) (b : Bool) → length (edge_cell id b) ≤ 1
edge_few id true = omega arith
edge_few id false = omega arith

element_few : (e : DiagramElement) → length (element_cells e) ≤ suc (length e.fed)
element_few e =
    let both : length (element_cells e) ≡ length (edge_cell e.id (has_edge e.kind)) + length (map (fed_cell e.id) e.fed) = length-append (edge_cell e.id (has_edge e.kind)) (map (fed_cell e.id) e.fed) in
    let fed : length (map (fed_cell e.id) e.fed) ≡ length e.fed = length-map e.fed (fed_cell e.id) in
    let low = edge_few e.id (has_edge e.kind) in
    omega arith

flat_few : {A B : Type 0} (f : A → List B) (n : A → ℕ) → ((x : A) → length (f x) ≤ n x) → (xs : List A) → length (flat_map f xs) ≤ sum_by n xs
flat_few f n few [] = omega arith
flat_few f n few (x ∷ xs) =
    let both = length-append (f x) (flat_map f xs) in
    let one = few x in
    let rest = flat_few f n few xs in
    let sum : sum_by n (x ∷ xs) ≡ n x + sum_by n xs = sum_by-cons n x xs in
    let all : length (f x ++ flat_map f xs) ≤ n x + sum_by n xs = omega arith in
    subst (λ m. length (f x ++ flat_map f xs) ≤ m) (sym sum) all

module _ (project : Project) where
  instance_few : (inner : Pou → List Cell) (n : Pou → ℕ) → ((q : Pou) → length (inner q) ≤ n q) → (v : Variable) → length (instance_cells inner project v) ≤ variable_parts n project v
  instance_few inner n few v = by_type (type_named v.ty) (kind_named v.ty) (block_named v.ty project)
    where
      by_type : (t : Option Ty) (k : Option StdKind) (b : Option Pou)
          → length (elim (elim t as (λ (x : Option Ty). Option Pou) [ Some u ↦ None | None ↦ elim k as (λ (x : Option StdKind). Option Pou) [ Some j ↦ None | None ↦ b ] ]) as (λ (x : Option Pou). List Cell) [ Some q ↦ cells_behind (in_lower_case v.name) (inner q) | None ↦ [] ])
          ≤ (if is_some t then 0 else (if is_some k then 1 else (elim b as (λ (x : Option Pou). ℕ) [ Some q ↦ suc (n q) | None ↦ 1 ])))
      by_type (Some u) k b = omega arith
      by_type None (Some j) b = omega arith
      by_type None None (Some q) =
          let long : length (cells_behind (in_lower_case v.name) (inner q)) ≡ length (inner q) = length-map (inner q) (λ (x : Cell). (x.0 ++ in_lower_case v.name ∷ [], x.1)) in
          let low = few q in
          let all : length (cells_behind (in_lower_case v.name) (inner q)) ≤ suc (n q) = omega arith in
          all
      by_type None None None = omega arith

  cells_few : (n : ℕ) (p : Pou) → length (cells n project p) ≤ parts n project p
  cells_few zero p = omega arith
  cells_few (suc n) p =
      let both = length-append (flat_map element_cells p.elements) (flat_map (instance_cells (cells n project) project) (variables_of p.lists)) in
      let own = flat_few element_cells (λ (e : DiagramElement). suc (length e.fed)) element_few p.elements in
      let inner = flat_few (instance_cells (cells n project) project) (variable_parts (parts n project) project) (instance_few (cells n project) (parts n project) (cells_few n)) (variables_of p.lists) in
      omega arith

-- ---- types of values

abbrev type_of : Value → Ty
type_of v = v.ty

has_value : (xs : List Value) (i : ℕ) (t : Ty) → slice_get (map type_of xs) i ≡ Some t → HasValue xs i t
has_value xs i t h = let x = mapped_from type_of xs i t h in record { value = x.0; is = x.1; typed = x.2 }

value_has : (xs : List Value) (i : ℕ) (t : Ty) → HasValue xs i t → slice_get (map type_of xs) i ≡ Some t
value_has xs i t h = mapped_at type_of xs i h.value h.is ∙ ap Some h.typed

-- values that keep their types have the same ones
pub types_stay : (xs ys : List Value) → SameTypes xs ys → map type_of ys ≡ map type_of xs
types_stay xs ys same = by_places xs ys same.count (λ i t h. value_has ys i t (same.each i t (has_value xs i t h)))
  where
    by_places : (us vs : List Value) → length vs ≡ length us → ((i : ℕ) (t : Ty) → slice_get (map type_of us) i ≡ Some t → slice_get (map type_of vs) i ≡ Some t) → map type_of vs ≡ map type_of us
    by_places [] [] long each = refl
    by_places [] (v ∷ vs) long each = absurd (omega arith)
    by_places (u ∷ us) [] long each = absurd (omega arith)
    by_places (u ∷ us) (v ∷ vs) long each = ap₂ (λ t ts. t ∷ ts) (same_Some v.ty u.ty (each 0 u.ty refl)) (by_places us vs (omega arith) (λ i t h. each (suc i) t h))

-- ---- a program at the origin

-- what is known of the body of a program
pub record IsMain (project : Project) (p : Pou) (body : Body) : Type 0 where
  pub level : body.level < levels
  pub shape : IsShapeOf body (types_of project p)
  pub no_in_outs : body.in_outs ≡ 0
  pub few_leaves : body.leaves < 2 ^ 32
  pub few_memories : body.memories < 2 ^ 32

pub main_prop : (project : Project) (p : Pou) (body : Body) → IsProp (IsMain project p body)
main_prop project p body = hlevel (le_prop, Coded-set coded_ℕ)

pub main_is : (project : Project) → ProjectFits project → (program : Program) → IsProgramOf project program → (k : ℕ) (p : Pou) (body : Body) → slice_get project k ≡ Some p → p.kind ≡ tree.Program → slice_get program.bodies.items k ≡ Some body
    → IsMain project p body
main_is project fits program prepared k p body there main is = record {
  level = low_level;
  shape = shape;
  no_in_outs = its.frame.in_outs ∙ ap length none;
  few_leaves = few_leaves;
  few_memories = few_memories;
}
  where
    own : Contains project p
    own = there_at project k p there

    one : PouFits project p
    one = each_at (PouFits project) project p fits.pous own

    planned : Contains (plans_of project) (plan_of project p)
    planned = contains_map (plan_of project) project p own

    its : IsBodyOf project program p body
    its = body_for project fits program prepared k p body there is

    shape : IsShapeOf body (types_of project p)
    shape = shape_of_body project fits program prepared p body its.frame

    none : in_out_names (variables_of p.lists) ≡ []
    none = each_at (λ (plan : Plan). plan.pou.kind ≡ tree.Program → plan.in_outs ≡ []) (plans_of project) (plan_of project p) (programs_free project fits) planned main

    low_level : body.level < levels
    low_level = let low = each_at (λ (plan : Plan). plan.level < 17) (plans_of project) (plan_of project p) (plans_low project fits) planned in subst (λ n. n < levels) (sym its.frame.level) low

    few_leaves : body.leaves < 2 ^ 32
    few_leaves =
        let long = shape.leaves ∙ ap length (sym (types_are project p)) ∙ length-map (layout (scope_of project p)) (λ (l : Leaf). l.ty) in
        let low = one.leaves in
        omega arith

    few_memories : body.memories < 2 ^ 32
    few_memories = let long = its.frame.memories in let low = cells_few project depth p in let most = one.parts in omega arith

-- where values have the types of its leaves and memories, and wires and in-outs have room
pub stands : (project : Project) (program : Program) (k : ℕ) (p : Pou) (body : Body) → IsMain project p body → IsTyped (map (types_of project) project) program → slice_get project k ≡ Some p → slice_get program.bodies.items k ≡ Some body
    → (values memories : List Value) → map type_of values ≡ (types_of project p).leaves → map type_of memories ≡ (types_of project p).memories → (wires in_outs : ℕ) → body.first_wire + body.width ≤ wires → body.first_in_out ≤ in_outs
    → Stands program levels k origin [] (length values) (length memories) wires in_outs × StandsTyped program k origin [] values memories
stands project program k p body main typed there is values memories of_values of_memories wires in_outs frame in_out_frame = (
  record {
    body = body;
    is = is;
    level = main.level;
    room = record {
      leaves_fit = omega (arith, long_values);
      memories_fit = omega (arith, long_memories);
      few_values = subst (λ n. n < 2 ^ 32) (sym long_values) main.few_leaves;
      few_memories = subst (λ n. n < 2 ^ 32) (sym long_memories) main.few_memories;
      in_outs_there = sym main.no_in_outs;
      in_outs_fit = λ j low. (let none = main.no_in_outs in absurd (omega arith));
    };
    frame = frame;
    in_out_frame = in_out_frame;
  },
  record {
    shapes = map (types_of project) project;
    shape = types_of project p;
    is = mapped_at (types_of project) project k p there;
    typed = typed;
    types = record {
      of_leaves = λ i t h. subst (λ n. HasValue values n t) (sym (zero-add i)) (has_value values i t (ap (λ ts. slice_get ts i) of_values ∙ h));
      of_memories = λ i t h. subst (λ n. HasValue memories n t) (sym (zero-add i)) (has_value memories i t (ap (λ ts. slice_get ts i) of_memories ∙ h));
      of_in_outs = λ j t h. (let low = slice_get_within (types_of project p).in_outs j t h in let none = main.no_in_outs in let same = main.shape.in_outs in absurd (omega arith));
    };
  },
)
  where
    long_values : length values ≡ body.leaves
    long_values = sym (length-map values type_of) ∙ ap length of_values ∙ sym main.shape.leaves

    long_memories : length memories ≡ body.memories
    long_memories = sym (length-map memories type_of) ∙ ap length of_memories ∙ sym main.shape.memories
