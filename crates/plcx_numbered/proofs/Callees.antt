-- What an instance calls has the right numbers.
use Rattle.std.proofs.Common.{◌≡◌, ℕ, zero, suc, ◌+◌, Bool, true, false, List, [], ◌∷◌, ◌++◌, length, map, filter, Option, Some, None, refl, sym, ap, ◌∙◌, subst, arith}
use Rattle.std.specs.Prelude.{slice_get, option_map, not, ◌&&◌, ◌||◌, if◌then◌else◌}
use Rattle.std.specs.List.{flat_map, list_any, Contains}
use Rattle.std.specs.Str.{bytes_eq}
use Rattle.std.proofs.lemmas.Bool.{and_parts, true≢false}
use Rattle.std.proofs.lemmas.Option.{slice_get-map}
use Rattle.plcx_types.specs.declared.ty.Ty.{Ty}
use Rattle.plcx_types.specs.Name.{in_lower_case}
use Rattle.plcx_types.specs.Lists.{Each}
use Rattle.plcx_std.specs.declared.kind.StdKind.{StdKind}
use Rattle.plcx_std.specs.Kind.{kind_named}
use Rattle.plcx_std.specs.Pins.{Pin as Leaf', pins}
use Rattle.plcx_meaning.specs.Base.{Path, Memory, are_distinct}
use Rattle.plcx_meaning.specs.Tree as tree
use Rattle.plcx_meaning.specs.Layout.{Variable, variables_of, variable_named}
use Rattle.plcx_meaning.specs.Diagram.{InOutPin, Port, DiagramElement, Pou, Project, block_named, is_program}
use Rattle.plcx_meaning.specs.Evaluate.{bind, place_named, world_of, is_in_out}
use Rattle.plcx_meaning.specs.Fits.{IsInstance, InOutFits, all_listed, PouFits, PouNests, ProjectFits}
use Rattle.plcx_meaning.proofs.Lists.{each_at, each_weaker, distinct_parts, none_passes, contains_map, contains_first, contains_later}
use Rattle.plcx_meaning.proofs.Names.{bytes_same, same_bytes}
use Rattle.plcx_meaning.proofs.Units.{variable_there, block_there}
use Rattle.plcx_meaning.proofs.Lookups.{found_name}
use Rattle.plcx_numbered.specs.Agreeing.{Cell}
use Rattle.plcx_numbered.specs.Prepared.{Callee, Block, User, bound_variable}
use Rattle.plcx_numbered.specs.Right.{IsOperand, IsBound, RightCallee}
use Rattle.plcx_numbered.specs.Numbers.{Place, places, first_leaf, element_cells, instance_cells, cells_behind, cells, level, instance_level, in_out_names, places_of, inner_depth, depth, leaf_count, cell_count, callee_of, plan_of, place_of}
use Rattle.plcx_numbered.proofs.Leaves.{composed_user, composed_standard, past_front, from_first}
use Rattle.plcx_numbered.proofs.Nested.{is_user, nests_below, cells_steady, levels_steady, highest_of}
use Rattle.plcx_numbered.proofs.Nested as nested
use Rattle.plcx_numbered.proofs.Variables.{pins_places, within_place, operand_right}
use Rattle.plcx_numbered.proofs.Sources.{distinct_of}

-- a block stands at the place of its name
pub place_block : (project : Project) → are_distinct (map (λ (p : Pou). in_lower_case p.name) project) ≡ true → (name : List ℕ) (q : Pou) → block_named name project ≡ Some q → slice_get project (place_named name project) ≡ Some q
place_block [] distinct name q h = absurd (cc)
place_block (p ∷ ps) distinct name q h =
    let parts = distinct_parts (in_lower_case p.name) (map (λ (r : Pou). in_lower_case r.name) ps) distinct in
    by_name (bytes_eq (in_lower_case p.name) (in_lower_case name)) refl (is_program p.kind) parts.0 h (λ later. place_block ps parts.1 name q later)
  where
    named : (rs : Project) → block_named name rs ≡ Some q → bytes_eq (in_lower_case q.name) (in_lower_case name) ≡ true
    named [] k = absurd (cc)
    named (r ∷ rs) k = by_test (not (is_program r.kind)) (bytes_eq (in_lower_case r.name) (in_lower_case name)) refl k (λ l. named rs l)
      where
        by_test : (a b : Bool) → bytes_eq (in_lower_case r.name) (in_lower_case name) ≡ b → (if a && b then Some r else block_named name rs) ≡ Some q → (block_named name rs ≡ Some q → bytes_eq (in_lower_case q.name) (in_lower_case name) ≡ true)
            → bytes_eq (in_lower_case q.name) (in_lower_case name) ≡ true
        by_test true true e is rest = let same : r ≡ q = cc in subst (λ (x : Pou). bytes_eq (in_lower_case x.name) (in_lower_case name) ≡ true) same e
        by_test true false e is rest = rest is
        by_test false b e is rest = rest is

    by_name : (b : Bool) → bytes_eq (in_lower_case p.name) (in_lower_case name) ≡ b → (a : Bool) → list_any (bytes_eq (in_lower_case p.name)) (map (λ (r : Pou). in_lower_case r.name) ps) ≡ false → (if not a && b then Some p else block_named name ps) ≡ Some q
        → (block_named name ps ≡ Some q → slice_get ps (place_named name ps) ≡ Some q) → slice_get (p ∷ ps) (if b then 0 else place_named name ps + 1) ≡ Some q
    by_name true e false new is rest = is
    by_name true e true new is rest =
        let other = none_passes (bytes_eq (in_lower_case p.name)) (map (λ (r : Pou). in_lower_case r.name) ps) (in_lower_case q.name) new (contains_map (λ (r : Pou). in_lower_case r.name) ps q (block_there name ps q is)) in
        let a = bytes_same _ _ e in
        let b = bytes_same _ _ (named ps is) in
        absurd (true≢false (sym (same_bytes (in_lower_case p.name) (in_lower_case q.name) (a ∙ sym b)) ∙ other))
    by_name false e false new is rest = ap (slice_get (p ∷ ps)) (let z : place_named name ps + 1 ≡ suc (place_named name ps) = omega arith in z) ∙ rest is
    by_name false e true new is rest = ap (slice_get (p ∷ ps)) (let z : place_named name ps + 1 ≡ suc (place_named name ps) = omega arith in z) ∙ rest is

-- an in-out that is listed is bound to the variable that is found for it
bind_is : (bound : List InOutPin) (key : List ℕ) → list_any (λ (i : InOutPin). bytes_eq (in_lower_case i.name) key) bound ≡ true → (leaf : List ℕ → Path) → bind bound leaf key ≡ leaf (bound_variable bound key)
bind_is [] key h leaf = absurd (cc)
bind_is (i ∷ is) key h leaf = by_test (bytes_eq (in_lower_case i.name) key) h (λ k. bind_is is key k leaf)
  where
    by_test : (b : Bool) → (b || list_any (λ (j : InOutPin). bytes_eq (in_lower_case j.name) key) is) ≡ true → (list_any (λ (j : InOutPin). bytes_eq (in_lower_case j.name) key) is ≡ true → bind is leaf key ≡ leaf (bound_variable is key))
        → (if b then leaf i.variable else bind is leaf key) ≡ leaf (if b then i.variable else bound_variable is key)
    by_test true k rest = refl
    by_test false k rest = rest k

-- and that variable is one of those that are listed under the name
pub bound_in : (bound : List InOutPin) (key : List ℕ) → list_any (λ (i : InOutPin). bytes_eq (in_lower_case i.name) key) bound ≡ true → (i : InOutPin) × Contains bound i × (bound_variable bound key ≡ i.variable) × (in_lower_case i.name ≡ key)
bound_in [] key h = absurd (cc)
bound_in (i ∷ is) key h = by_test (bytes_eq (in_lower_case i.name) key) refl h (λ k. bound_in is key k)
  where
    by_test : (b : Bool) → bytes_eq (in_lower_case i.name) key ≡ b → (b || list_any (λ (j : InOutPin). bytes_eq (in_lower_case j.name) key) is) ≡ true
        → (list_any (λ (j : InOutPin). bytes_eq (in_lower_case j.name) key) is ≡ true → (j : InOutPin) × Contains is j × (bound_variable is key ≡ j.variable) × (in_lower_case j.name ≡ key))
        → (j : InOutPin) × Contains (i ∷ is) j × ((if b then i.variable else bound_variable is key) ≡ j.variable) × (in_lower_case j.name ≡ key)
    by_test true e k rest = (i, contains_first i is, refl, bytes_same (in_lower_case i.name) key e)
    by_test false e k rest = let r = rest k in (r.0, contains_later i is r.0 r.1, r.2, r.3)

-- each in-out of a block is listed
pub listed_each : (bound : List InOutPin) (ws : List Variable) → all_listed bound ws ≡ true → Each (λ key. list_any (λ (i : InOutPin). bytes_eq (in_lower_case i.name) key) bound ≡ true) (in_out_names ws)
listed_each bound [] h = tt
listed_each bound (w ∷ ws) h = by_class w.class parts.0 (listed_each bound ws parts.1)
  where
    Listed : List ℕ → Type 0
    Listed key = list_any (λ (i : InOutPin). bytes_eq (in_lower_case i.name) key) bound ≡ true

    one : tree.Class → Bool
    one k = elim k [ tree.InOut ↦ list_any (λ (i : InOutPin). bytes_eq (in_lower_case i.name) (in_lower_case w.name)) bound | _ ↦ true ]

    test : tree.Class → Bool
    test k = elim k [ tree.InOut ↦ true | _ ↦ false ]

    parts : (one w.class ≡ true) × (all_listed bound ws ≡ true)
    parts = and_parts (one w.class) (all_listed bound ws) h

    by_class : (k : tree.Class) → one k ≡ true → Each Listed (in_out_names ws) → Each Listed (map (λ (u : Variable). in_lower_case u.name) (if test k then w ∷ filter (λ u. is_in_out (Some u)) ws else filter (λ u. is_in_out (Some u)) ws))
    by_class tree.Local k rest = rest
    by_class tree.Input k rest = rest
    by_class tree.Output k rest = rest
    by_class tree.Temp k rest = rest
    by_class tree.InOut k rest = (k, rest)

-- the leaves that have places
fst_there : (xs : List Place) (i : ℕ) (x : Path) → slice_get (map (λ (y : Place). y.0) xs) i ≡ Some x → (t : Ty) × (slice_get xs i ≡ Some (x, t))
fst_there [] i x h = absurd (cc)
fst_there (y ∷ ys) zero x h = let e : y.0 ≡ x = cc in (y.1, ap (λ z. Some (z, y.1)) e)
fst_there (y ∷ ys) (suc i) x h = fst_there ys i x h

module _ (project : Project) (fits : ProjectFits project) (p : Pou) (one : PouFits project p) (nests : PouNests 16 project p) (es : List DiagramElement) (width : ℕ) where
  -- where the memories of an instance stand
  cells_place : (i : List ℕ) (v : Variable) → variable_named (in_lower_case i) (variables_of p.lists) ≡ Some v → (q : Pou) → nested.IsUser project v q → PouNests 15 project q → in_lower_case v.name ≡ in_lower_case i → (j : ℕ) (x : Path) (k : Memory) → slice_get (cells depth project q) j ≡ Some (x, k)
      → slice_get (cells depth project p) (length (flat_map element_cells p.elements) + first_leaf (cell_count project) (in_lower_case i) (variables_of p.lists) + j) ≡ Some (x ++ in_lower_case i ∷ [], k)
  cells_place i v found q user below name j x k there =
      let own = flat_map element_cells p.elements in
      let inner = instance_cells (cells inner_depth project) project in
      let n = first_leaf (cell_count project) (in_lower_case i) (variables_of p.lists) in
      let same : cells inner_depth project q ≡ cells depth project q = cells_steady project (distinct_of project fits) 15 q (distinct_of project fits v.ty q user.block) below 17 18 (omega arith) (omega arith) in
      let are : inner v ≡ cells_behind (in_lower_case v.name) (cells inner_depth project q) = ap (λ o. elim o [ Some r ↦ cells_behind (in_lower_case v.name) (cells inner_depth project r) | None ↦ [] ]) (is_user project v q user) in
      ap (slice_get (own ++ flat_map inner (variables_of p.lists))) (let z : length own + n + j ≡ length own + (n + j) = omega arith in z)
      ∙ past_front own (flat_map inner (variables_of p.lists)) (n + j)
      ∙ from_first inner (in_lower_case i) (variables_of p.lists) v found j (x ++ in_lower_case i ∷ [], k)
      (ap (λ l. slice_get l j) are
      ∙ slice_get-map (λ (y : Cell). (y.0 ++ in_lower_case v.name ∷ [], y.1)) (cells inner_depth project q) j
      ∙ ap (option_map (λ (y : Cell). (y.0 ++ in_lower_case v.name ∷ [], y.1))) (ap (λ l. slice_get l j) same ∙ there)
      ∙ ap (λ m. Some (x ++ m ∷ [], k)) name)

  pub callee_right : (done : List (ℕ × Port)) (instance : List ℕ) (in_outs : List InOutPin) (within : List Variable) → IsInstance (world_of project) (variables_of p.lists) instance within
      → Each (InOutFits (record { project = project; pou = p; done = done }) within) in_outs → all_listed in_outs within ≡ true
      → RightCallee (place_of project p es width) instance in_outs (callee_of project p (in_lower_case instance) (variable_named (in_lower_case instance) (variables_of p.lists)))
  callee_right done instance in_outs within inst bound all =
      subst (λ o. RightCallee (place_of project p es width) instance in_outs (callee_of project p (in_lower_case instance) o)) (sym inst.found) (by_kind (kind_named inst.variable.ty) refl)
    where
      v : Variable
      v = inst.variable

      key : List ℕ
      key = in_lower_case instance

      leaf : ℕ
      leaf = first_leaf (leaf_count project) key (variables_of p.lists)

      memory : ℕ
      memory = length (flat_map element_cells p.elements) + first_leaf (cell_count project) key (variables_of p.lists)

      names : Option Pou → List (List ℕ)
      names o = elim o [ Some q ↦ in_out_names (variables_of q.lists) | None ↦ [] ]

      callee_by : Option StdKind → Callee
      callee_by k = elim k [ Some j ↦ Block j leaf | None ↦ User (place_named v.ty project) leaf memory (names (block_named v.ty project)) ]

      bound_right : (k : List ℕ) → list_any (λ (i : InOutPin). bytes_eq (in_lower_case i.name) k) in_outs ≡ true → IsBound (place_of project p es width) in_outs k
      bound_right k h =
          let b = bound_in in_outs k h in
          let fit = each_at (InOutFits (record { project = project; pou = p; done = done }) within) in_outs b.0 bound b.1 in
          record { is = bind_is in_outs k h; operand = subst (IsOperand (place_of project p es width)) (sym b.2) (operand_right project (distinct_of project fits) p one nests es width b.0.variable fit.0 fit.2) }

      by_kind : (k : Option StdKind) → kind_named v.ty ≡ k → RightCallee (place_of project p es width) instance in_outs (callee_by k)
      by_kind (Some k) e = record {
        variable = v;
        found = inst.found;
        kind = e;
        leaves = λ i q there.
            slice_get-map (λ (y : Place). y.0) (places_of project (variables_of p.lists)) (leaf + i)
            ∙ ap (option_map (λ (y : Place). y.0))
            (within_place project (distinct_of project fits) p one nests instance v inst.found inst.composite i (in_lower_case q.name ∷ []) q.ty
            (ap (λ l. slice_get l i) (ap (places depth (world_of project)) (composed_standard (world_of project) v.ty k e) ∙ pins_places 17 (world_of project) k)
            ∙ slice_get-map (λ (r : Leaf'). (in_lower_case r.name ∷ [], r.ty)) (pins k) i
            ∙ ap (option_map (λ (r : Leaf'). (in_lower_case r.name ∷ [], r.ty))) there));
      }
      by_kind None e =
          let n = nests key v inst.found inst.composite e in
          let q : Pou = n.0 in
          let user : nested.IsUser project v q = record { composite = inst.composite; user = e; block = n.1 } in
          let name = found_name key (variables_of p.lists) v inst.found in
          let inside : within ≡ variables_of q.lists = inst.parts ∙ composed_user project v.ty e ∙ ap (λ o. variables_of (elim o [ Some r ↦ r.lists | None ↦ [] ])) n.1 in
          let higher = highest_of project (distinct_of project fits) (instance_level (level 16 project) project) (variables_of p.lists) v (variable_there key (variables_of p.lists) v inst.found) in
          let lower = ap (λ o. elim o as (λ (x : Option Pou). ℕ) [ Some r ↦ suc (level 16 project r) | None ↦ 0 ]) (is_user project v q user) in
          let steady = levels_steady project (distinct_of project fits) 15 q (distinct_of project fits v.ty q n.1) n.2 16 17 (omega arith) (omega arith) in
          record {
            variable = v;
            found = inst.found;
            user = e;
            plan = plan_of project q;
            is_plan = slice_get-map (plan_of project) project (place_named v.ty project) ∙ ap (option_map (plan_of project)) (place_block project fits.names v.ty q n.1);
            block = n.1;
            level = omega arith;
            lies = record {
              paths = λ i x there.
                  let t = fst_there (places_of project (variables_of q.lists)) i x there in
                  slice_get-map (λ (y : Place). y.0) (places_of project (variables_of p.lists)) (leaf + i)
                  ∙ ap (option_map (λ (y : Place). y.0))
                  (within_place project (distinct_of project fits) p one nests instance v inst.found inst.composite i x t.0 (ap (λ ws. slice_get (places depth (world_of project) ws) i) (sym inst.parts ∙ inside) ∙ t.1));
              cells = λ i x k there. cells_place instance v inst.found q user n.2 name i x k there;
            };
            names = ap names n.1;
            bound_to = subst (Each (IsBound (place_of project p es width) in_outs)) (sym (ap names n.1))
                (each_weaker _ _ (in_out_names (variables_of q.lists)) bound_right (listed_each in_outs (variables_of q.lists) (ap (all_listed in_outs) (sym inside) ∙ all)));
          }
