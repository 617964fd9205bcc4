-- The tables of a project's POUs have the counts of its diagrams.
use Rattle.std.proofs.Common.{◌≡◌, ℕ, zero, suc, ◌+◌, true, false, List, [], ◌∷◌, ◌++◌, length, map, max, Bool, Option, Some, None, refl, sym, ap, ap₂, ◌∙◌, subst, arith}
use Rattle.std.specs.Prelude.{slice_get, slice_index, if◌then◌else◌}
use Rattle.std.specs.List.{flat_map, sum_by, AllZip}
use Rattle.std.proofs.lemmas.List.{length-append, length-map}
use Rattle.std.proofs.lemmas.List.Sums.{sum_by-cons}
use Rattle.std.proofs.lemmas.Option.{same_Some}
use Rattle.plcx_types.specs.Name.{in_lower_case}
use Rattle.plcx_meaning.specs.Base.{AtEdge, AtOutput}
use Rattle.plcx_meaning.specs.Diagram.{Port, DiagramElement, Pou, Project, has_edge}
use Rattle.plcx_meaning.specs.Evaluate.{world_of}
use Rattle.plcx_meaning.specs.Layout.{Variable, variables_of}
use Rattle.plcx_numbered.specs.Agreeing.{Cell}
use Rattle.plcx_numbered.specs.Numbers.{variable_places, places, element_cells, cells, instance_cells, highest, instance_level, level, places_of, depth, inner_depth}
use Rattle.plcx_tables.specs.declared.levels.Rule.TheVariants.{Leaves, Memories, Levels}
use Rattle.plcx_tables.specs.declared.own.Own.{Own}
use Rattle.plcx_tables.specs.declared.placed.Table.{Table}
use Rattle.plcx_tables.specs.Telling.{Told, told}
use Rattle.plcx_tables.specs.Owned.{IsOwn, AreOwn, places_of as at_places, outputs_of, remembered, remembered_by}
use Rattle.plcx_tables.specs.Levels.{user, leaf_weight, memory_weight, level_weight, greatest, leaves_of, memories_of, level_of, stepped, repeated}
use Rattle.plcx_tables.specs.Tabled.{IsPlaced, deep_leaves, deep_memories, deep_levels}
use Rattle.plcx_tables.proofs.Meant.{or_zero, leaves_to, memories_to, leaf_is, first_leaf_is, memory_is, level_is}

-- ---- sums over what is told

pub summed : (f : Told → ℕ) (g : Variable → ℕ) (project : Project) → ((v : Variable) → f (told project v) ≡ g v) → (vs : List Variable) → sum_by f (map (told project) vs) ≡ sum_by g vs
summed f g project same [] = refl
summed f g project same (v ∷ vs) = sum_by-cons f (told project v) (map (told project) vs) ∙ ap₂ (λ a b. a + b) (same v) (summed f g project same vs) ∙ sym (sum_by-cons g v vs)

flat_length : {A B : Type 0} (f : A → List B) (xs : List A) → sum_by (λ x. length (f x)) xs ≡ length (flat_map f xs)
flat_length f [] = refl
flat_length f (x ∷ xs) = sum_by-cons (λ y. length (f y)) x xs ∙ ap (λ n. length (f x) + n) (flat_length f xs) ∙ sym (length-append (f x) (flat_map f xs))

highest_told : (f : Told → ℕ) (g : Variable → ℕ) (project : Project) → ((v : Variable) → f (told project v) ≡ g v) → (vs : List Variable) → greatest f (map (told project) vs) ≡ highest g vs
highest_told f g project same [] = refl
highest_told f g project same (v ∷ vs) = ap₂ max (same v) (highest_told f g project same vs)

pub remembered_count : (es : List DiagramElement) → length (at_places (remembered es)) ≡ length (flat_map element_cells es)
remembered_count es = length-map (remembered es) Some ∙ from es
  where
    by : (b : Bool) (e : DiagramElement) → length ((if b then AtEdge e.id ∷ [] else []) ++ outputs_of e.id e.fed) ≡ length {A = Cell} ((if b then ([], AtEdge e.id) ∷ [] else []) ++ map (λ (p : Port). ([], AtOutput e.id (in_lower_case p.pin))) e.fed)
    by true e = ap suc (length-map e.fed _ ∙ sym (length-map e.fed _))
    by false e = length-map e.fed _ ∙ sym (length-map e.fed _)

    from : (es : List DiagramElement) → length (remembered es) ≡ length (flat_map element_cells es)
    from [] = refl
    from (e ∷ es) = length-append (remembered_by e) (remembered es) ∙ ap₂ (λ a b. a + b) (by (has_edge e.kind) e) (from es) ∙ sym (length-append (element_cells e) (flat_map element_cells es))

-- ---- lists that go together

from_zip : {X Y : Type 0} (R : X → Y → Type 0) (f : Y → ℕ) (g : X → ℕ) → ((x : X) (y : Y) → R x y → f y ≡ g x) → (xs : List X) (ys : List Y) → AllZip R xs ys → map f ys ≡ map g xs
from_zip R f g same [] [] h = refl
from_zip R f g same [] (y ∷ ys) h = absurd h
from_zip R f g same (x ∷ xs) [] h = absurd h
from_zip R f g same (x ∷ xs) (y ∷ ys) h = ap₂ (λ a b. a ∷ b) (same x y h.0) (from_zip R f g same xs ys h.1)

-- the pair at a place
pub zip_at : {X Y : Type 0} (R : X → Y → Type 0) (xs : List X) (ys : List Y) → AllZip R xs ys → (k : ℕ) (x : X) → slice_get xs k ≡ Some x → (y : Y) × (slice_get ys k ≡ Some y) × R x y
zip_at R [] ys h k x there = absurd (let no : ⊥ = cc in no)
zip_at R (z ∷ xs) [] h k x there = absurd h
zip_at R (z ∷ xs) (y ∷ ys) h zero x there = (y, refl, subst (λ w. R w y) (same_Some z x there) h.0)
zip_at R (z ∷ xs) (y ∷ ys) h (suc k) x there = zip_at R xs ys h.1 k x there

rounds : (f : List ℕ → List ℕ) (g : ℕ → List ℕ) → ((n : ℕ) → f (g n) ≡ g (suc n)) → (k n : ℕ) → repeated k f (g n) ≡ g (k + n)
rounds f g step zero n = ap g (let e : n ≡ 0 + n = omega arith in e)
rounds f g step (suc k) n = ap (repeated k f) (step n) ∙ rounds f g step k (suc n) ∙ ap g (let e : k + suc n ≡ suc k + n = omega arith in e)

no_numbers : (ps : Project) (i : ℕ) → slice_index [] i ≡ slice_index (map (λ (p : Pou). 0) ps) i
no_numbers [] i = refl
no_numbers (p ∷ ps) zero = refl
no_numbers (p ∷ ps) (suc i) = (let e : slice_index [] (suc i) ≡ slice_index [] i = refl in e) ∙ no_numbers ps i

-- ---- all POUs of a project

module _ (project : Project) where
  own_leaves : (n : ℕ) (p : Pou) (own : Own) → IsOwn project p own → leaves_of true own (map (leaves_to project (suc n)) project) ≡ leaves_to project (suc (suc n)) p
  own_leaves n p own h =
      let L = map (leaves_to project (suc n)) project in
      ap (sum_by (leaf_weight true L)) h.variables ∙ summed (leaf_weight true L) _ project (leaf_is project n) (variables_of p.lists)
      ∙ flat_length (variable_places (places (suc n) (world_of project)) (world_of project)) (variables_of p.lists)

  own_first : (p : Pou) (own : Own) → IsOwn project p own → leaves_of false own [] ≡ leaves_to project 1 p
  own_first p own h =
      ap (sum_by (leaf_weight false [])) h.variables ∙ summed (leaf_weight false []) _ project (first_leaf_is project) (variables_of p.lists)
      ∙ flat_length (variable_places (places zero (world_of project)) (world_of project)) (variables_of p.lists)

  memories_by : (M : List ℕ) (n : ℕ) → ((v : Variable) → memory_weight M (told project v) ≡ length (instance_cells (cells n project) project v)) → (p : Pou) (own : Own) → IsOwn project p own → memories_of own M ≡ memories_to project (suc n) p
  memories_by M n same p own h =
      ap₂ (λ a b. a + b) (h.memories.long ∙ remembered_count p.elements)
      (ap (sum_by (memory_weight M)) h.variables ∙ summed (memory_weight M) _ project same (variables_of p.lists) ∙ flat_length (instance_cells (cells n project) project) (variables_of p.lists))
      ∙ sym (length-append (flat_map element_cells p.elements) (flat_map (instance_cells (cells n project) project) (variables_of p.lists)))

  no_memories : (v : Variable) → memory_weight [] (told project v) ≡ length (instance_cells (cells zero project) project v)
  no_memories v = by (user (told project v)) ∙ memory_is project zero v
    where
      by : (o : Option ℕ) → or_zero (slice_index []) o ≡ or_zero (slice_index (map (memories_to project zero) project)) o
      by None = refl
      by (Some place) = no_numbers project place

  level_by : (L : List ℕ) (n : ℕ) → ((v : Variable) → level_weight L (told project v) ≡ instance_level (level n project) project v) → (p : Pou) (own : Own) → IsOwn project p own → level_of own L ≡ level (suc n) project p
  level_by L n same p own h = ap (greatest (level_weight L)) h.variables ∙ highest_told (level_weight L) _ project same (variables_of p.lists)

  no_levels : (v : Variable) → level_weight [] (told project v) ≡ instance_level (level zero project) project v
  no_levels v = by (user (told project v)) ∙ level_is project zero v
    where
      by : (o : Option ℕ) → or_zero (λ i. suc (slice_index [] i)) o ≡ or_zero (λ i. suc (slice_index (map (level zero project) project) i)) o
      by None = refl
      by (Some place) = ap suc (no_numbers project place)

  module _ (owns : List Own) (all : AreOwn project owns) where
    pub deep_leaves_are : deep_leaves owns ≡ map (leaves_to project 17) project
    deep_leaves_are =
        ap (repeated 16 (stepped (Leaves true) owns)) (from_zip (IsOwn project) _ (leaves_to project 1) own_first project owns all)
        ∙ rounds (stepped (Leaves true) owns) (λ n. map (leaves_to project (suc n)) project) (λ n. from_zip (IsOwn project) _ _ (own_leaves n) project owns all) 16 0

    pub deep_memories_are : deep_memories owns ≡ map (memories_to project 17) project
    deep_memories_are =
        ap (repeated 16 (stepped Memories owns)) (from_zip (IsOwn project) _ (memories_to project 1) (memories_by [] zero no_memories) project owns all)
        ∙ rounds (stepped Memories owns) (λ n. map (memories_to project n) project) (λ n. from_zip (IsOwn project) _ _ (memories_by (map (memories_to project n) project) n (memory_is project n)) project owns all) 16 1

    deep_levels_are : deep_levels owns ≡ map (level 16 project) project
    deep_levels_are =
        ap (repeated 15 (stepped Levels owns)) (from_zip (IsOwn project) _ (level 1 project) (level_by [] zero no_levels) project owns all)
        ∙ rounds (stepped Levels owns) (λ n. map (level n project) project) (λ n. from_zip (IsOwn project) _ _ (level_by (map (level n project) project) n (level_is project n)) project owns all) 15 1

    -- the counts of a POU
    module _ (p : Pou) (own : Own) (table : Table) (is_own : IsOwn project p own) (placed : IsPlaced (deep_leaves owns) (deep_memories owns) (deep_levels owns) own table) where
      pub all_leaves_are : table.leaves ≡ length (places_of project (variables_of p.lists))
      all_leaves_are = placed.all_leaves ∙ ap (leaves_of true own) deep_leaves_are ∙ own_leaves 16 p own is_own

      pub all_memories_are : table.memories ≡ length (cells depth project p)
      all_memories_are = placed.all_memories ∙ ap (memories_of own) deep_memories_are ∙ memories_by _ 17 (memory_is project 17) p own is_own

      pub its_level_is : table.level ≡ level inner_depth project p
      its_level_is = placed.its_level ∙ ap (level_of own) deep_levels_are ∙ level_by _ 16 (level_is project 16) p own is_own
