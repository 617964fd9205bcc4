-- What the tables of a project's POUs tell is what its diagrams mean: how many leaves, memories and levels of blocks they have.
use Rattle.std.proofs.Common.{◌≡◌, ℕ, zero, suc, ◌+◌, Bool, true, false, cond, List, [], ◌∷◌, ◌++◌, length, map, Option, Some, None, is_some, option_and_then, refl, sym, ap, ap₂, ◌∙◌, arith}
use Rattle.std.specs.Prelude.{slice_get, slice_index, not, ◌&&◌, if◌then◌else◌}
use Rattle.std.specs.List.{position_from, find}
use Rattle.std.proofs.lemmas.List.{length-map}
use Rattle.plcx_types.specs.declared.ty.Ty.{Ty}
use Rattle.plcx_types.specs.Name.{in_lower_case}
use Rattle.plcx_types.specs.TypeName.{type_named}
use Rattle.plcx_std.specs.declared.kind.StdKind.{StdKind}
use Rattle.plcx_std.specs.declared.kind.StdKind.TheVariants as kind
use Rattle.plcx_std.specs.Kind.{kind_named}
use Rattle.plcx_std.specs.Pins.{pins}
use Rattle.plcx_meaning.specs.Diagram.{Pou, Project, block_named, is_program}
use Rattle.plcx_meaning.specs.Evaluate.{world_of}
use Rattle.plcx_meaning.specs.Layout.{Variable, variables_of, World, Meaning, Elementary, Composed, composed, is_kept}
use Rattle.plcx_meaning.specs.Standard.{pin_blocks}
use Rattle.plcx_rules.specs.Texts.{same_name}
use Rattle.plcx_numbered.specs.Agreeing.{Cell}
use Rattle.plcx_numbered.specs.Numbers.{Place, behind, variable_places, places, cells, user_of, instance_cells, cells_behind, instance_level, level}
use Rattle.plcx_numbered.proofs.Leaves.{composed_user, composed_standard, meant_by}
use Rattle.plcx_names.proofs.Finding.{at_place}
use Rattle.plcx_tables.specs.Tables.{has_key, first_place}
use Rattle.plcx_tables.specs.Telling.{told, block_names}
use Rattle.plcx_tables.specs.Levels.{user, leaf_weight, memory_weight, level_weight}

-- ---- blocks by their places

-- the block of a name stands at the place that is told
pub block_at : (name : List ℕ) (project : Project) → option_and_then (slice_get project) (first_place same_name (block_names project) name) ≡ block_named name project
block_at name project = ap (option_and_then (slice_get project)) (from 0 project) ∙ at_place test project ∙ found project
  where
    test : Pou → Bool
    test p = not (is_program p.kind) && same_name p.name name

    has : (b c : Bool) (n : List ℕ) → same_name n name ≡ c → has_key (λ v. same_name v name) (if b then None else Some n) ≡ not b && c
    has true c n h = refl
    has false c n h = h

    from : (i : ℕ) (ps : Project) → position_from (has_key (λ v. same_name v name)) i (block_names ps) ≡ position_from test i ps
    from i [] = refl
    from i (p ∷ ps) = ap₂ (λ b rest. cond b (Some i) rest) (has (is_program p.kind) (same_name p.name name) p.name refl) (from (i + 1) ps)

    found : (ps : Project) → find test ps ≡ block_named name ps
    found [] = refl
    found (p ∷ ps) = ap (λ rest. cond (test p) (Some p) rest) (found ps)

-- something stands at the place, if one is told
abbrev pub IsThere : {A : Type 0} → List A → Option ℕ → Type 0
IsThere xs None = Unit {0}
IsThere xs (Some place) = is_some (slice_get xs place) ≡ true

-- there is a POU at the place of a block
pub blocks_there : (name : List ℕ) (project : Project) → IsThere project (first_place same_name (block_names project) name)
blocks_there name project = from project 0 project (λ k. (let e : 0 + k ≡ k = omega arith in ap (slice_get project) e))
  where
    from : (whole : Project) (i : ℕ) (ps : Project) → ((k : ℕ) → slice_get whole (i + k) ≡ slice_get ps k) → IsThere whole (position_from (has_key (λ v. same_name v name)) i (block_names ps))
    from whole i [] rest = tt
    from whole i (p ∷ ps) rest =
        by (has_key (λ v. same_name v name) (if is_program p.kind then None else Some p.name))
        (from whole (i + 1) ps (λ k. (let e : i + 1 + k ≡ i + suc k = omega arith in ap (slice_get whole) e) ∙ rest (suc k)))
      where
        by : (b : Bool) → IsThere whole (position_from (has_key (λ v. same_name v name)) (i + 1) (block_names ps)) → IsThere whole (cond b (Some i) (position_from (has_key (λ v. same_name v name)) (i + 1) (block_names ps)))
        by true h = ap is_some ((let e : i ≡ i + 0 = omega arith in ap (slice_get whole) e) ∙ rest 0)
        by false h = h

-- a number of what there is, 0 where there is nothing
abbrev pub or_zero : {A : Type 0} → (A → ℕ) → Option A → ℕ
or_zero f None = 0
or_zero f (Some x) = f x

-- the number at the place of a block
pub number_at : (f : Pou → ℕ) (name : List ℕ) (project : Project) → or_zero (slice_index (map f project)) (first_place same_name (block_names project) name) ≡ or_zero f (block_named name project)
number_at f name project = by (first_place same_name (block_names project) name) ∙ ap (or_zero f) (block_at name project)
  where
    at : (ps : Project) (i : ℕ) → slice_index (map f ps) i ≡ or_zero f (slice_get ps i)
    at [] i = refl
    at (p ∷ ps) zero = refl
    at (p ∷ ps) (suc i) = at ps i

    by : (o : Option ℕ) → or_zero (slice_index (map f project)) o ≡ or_zero f (option_and_then (slice_get project) o)
    by None = refl
    by (Some place) = at project place

-- ---- a variable

-- how many leaves a standard block has
pins_count : (n : ℕ) (world : World) (k : StdKind) → length (places (suc n) world (variables_of (pin_blocks k))) ≡ length (pins k)
pins_count n world kind.Ton = refl
pins_count n world kind.Tof = refl
pins_count n world kind.Tp = refl
pins_count n world kind.Ctu = refl
pins_count n world kind.Ctd = refl
pins_count n world kind.Ctud = refl
pins_count n world kind.Sr = refl
pins_count n world kind.Rs = refl
pins_count n world kind.RTrig = refl
pins_count n world kind.FTrig = refl

-- a number by the standard block, or else
abbrev or_else : (StdKind → ℕ) → ℕ → Option StdKind → ℕ
or_else f n None = n
or_else f n (Some k) = f k

-- the leaves of a variable by what its type stands for
abbrev placed_by : (List Variable → List Place) → Bool → List ℕ → Meaning → List Place
placed_by f kept name m = if kept then (elim m [ Elementary t ↦ (name ∷ [], t) ∷ [] | Composed vs ↦ behind name (f vs) ]) else []

module _ (project : Project) where
  -- the leaves of a POU's instances, so many levels deep
  abbrev pub leaves_to : ℕ → Pou → ℕ
  leaves_to n p = length (places n (world_of project) (variables_of p.lists))

  abbrev pub memories_to : ℕ → Pou → ℕ
  memories_to n p = length (cells n project p)

  composed_count : (n : ℕ) (name : List ℕ) → length (places (suc n) (world_of project) (composed (world_of project) name))
      ≡ or_else (λ k. length (pins k)) (or_zero (leaves_to (suc n)) (block_named name project)) (kind_named name)
  composed_count n name = by (kind_named name) refl
    where
      user_by : (o : Option Pou) → length (places (suc n) (world_of project) (variables_of (elim o [ Some q ↦ q.lists | None ↦ [] ]))) ≡ or_zero (leaves_to (suc n)) o
      user_by None = refl
      user_by (Some q) = refl

      by : (o : Option StdKind) → kind_named name ≡ o → length (places (suc n) (world_of project) (composed (world_of project) name))
          ≡ or_else (λ k. length (pins k)) (or_zero (leaves_to (suc n)) (block_named name project)) o
      by (Some k) e = ap (λ (vs : List Variable). length (places (suc n) (world_of project) vs)) (composed_standard (world_of project) name k e) ∙ pins_count n (world_of project) k
      by None e = ap (λ (vs : List Variable). length (places (suc n) (world_of project) vs)) (composed_user project name e) ∙ user_by (block_named name project)

  -- the leaves of a variable are those that are told
  pub leaf_is : (n : ℕ) (v : Variable) → leaf_weight true (map (leaves_to (suc n)) project) (told project v) ≡ length (variable_places (places (suc n) (world_of project)) (world_of project) v)
  leaf_is n v = by (is_kept v.class) (type_named v.ty)
    where
      inner : ℕ
      inner = or_else (λ k. length (pins k)) (or_zero (slice_index (map (leaves_to (suc n)) project)) (first_place same_name (block_names project) v.ty)) (kind_named v.ty)

      inside : inner ≡ length (places (suc n) (world_of project) (composed (world_of project) v.ty))
      inside = ap (λ (m : ℕ). or_else (λ k. length (pins k)) m (kind_named v.ty)) (number_at (leaves_to (suc n)) v.ty project) ∙ sym (composed_count n v.ty)

      by : (kept : Bool) (o : Option Ty) → (if kept then (if is_some o then 1 else inner) else 0)
          ≡ length (placed_by (places (suc n) (world_of project)) kept (in_lower_case v.name) (meant_by (world_of project) v.ty o))
      by false o = refl
      by true (Some t) = refl
      by true None = inside ∙ sym (length-map (places (suc n) (world_of project) (composed (world_of project) v.ty)) (λ (x : Place). (x.0 ++ in_lower_case v.name ∷ [], x.1)))

  -- and where no block has any yet
  pub first_leaf_is : (v : Variable) → leaf_weight false [] (told project v) ≡ length (variable_places (places zero (world_of project)) (world_of project) v)
  first_leaf_is v = by (is_kept v.class) (type_named v.ty)
    where
      none : (o : Option StdKind) (p : Option ℕ) → or_else (λ k. 0) (or_zero (slice_index []) p) o ≡ 0
      none (Some k) p = refl
      none None (Some place) = refl
      none None None = refl

      by : (kept : Bool) (o : Option Ty) → (if kept then (if is_some o then 1 else or_else (λ k. 0) (or_zero (slice_index []) (first_place same_name (block_names project) v.ty)) (kind_named v.ty)) else 0)
          ≡ length (placed_by (places zero (world_of project)) kept (in_lower_case v.name) (meant_by (world_of project) v.ty o))
      by false o = refl
      by true (Some t) = refl
      by true None = none (kind_named v.ty) (first_place same_name (block_names project) v.ty)

  -- the number of the block that a variable is an instance of
  user_number : (f : Pou → ℕ) (v : Variable) → or_zero (slice_index (map f project)) (user (told project v)) ≡ or_zero f (user_of project v)
  user_number f v = by (type_named v.ty) (kind_named v.ty)
    where
      by : (o : Option Ty) (k : Option StdKind) → or_zero (slice_index (map f project)) (if is_some o then None else (elim k [ Some j ↦ None | None ↦ first_place same_name (block_names project) v.ty ]))
          ≡ or_zero f (elim o [ Some t ↦ None | None ↦ elim k [ Some j ↦ None | None ↦ block_named v.ty project ] ])
      by (Some t) k = refl
      by None (Some j) = refl
      by None None = number_at f v.ty project

  pub memory_is : (n : ℕ) (v : Variable) → memory_weight (map (memories_to n) project) (told project v) ≡ length (instance_cells (cells n project) project v)
  memory_is n v = user_number (memories_to n) v ∙ by (user_of project v)
    where
      by : (o : Option Pou) → or_zero (memories_to n) o ≡ length {A = Cell} (elim o [ Some q ↦ cells_behind (in_lower_case v.name) (cells n project q) | None ↦ [] ])
      by None = refl
      by (Some q) = sym (length-map (cells n project q) _)

  pub level_is : (n : ℕ) (v : Variable) → level_weight (map (level n project) project) (told project v) ≡ instance_level (level n project) project v
  level_is n v = by (type_named v.ty) (kind_named v.ty)
    where
      f : Pou → ℕ
      f = level n project

      same_place : (o : Option ℕ) (w : Option Pou) → option_and_then (slice_get project) o ≡ w → IsThere project o → or_zero (λ place. suc (slice_index (map f project) place)) o ≡ or_zero (λ q. suc (f q)) w
      same_place None w e there = ap (or_zero (λ q. suc (f q))) e
      same_place (Some place) w e there = at project place there ∙ ap (or_zero (λ q. suc (f q))) e
        where
          at : (ps : Project) (i : ℕ) → is_some (slice_get ps i) ≡ true → suc (slice_index (map f ps) i) ≡ or_zero (λ q. suc (f q)) (slice_get ps i)
          at [] i h = absurd (let no : ⊥ = cc in no)
          at (p ∷ ps) zero h = refl
          at (p ∷ ps) (suc i) h = at ps i h

      by : (o : Option Ty) (k : Option StdKind) → or_zero (λ place. suc (slice_index (map f project) place)) (if is_some o then None else (elim k [ Some j ↦ None | None ↦ first_place same_name (block_names project) v.ty ]))
          ≡ or_zero (λ q. suc (f q)) (elim o [ Some t ↦ None | None ↦ elim k [ Some j ↦ None | None ↦ block_named v.ty project ] ])
      by (Some t) k = refl
      by None (Some j) = refl
      by None None = same_place (first_place same_name (block_names project) v.ty) (block_named v.ty project) (block_at v.ty project) (blocks_there v.ty project)
