-- The leaves of an instance of a ready unit lie side by side, and so many levels of function blocks are enough.
use Rattle.std.proofs.Common.{◌≡◌, ℕ, zero, suc, ◌+◌, ◌<◌, ◌≤◌, Bool, true, false, List, [], ◌∷◌, ◌++◌, length, map, Option, Some, None, refl, sym, ap, ap₂, ◌∙◌, subst, arith, inl, inr}
use Rattle.std.specs.Prelude.{slice_get, option_map, is_some, not, max, ◌&&◌, ◌||◌, if◌then◌else◌}
use Rattle.std.specs.List.{list_any, Contains}
use Rattle.std.specs.Str.{bytes_eq}
use Rattle.std.proofs.lemmas.Bool.{true≢false}
use Rattle.std.proofs.lemmas.List.{length-map}
use Rattle.std.proofs.lemmas.Option.{slice_get-map}
use Rattle.plcx_types.specs.declared.ty.Ty.{Ty}
use Rattle.plcx_types.specs.Name.{in_lower_case}
use Rattle.plcx_types.specs.TypeName.{type_named}
use Rattle.plcx_types.specs.Lists.{Each}
use Rattle.plcx_std.specs.declared.kind.StdKind.{StdKind}
use Rattle.plcx_std.specs.Kind.{kind_named}
use Rattle.plcx_meaning.specs.Base.{Path, are_distinct}
use Rattle.plcx_meaning.specs.Tree.{PouText, is_program}
use Rattle.plcx_meaning.specs.Standard.{pin_blocks}
use Rattle.plcx_meaning.specs.Layout.{Variable, variables_of, variable_named, World, Meaning, Elementary, Composed, composed, parts, parts_of, is_kept}
use Rattle.plcx_meaning.specs.Execute.{block_named, world_of}
use Rattle.plcx_meaning.specs.Ready.{VariableIsReady, user_block, TextNests, PouIsReady}
use Rattle.plcx_meaning.proofs.Lists.{each_at, each_weaker, distinct_parts, none_passes, contains_cases, contains_none, contains_map, contains_first, contains_later}
use Rattle.plcx_meaning.proofs.Lookups.{found_name}
use Rattle.plcx_meaning.proofs.Names.{bytes_same, same_bytes, folded_twice}
use Rattle.plcx_meaning.proofs.Units.{variable_there}
use Rattle.plcx_numbered.specs.Numbers.{behind, variable_places, places, highest, depth, inner_depth}
use Rattle.plcx_numbered.specs.Numbers.{Place as Lying}
use Rattle.plcx_numbered.proofs.Leaves.{composed_standard, pins_steady, flat_same, meant_by, from_first}
use Rattle.plcx_numbered.proofs.Variables.{composed_places}
use Rattle.plcx_runnable.proofs.Memories.{first_within}
use Rattle.plcx_text_numbered.specs.Numbers.{places_of, leaf_count, leaf_number, instance_level, level, place_named}

-- a function block of the unit, by an instance of it
pub record IsUserBlock (unit : List PouText) (v : Variable) (q : PouText) : Type 0 where
  pub composite : type_named v.ty ≡ None
  pub user : kind_named v.ty ≡ None
  pub block : block_named v.ty unit ≡ Some q

pub user_is : (unit : List PouText) (v : Variable) (q : PouText) → user_block unit v ≡ Some q → IsUserBlock unit v q
user_is unit v q h = by_type (type_named v.ty) refl (kind_named v.ty) refl h
  where
    by_type : (o : Option Ty) → type_named v.ty ≡ o → (k : Option StdKind) → kind_named v.ty ≡ k → (if is_some o || is_some k then None else block_named v.ty unit) ≡ Some q → IsUserBlock unit v q
    by_type (Some t) e k d is = absurd (cc)
    by_type None e (Some k) d is = absurd (cc)
    by_type None e None d is = record { composite = e; user = d; block = is }

pub is_user : (unit : List PouText) (v : Variable) (q : PouText) → IsUserBlock unit v q → user_block unit v ≡ Some q
is_user unit v q h =
    ap (λ o. if is_some o || is_some (kind_named v.ty) then None else block_named v.ty unit) h.composite
    ∙ ap (λ o. if is_some o then None else block_named v.ty unit) h.user
    ∙ h.block

-- a block is found under its name without case
folded_block : (name : List ℕ) (unit : List PouText) → block_named (in_lower_case name) unit ≡ block_named name unit
folded_block name [] = refl
folded_block name (p ∷ ps) = rw (folded_twice name, folded_block name ps)

-- the variables within an instance of a function block
pub composed_user : (unit : List PouText) (name : List ℕ) → kind_named name ≡ None → composed (world_of unit) name ≡ variables_of (elim (block_named name unit) [ Some q ↦ q.blocks | None ↦ [] ])
composed_user unit name user =
    ap (λ o. elim o [ Some k ↦ variables_of (pin_blocks k) | None ↦ variables_of (world_of unit (in_lower_case name)) ]) user
    ∙ ap (λ o. variables_of (elim o [ Some q ↦ q.blocks | None ↦ [] ])) (folded_block name unit)

pub composed_block : (unit : List PouText) (v : Variable) (q : PouText) → IsUserBlock unit v q → composed (world_of unit) v.ty ≡ variables_of q.blocks
composed_block unit v q h = composed_user unit v.ty h.user ∙ ap (λ o. variables_of (elim o [ Some r ↦ r.blocks | None ↦ [] ])) h.block

some_is : {A : Type 0} (o : Option A) → is_some o ≡ true → (x : A) × (o ≡ Some x)
some_is None h = absurd (cc)
some_is (Some x) h = (x, refl)

-- an instance that is no standard block is one of a function block of the unit
pub block_known : (unit : List PouText) (p : PouText) (v : Variable) → VariableIsReady unit p.kind v → type_named v.ty ≡ None → kind_named v.ty ≡ None → (q : PouText) × IsUserBlock unit v q
block_known unit p v h composite user =
    let b = some_is (block_named v.ty unit)
    (sym (ap (λ o. is_some o || (is_some (kind_named v.ty) || is_some (block_named v.ty unit))) composite ∙ ap (λ o. is_some o || is_some (block_named v.ty unit)) user) ∙ h.known) in
    (b.0, record { composite = composite; user = user; block = b.1 })

-- ---- so many levels are enough

abbrev placed_by : (List Variable → List Lying) → Bool → List ℕ → Meaning → List Lying
placed_by f kept name m = if kept then (elim m [ Elementary t ↦ (name ∷ [], t) ∷ [] | Composed vs ↦ behind name (f vs) ]) else []

-- where the variables of an instance have the same leaves, so has it
variable_steady : (f g : List Variable → List Lying) (world : World) (v : Variable) → (type_named v.ty ≡ None → f (composed world v.ty) ≡ g (composed world v.ty)) → variable_places f world v ≡ variable_places g world v
variable_steady f g world v same = by_type (type_named v.ty) same
  where
    by_type : (o : Option Ty) → (o ≡ None → f (composed world v.ty) ≡ g (composed world v.ty))
        → placed_by f (is_kept v.class) (in_lower_case v.name) (meant_by world v.ty o) ≡ placed_by g (is_kept v.class) (in_lower_case v.name) (meant_by world v.ty o)
    by_type (Some t) h = refl
    by_type None h = ap (λ ps. if is_kept v.class then behind (in_lower_case v.name) ps else []) (h refl)

-- one of the numbers is the highest
pub highest_of : (f : Variable → ℕ) (vs : List Variable) (v : Variable) → Contains vs v → f v ≤ highest f vs
highest_of f [] v h = absurd (contains_none v h)
highest_of f (w ∷ vs) v h =
    elim (contains_cases w vs v h) [
      | inl e ↦ (let s : f w ≡ f v = ap f e in omega arith)
      | inr l ↦ (let s = highest_of f vs v l in omega arith)
    ]

highest_low : (f : Variable → ℕ) (n : ℕ) (vs : List Variable) → Each (λ v. f v ≤ n) vs → highest f vs ≤ n
highest_low f n [] h = omega arith
highest_low f n (v ∷ vs) h = let a = h.0 in let b = highest_low f n vs h.1 in omega arith

highest_same : (f g : Variable → ℕ) (vs : List Variable) → Each (λ v. f v ≡ g v) vs → highest f vs ≡ highest g vs
highest_same f g [] h = refl
highest_same f g (v ∷ vs) h = ap₂ (λ a b. max a b) h.0 (highest_same f g vs h.1)

module _ (unit : List PouText) where
  abbrev world : World
  world = world_of unit

  -- what lies within an instance, where that of a function block is steady
  inner_steady : (v : Variable) → type_named v.ty ≡ None → (i j : ℕ) → ((q : PouText) → user_block unit v ≡ Some q → places (suc i) world (variables_of q.blocks) ≡ places (suc j) world (variables_of q.blocks))
      → places (suc i) world (composed world v.ty) ≡ places (suc j) world (composed world v.ty)
  inner_steady v composite i j below = by_kind (kind_named v.ty) refl (block_named v.ty unit) refl
    where
      by_kind : (k : Option StdKind) → kind_named v.ty ≡ k → (b : Option PouText) → block_named v.ty unit ≡ b → places (suc i) world (composed world v.ty) ≡ places (suc j) world (composed world v.ty)
      by_kind (Some k) e b g =
          let c = composed_standard world v.ty k e in
          ap (places (suc i) world) c ∙ pins_steady i j world k ∙ sym (ap (places (suc j) world) c)
      by_kind None e (Some q) g =
          let u : IsUserBlock unit v q = record { composite = composite; user = e; block = g } in
          let c = composed_block unit v q u in
          ap (places (suc i) world) c ∙ below q (is_user unit v q u) ∙ sym (ap (places (suc j) world) c)
      by_kind None e None g =
          let c = composed_user unit v.ty e ∙ ap (λ o. variables_of (elim o [ Some r ↦ r.blocks | None ↦ [] ])) g in
          ap (places (suc i) world) c ∙ sym (ap (places (suc j) world) c)

  pub places_steady : (m : ℕ) (p : PouText) → TextNests m unit p → (i j : ℕ) → m < i → m < j → places (suc i) world (variables_of p.blocks) ≡ places (suc j) world (variables_of p.blocks)
  places_steady m p nests zero j low low' = absurd (omega arith)
  places_steady m p nests (suc i) zero low low' = absurd (omega arith)
  places_steady zero p nests (suc i) (suc j) low low' =
      flat_same _ _ (variables_of p.blocks) (each_weaker (λ v. user_block unit v ≡ None) _ (variables_of p.blocks) (λ v none.
      variable_steady _ _ world v (λ composite. inner_steady v composite i j (λ q h. let e : None ≡ Some q = sym none ∙ h in absurd (cc)))) nests)
  places_steady (suc m) p nests (suc i) (suc j) low low' =
      flat_same _ _ (variables_of p.blocks) (each_weaker (λ v. (q : PouText) → user_block unit v ≡ Some q → TextNests m unit q) _ (variables_of p.blocks) (λ v below.
      variable_steady _ _ world v (λ composite. inner_steady v composite i j (λ q h. places_steady m q (below q h) i j (omega arith) (omega arith)))) nests)

  -- ---- levels
  level_same : (f g : PouText → ℕ) (v : Variable) → ((q : PouText) → user_block unit v ≡ Some q → f q ≡ g q) → instance_level f unit v ≡ instance_level g unit v
  level_same f g v same = by_user (user_block unit v) same
    where
      by_user : (o : Option PouText) → ((q : PouText) → o ≡ Some q → f q ≡ g q) → ◌≡◌ {A = ℕ} (elim o [ Some q ↦ suc (f q) | None ↦ 0 ]) (elim o [ Some q ↦ suc (g q) | None ↦ 0 ])
      by_user None h = refl
      by_user (Some q) h = ap suc (h q refl)

  levels_steady : (m : ℕ) (p : PouText) → TextNests m unit p → (i j : ℕ) → m < i → m < j → level i unit p ≡ level j unit p
  levels_steady m p nests zero j low low' = absurd (omega arith)
  levels_steady m p nests (suc i) zero low low' = absurd (omega arith)
  levels_steady zero p nests (suc i) (suc j) low low' =
      highest_same _ _ (variables_of p.blocks) (each_weaker (λ v. user_block unit v ≡ None) _ (variables_of p.blocks) (λ v none. level_same _ _ v (λ q h. let e : None ≡ Some q = sym none ∙ h in absurd (cc))) nests)
  levels_steady (suc m) p nests (suc i) (suc j) low low' =
      highest_same _ _ (variables_of p.blocks) (each_weaker (λ v. (q : PouText) → user_block unit v ≡ Some q → TextNests m unit q) _ (variables_of p.blocks) (λ v below.
      level_same _ _ v (λ q h. levels_steady m q (below q h) i j (omega arith) (omega arith))) nests)

  -- no more levels than the blocks lie deep
  pub level_low : (m : ℕ) (p : PouText) → TextNests m unit p → (i : ℕ) → level i unit p ≤ m
  level_low m p nests zero = omega arith
  level_low zero p nests (suc i) = highest_low _ zero (variables_of p.blocks) (each_weaker (λ v. user_block unit v ≡ None) _ (variables_of p.blocks) (λ v none. by_user v (user_block unit v) none) nests)
    where
      by_user : (v : Variable) (o : Option PouText) → o ≡ None → elim o as (λ (x : Option PouText). ℕ) [ Some q ↦ suc (level i unit q) | None ↦ 0 ] ≤ 0
      by_user v None h = omega arith
      by_user v (Some q) h = absurd (cc)
  level_low (suc m) p nests (suc i) =
      highest_low _ (suc m) (variables_of p.blocks) (each_weaker (λ v. (q : PouText) → user_block unit v ≡ Some q → TextNests m unit q) _ (variables_of p.blocks) (λ v below.
      by_user (user_block unit v) (λ q h. level_low m q (below q h) i)) nests)
    where
      by_user : (o : Option PouText) → ((q : PouText) → o ≡ Some q → level i unit q ≤ m) → elim o as (λ (x : Option PouText). ℕ) [ Some q ↦ suc (level i unit q) | None ↦ 0 ] ≤ suc m
      by_user None h = omega arith
      by_user (Some q) h = let k = h q refl in omega arith

-- ---- a block stands at the place of its name

pub place_block : (unit : List PouText) → are_distinct (map (λ (p : PouText). in_lower_case p.name) unit) ≡ true → (name : List ℕ) (q : PouText) → block_named name unit ≡ Some q → slice_get unit (place_named name unit) ≡ Some q
place_block [] distinct name q h = absurd (cc)
place_block (p ∷ ps) distinct name q h =
    let both = distinct_parts (in_lower_case p.name) (map (λ (r : PouText). in_lower_case r.name) ps) distinct in
    by_name (bytes_eq (in_lower_case p.name) (in_lower_case name)) refl (is_program p.kind) both.0 h (λ later. place_block ps both.1 name q later)
  where
    named : (rs : List PouText) → block_named name rs ≡ Some q → (bytes_eq (in_lower_case q.name) (in_lower_case name) ≡ true) × Contains rs q
    named [] k = absurd (cc)
    named (r ∷ rs) k = by_test (not (is_program r.kind)) (bytes_eq (in_lower_case r.name) (in_lower_case name)) refl k (λ l. let n = named rs l in (n.0, contains_later r rs q n.1))
      where
        by_test : (a b : Bool) → bytes_eq (in_lower_case r.name) (in_lower_case name) ≡ b → (if a && b then Some r else block_named name rs) ≡ Some q
            → (block_named name rs ≡ Some q → (bytes_eq (in_lower_case q.name) (in_lower_case name) ≡ true) × Contains (r ∷ rs) q) → (bytes_eq (in_lower_case q.name) (in_lower_case name) ≡ true) × Contains (r ∷ rs) q
        by_test true true e is rest = let same : r ≡ q = cc in subst (λ (x : PouText). (bytes_eq (in_lower_case x.name) (in_lower_case name) ≡ true) × Contains (r ∷ rs) x) same (e, contains_first r rs)
        by_test true false e is rest = rest is
        by_test false b e is rest = rest is

    by_name : (b : Bool) → bytes_eq (in_lower_case p.name) (in_lower_case name) ≡ b → (a : Bool) → list_any (bytes_eq (in_lower_case p.name)) (map (λ (r : PouText). in_lower_case r.name) ps) ≡ false
        → (if not a && b then Some p else block_named name ps) ≡ Some q → (block_named name ps ≡ Some q → slice_get ps (place_named name ps) ≡ Some q) → slice_get (p ∷ ps) (if b then 0 else place_named name ps + 1) ≡ Some q
    by_name true e false new is rest = is
    by_name true e true new is rest =
        let n = named ps is in
        let other = none_passes (bytes_eq (in_lower_case p.name)) (map (λ (r : PouText). in_lower_case r.name) ps) (in_lower_case q.name) new (contains_map (λ (r : PouText). in_lower_case r.name) ps q n.1) in
        let a = bytes_same _ _ e in
        let b = bytes_same _ _ n.0 in
        absurd (true≢false (sym (same_bytes (in_lower_case p.name) (in_lower_case q.name) (a ∙ sym b)) ∙ other))
    by_name false e false new is rest = ap (slice_get (p ∷ ps)) (let z : place_named name ps + 1 ≡ suc (place_named name ps) = omega arith in z) ∙ rest is
    by_name false e true new is rest = ap (slice_get (p ∷ ps)) (let z : place_named name ps + 1 ≡ suc (place_named name ps) = omega arith in z) ∙ rest is

-- ---- where leaves stand

elementary_places : (f : List Variable → List Lying) (world : World) (v : Variable) (t : Ty) → is_kept v.class ≡ true → type_named v.ty ≡ Some t → variable_places f world v ≡ (in_lower_case v.name ∷ [], t) ∷ []
elementary_places f world v t kept typed = rw (kept, typed)

module _ (unit : List PouText) (p : PouText) (one : PouIsReady unit p) where
  abbrev vs : List Variable
  vs = variables_of p.blocks

  abbrev leaves_of : Variable → List Lying
  leaves_of v = variable_places (places inner_depth (world_of unit)) (world_of unit) v

  ready_own : (v : Variable) → Contains vs v → VariableIsReady unit p.kind v
  ready_own v h = each_at (VariableIsReady unit p.kind) vs v one.variables h

  nests_below : (v : Variable) → Contains vs v → (q : PouText) → user_block unit v ≡ Some q → TextNests 15 unit q
  nests_below v there q h = each_at (λ (w : Variable). (r : PouText) → user_block unit w ≡ Some r → TextNests 15 unit r) vs v one.nests there q h

  -- a variable of an elementary type has one leaf
  pub own_place : (x : List ℕ) (v : Variable) (t : Ty) → variable_named (in_lower_case x) vs ≡ Some v → type_named v.ty ≡ Some t → is_kept v.class ≡ true
      → slice_get (places_of unit vs) (leaf_number unit (in_lower_case x) vs) ≡ Some (in_lower_case x ∷ [], t)
  own_place x v t found typed kept =
      ap (slice_get (places_of unit vs)) (let z : leaf_number unit (in_lower_case x) vs ≡ leaf_number unit (in_lower_case x) vs + 0 = omega arith in z)
      ∙ from_first leaves_of (in_lower_case x) vs v found 0 (in_lower_case x ∷ [], t)
      (ap (λ l. slice_get l 0) (elementary_places (places inner_depth (world_of unit)) (world_of unit) v t kept typed) ∙ ap (λ n. Some (n ∷ [], t)) (found_name (in_lower_case x) vs v found))

  -- what lies within an instance, so deep
  within_steady : (v : Variable) → Contains vs v → type_named v.ty ≡ None → places inner_depth (world_of unit) (composed (world_of unit) v.ty) ≡ places depth (world_of unit) (composed (world_of unit) v.ty)
  within_steady v there composite = inner_steady unit v composite 16 17 (λ q h. places_steady unit 15 q (nests_below v there q h) 16 17 (omega arith) (omega arith))

  leaves_are : (v : Variable) → Contains vs v → type_named v.ty ≡ None → leaves_of v ≡ behind (in_lower_case v.name) (places depth (world_of unit) (composed (world_of unit) v.ty))
  leaves_are v there composite =
      let kept : is_kept v.class ≡ true = ap is_kept ((ready_own v there).instance composite).0 in
      composed_places (places inner_depth (world_of unit)) (world_of unit) v kept composite ∙ ap (behind (in_lower_case v.name)) (within_steady v there composite)

  -- what lies within it stands from its first leaf on
  pub within_place : (i : List ℕ) (v : Variable) → variable_named (in_lower_case i) vs ≡ Some v → type_named v.ty ≡ None → (j : ℕ) (x : Path) (t : Ty) → slice_get (places depth (world_of unit) (composed (world_of unit) v.ty)) j ≡ Some (x, t)
      → slice_get (places_of unit vs) (leaf_number unit (in_lower_case i) vs + j) ≡ Some (x ++ in_lower_case i ∷ [], t)
  within_place i v found composite j x t there =
      from_first leaves_of (in_lower_case i) vs v found j (x ++ in_lower_case i ∷ [], t)
      (ap (λ l. slice_get l j) (leaves_are v (variable_there (in_lower_case i) vs v found) composite)
      ∙ slice_get-map (λ (y : Lying). (y.0 ++ in_lower_case v.name ∷ [], y.1)) (places depth (world_of unit) (composed (world_of unit) v.ty)) j
      ∙ ap (option_map (λ (y : Lying). (y.0 ++ in_lower_case v.name ∷ [], y.1))) there
      ∙ ap (λ n. Some (x ++ n ∷ [], t)) (found_name (in_lower_case i) vs v found))

  -- and up to its last
  pub within_low : (i : List ℕ) (v : Variable) → variable_named (in_lower_case i) vs ≡ Some v → type_named v.ty ≡ None
      → leaf_number unit (in_lower_case i) vs + length (places depth (world_of unit) (composed (world_of unit) v.ty)) ≤ length (places_of unit vs)
  within_low i v found composite =
      let low = first_within leaves_of (in_lower_case i) vs v found in
      let long : length (leaves_of v) ≡ length (places depth (world_of unit) (composed (world_of unit) v.ty)) =
      ap length (leaves_are v (variable_there (in_lower_case i) vs v found) composite)
      ∙ length-map (places depth (world_of unit) (composed (world_of unit) v.ty)) (λ (y : Lying). (y.0 ++ in_lower_case v.name ∷ [], y.1)) in
      omega arith

  -- a variable of what lies within
  part_place : (within : List Variable) (x : List ℕ) (w : Variable) (t : Ty) → variable_named (in_lower_case x) within ≡ Some w → type_named w.ty ≡ Some t → is_kept w.class ≡ true
      → slice_get (places depth (world_of unit) within) (leaf_number unit (in_lower_case x) within) ≡ Some (in_lower_case x ∷ [], t)
  part_place within x w t found typed kept =
      ap (slice_get (places depth (world_of unit) within)) (let z : leaf_number unit (in_lower_case x) within ≡ leaf_number unit (in_lower_case x) within + 0 = omega arith in z)
      ∙ from_first leaves_of (in_lower_case x) within w found 0 (in_lower_case x ∷ [], t)
      (ap (λ l. slice_get l 0) (elementary_places (places inner_depth (world_of unit)) (world_of unit) w t kept typed) ∙ ap (λ n. Some (n ∷ [], t)) (found_name (in_lower_case x) within w found))

  parts_are : (v : Variable) → type_named v.ty ≡ None → parts_of (world_of unit) (Some v) ≡ composed (world_of unit) v.ty
  parts_are v e = ap (λ o. parts (meant_by (world_of unit) v.ty o)) e

  pub parts_found : (i : List ℕ) (v : Variable) → variable_named (in_lower_case i) vs ≡ Some v → type_named v.ty ≡ None → parts_of (world_of unit) (variable_named (in_lower_case i) vs) ≡ composed (world_of unit) v.ty
  parts_found i v found composite = ap (parts_of (world_of unit)) found ∙ parts_are v composite

  pub inner_place : (i x : List ℕ) (v : Variable) → variable_named (in_lower_case i) vs ≡ Some v → type_named v.ty ≡ None → (w : Variable) (t : Ty) → variable_named (in_lower_case x) (parts_of (world_of unit) (variable_named (in_lower_case i) vs)) ≡ Some w
      → type_named w.ty ≡ Some t → is_kept w.class ≡ true
      → slice_get (places_of unit vs) (leaf_number unit (in_lower_case i) vs + leaf_number unit (in_lower_case x) (parts_of (world_of unit) (variable_named (in_lower_case i) vs))) ≡ Some (in_lower_case x ∷ in_lower_case i ∷ [], t)
  inner_place i x v found composite w t part typed kept =
      let within = parts_of (world_of unit) (variable_named (in_lower_case i) vs) in
      within_place i v found composite (leaf_number unit (in_lower_case x) within) (in_lower_case x ∷ []) t
      (ap (λ ws. slice_get (places depth (world_of unit) ws) (leaf_number unit (in_lower_case x) within)) (sym (parts_found i v found composite)) ∙ part_place within x w t part typed kept)

  -- the function block of an instance lies at least one level lower
  pub level_below : (v : Variable) → Contains vs v → (q : PouText) → IsUserBlock unit v q → level inner_depth unit q < level inner_depth unit p
  level_below v there q user =
      let h = is_user unit v q user in
      let higher = highest_of (instance_level (level 16 unit) unit) vs v there in
      let lower : instance_level (level 16 unit) unit v ≡ suc (level 16 unit q) = ap (λ o. elim o as (λ (x : Option PouText). ℕ) [ Some r ↦ suc (level 16 unit r) | None ↦ 0 ]) h in
      let steady = levels_steady unit 15 q (nests_below v there q h) 16 17 (omega arith) (omega arith) in
      let whole : level inner_depth unit p ≡ highest (instance_level (level 16 unit) unit) vs = refl in
      omega arith
