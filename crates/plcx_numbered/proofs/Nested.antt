-- What is counted over blocks within blocks: so many levels are enough.
use Rattle.std.proofs.Common.{◌≡◌, ℕ, zero, suc, ◌<◌, ◌≤◌, true, List, [], ◌∷◌, ◌++◌, Option, Some, None, refl, sym, ap, ap₂, ◌∙◌, subst, arith, inl, inr}
use Rattle.std.specs.Prelude.{max}
use Rattle.std.specs.List.{flat_map, Contains}
use Rattle.plcx_types.specs.declared.ty.Ty.{Ty}
use Rattle.plcx_types.specs.Name.{in_lower_case}
use Rattle.plcx_types.specs.TypeName.{type_named}
use Rattle.plcx_types.specs.Lists.{Each}
use Rattle.plcx_std.specs.declared.kind.StdKind.{StdKind}
use Rattle.plcx_std.specs.Kind.{kind_named}
use Rattle.plcx_meaning.specs.Base.{are_distinct}
use Rattle.plcx_meaning.specs.Layout.{Variable, variables_of, variable_named}
use Rattle.plcx_meaning.specs.Diagram.{Pou, Project, block_named}
use Rattle.plcx_meaning.specs.Fits.{PouNests}
use Rattle.plcx_meaning.proofs.Lists.{each_weaker, contains_cases, contains_none}
use Rattle.plcx_meaning.proofs.ReadyUnits.{named_each}
use Rattle.plcx_numbered.specs.Agreeing.{Cell}
use Rattle.plcx_numbered.specs.Numbers.{user_of, cells_behind, element_cells, instance_cells, cells, highest, instance_level, level}
use Rattle.plcx_numbered.proofs.Leaves.{names_of, AreDistinct, flat_same}

-- the block of an instance
pub record IsUser (project : Project) (v : Variable) (q : Pou) : Type 0 where
  pub composite : type_named v.ty ≡ None
  pub user : kind_named v.ty ≡ None
  pub block : block_named v.ty project ≡ Some q

pub user_is : (project : Project) (v : Variable) (q : Pou) → user_of project v ≡ Some q → IsUser project v q
user_is project v q h = by_type (type_named v.ty) refl (kind_named v.ty) refl h
  where
    by_type : (o : Option Ty) → type_named v.ty ≡ o → (k : Option StdKind) → kind_named v.ty ≡ k → elim o [ Some t ↦ None | None ↦ elim k [ Some j ↦ None | None ↦ block_named v.ty project ] ] ≡ Some q → IsUser project v q
    by_type (Some t) e k d is = absurd (cc)
    by_type None e (Some k) d is = absurd (cc)
    by_type None e None d is = record { composite = e; user = d; block = is }

pub is_user : (project : Project) (v : Variable) (q : Pou) → IsUser project v q → user_of project v ≡ Some q
is_user project v q h =
    ap (λ o. elim o [ Some t ↦ None | None ↦ elim (kind_named v.ty) [ Some j ↦ None | None ↦ block_named v.ty project ] ]) h.composite
    ∙ ap (λ o. elim o [ Some j ↦ None | None ↦ block_named v.ty project ]) h.user
    ∙ h.block

-- one level below is one of the variables' blocks
pub nests_below : (project : Project) (m : ℕ) (p : Pou) → PouNests (suc m) project p → (v : Variable) → variable_named (in_lower_case v.name) (variables_of p.lists) ≡ Some v → (q : Pou) → user_of project v ≡ Some q → PouNests m project q
nests_below project m p nests v found q h =
    let u = user_is project v q h in
    let n = nests (in_lower_case v.name) v found u.composite u.user in
    let e : Some n.0 ≡ Some q = sym n.1 ∙ u.block in
    let same : n.0 ≡ q = cc in
    subst (PouNests m project) same n.2

pub nests_none : (project : Project) (p : Pou) → PouNests zero project p → (v : Variable) → variable_named (in_lower_case v.name) (variables_of p.lists) ≡ Some v → (q : Pou) → user_of project v ≡ Some q → ⊥
nests_none project p nests v found q h =
    let u = user_is project v q h in
    let n = nests (in_lower_case v.name) v found u.composite u.user in
    let e : None ≡ Some q = sym n ∙ u.block in
    cc

-- what comes of a POU by what comes of the blocks of its instances
module _ {A : Type 0} (project : Project) (distinct : AreDistinct project) (F : (Pou → A) → Pou → A) (it : ℕ → Pou → A) (is : (n : ℕ) (p : Pou) → it (suc n) p ≡ F (it n) p)
    (depends : (f g : Pou → A) (p : Pou) → are_distinct (names_of p) ≡ true → ((v : Variable) (q : Pou) → variable_named (in_lower_case v.name) (variables_of p.lists) ≡ Some v → user_of project v ≡ Some q → f q ≡ g q) → F f p ≡ F g p) where
  pub steady : (m : ℕ) (p : Pou) → are_distinct (names_of p) ≡ true → PouNests m project p → (i j : ℕ) → m < i → m < j → it i p ≡ it j p
  steady m p apart nests zero j low low' = absurd (omega arith)
  steady m p apart nests (suc i) zero low low' = absurd (omega arith)
  steady zero p apart nests (suc i) (suc j) low low' = is i p ∙ depends (it i) (it j) p apart (λ v q found h. absurd (nests_none project p nests v found q h)) ∙ sym (is j p)
  steady (suc m) p apart nests (suc i) (suc j) low low' =
      is i p
      ∙ depends (it i) (it j) p apart (λ v q found h. steady m q (distinct v.ty q (user_is project v q h).block) (nests_below project m p nests v found q h) i j (omega arith) (omega arith))
      ∙ sym (is j p)

-- ---- memories
instance_same : (project : Project) (f g : Pou → List Cell) (v : Variable) → ((q : Pou) → user_of project v ≡ Some q → f q ≡ g q) → instance_cells f project v ≡ instance_cells g project v
instance_same project f g v same = by_user (user_of project v) same
  where
    by_user : (o : Option Pou) → ((q : Pou) → o ≡ Some q → f q ≡ g q) → ◌≡◌ {A = List Cell} (elim o [ Some q ↦ cells_behind (in_lower_case v.name) (f q) | None ↦ [] ]) (elim o [ Some q ↦ cells_behind (in_lower_case v.name) (g q) | None ↦ [] ])
    by_user None h = refl
    by_user (Some q) h = ap (cells_behind (in_lower_case v.name)) (h q refl)

module _ (project : Project) (distinct : AreDistinct project) where
  cells_depend : (f g : Pou → List Cell) (p : Pou) → are_distinct (names_of p) ≡ true → ((v : Variable) (q : Pou) → variable_named (in_lower_case v.name) (variables_of p.lists) ≡ Some v → user_of project v ≡ Some q → f q ≡ g q)
      → flat_map element_cells p.elements ++ flat_map (instance_cells f project) (variables_of p.lists) ≡ flat_map element_cells p.elements ++ flat_map (instance_cells g project) (variables_of p.lists)
  cells_depend f g p apart same =
      ap (λ xs. flat_map element_cells p.elements ++ xs)
      (flat_same _ _ (variables_of p.lists) (each_weaker _ _ (variables_of p.lists) (λ v found. instance_same project f g v (λ q h. same v q found h)) (named_each (variables_of p.lists) apart)))

  pub cells_steady : (m : ℕ) (p : Pou) → are_distinct (names_of p) ≡ true → PouNests m project p → (i j : ℕ) → m < i → m < j → cells i project p ≡ cells j project p
  cells_steady = steady project distinct (λ f p. flat_map element_cells p.elements ++ flat_map (instance_cells f project) (variables_of p.lists)) (λ n p. cells n project p) (λ n p. refl) cells_depend

  -- ---- levels
  highest_same : (f g : Variable → ℕ) (vs : List Variable) → Each (λ v. f v ≡ g v) vs → highest f vs ≡ highest g vs
  highest_same f g [] h = refl
  highest_same f g (v ∷ vs) h = ap₂ (λ a b. max a b) h.0 (highest_same f g vs h.1)

  level_same : (f g : Pou → ℕ) (v : Variable) → ((q : Pou) → user_of project v ≡ Some q → f q ≡ g q) → instance_level f project v ≡ instance_level g project v
  level_same f g v same = by_user (user_of project v) same
    where
      by_user : (o : Option Pou) → ((q : Pou) → o ≡ Some q → f q ≡ g q) → ◌≡◌ {A = ℕ} (elim o [ Some q ↦ suc (f q) | None ↦ 0 ]) (elim o [ Some q ↦ suc (g q) | None ↦ 0 ])
      by_user None h = refl
      by_user (Some q) h = ap suc (h q refl)

  pub levels_steady : (m : ℕ) (p : Pou) → are_distinct (names_of p) ≡ true → PouNests m project p → (i j : ℕ) → m < i → m < j → level i project p ≡ level j project p
  levels_steady = steady project distinct (λ f p. highest (instance_level f project) (variables_of p.lists)) (λ n p. level n project p) (λ n p. refl)
      (λ f g p apart same. highest_same _ _ (variables_of p.lists) (each_weaker _ _ (variables_of p.lists) (λ v found. level_same f g v (λ q h. same v q found h)) (named_each (variables_of p.lists) apart)))

  highest_low : (f : Variable → ℕ) (n : ℕ) (vs : List Variable) → Each (λ v. f v ≤ n) vs → highest f vs ≤ n
  highest_low f n [] h = omega arith
  highest_low f n (v ∷ vs) h = let a = h.0 in let b = highest_low f n vs h.1 in omega arith

  pub highest_of : (f : Variable → ℕ) (vs : List Variable) (v : Variable) → Contains vs v → f v ≤ highest f vs
  highest_of f [] v h = absurd (contains_none v h)
  highest_of f (w ∷ vs) v h =
      elim (contains_cases w vs v h) [
        | inl e ↦ (let s : f w ≡ f v = ap f e in omega arith)
        | inr l ↦ (let s = highest_of f vs v l in omega arith)
      ]

  -- no more levels than the blocks lie deep
  pub level_low : (m : ℕ) (p : Pou) → are_distinct (names_of p) ≡ true → PouNests m project p → (i : ℕ) → level i project p ≤ m
  level_low m p apart nests zero = omega arith
  level_low zero p apart nests (suc i) =
      highest_low _ zero (variables_of p.lists) (each_weaker _ _ (variables_of p.lists) (λ v found. none v (user_of project v) (λ q h. nests_none project p nests v found q h)) (named_each (variables_of p.lists) apart))
    where
      none : (v : Variable) (o : Option Pou) → ((q : Pou) → o ≡ Some q → ⊥) → elim o as (λ (x : Option Pou). ℕ) [ Some q ↦ suc (level i project q) | None ↦ 0 ] ≤ 0
      none v None h = omega arith
      none v (Some q) h = absurd (h q refl)
  level_low (suc m) p apart nests (suc i) =
      highest_low _ (suc m) (variables_of p.lists) (each_weaker _ _ (variables_of p.lists) (λ v found. one v (user_of project v)
      (λ q h. level_low m q (distinct v.ty q (user_is project v q h).block) (nests_below project m p nests v found q h) i)) (named_each (variables_of p.lists) apart))
    where
      one : (v : Variable) (o : Option Pou) → ((q : Pou) → o ≡ Some q → level i project q ≤ m) → elim o as (λ (x : Option Pou). ℕ) [ Some q ↦ suc (level i project q) | None ↦ 0 ] ≤ suc m
      one v None h = omega arith
      one v (Some q) h = let k = h q refl in omega arith
