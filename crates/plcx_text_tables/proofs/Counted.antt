-- The leaves of POUs are those of the unit.
use Rattle.std.proofs.Common.{◌≡◌, ℕ, zero, suc, ◌+◌, Bool, true, false, cond, List, [], ◌∷◌, ◌++◌, Option, Some, None, map, option_map, slice_get, length, length-append, refl, sym, ap, ap₂, ◌∙◌}
use Rattle.std.specs.List.{flat_map, sum_by}
use Rattle.std.proofs.lemmas.List.{length-map}
use Rattle.std.proofs.lemmas.List.Sums.{sum_by-cons}
use Rattle.plcx_types.specs.Name.{in_lower_case}
use Rattle.plcx_std.specs.declared.kind.StdKind.{StdKind}
use Rattle.plcx_std.specs.declared.kind.StdKind.TheVariants as kind
use Rattle.plcx_meaning.specs.Tree as tree
use Rattle.plcx_meaning.specs.Layout.{Variable, variables_of, World, Meaning, Elementary, Composed, meaning, is_kept}
use Rattle.plcx_meaning.specs.Standard.{pin_blocks}
use Rattle.plcx_conditions.specs.Placed.{Pou, bare_pou, bare, Declared, declared, bare_variable}
use Rattle.plcx_conditions.specs.Known.{world_of}
use Rattle.plcx_conditions.proofs.Units.{variables_bare}
use Rattle.plcx_known.specs.declared.types.VarType.{VarType}
use Rattle.plcx_known.specs.declared.types.VarType.TheVariants as type
use Rattle.plcx_known.specs.Types.{type_of, variables_in}
use Rattle.plcx_known.specs.Owned.{Typed, typed, own_of}
use Rattle.plcx_known.specs.Parts.{owners_of}
use Rattle.plcx_known.specs.Sizes.{size_at, pin_count}
use Rattle.plcx_known.proofs.Places.{get_map}
use Rattle.plcx_known.proofs.Standing.{plain, meaning_is}
use Rattle.plcx_known.proofs.LongChains.{at_or, get_or_map}
use Rattle.plcx_numbered.specs.Numbers.{behind, variable_places, places}
use Rattle.plcx_numbered.specs.Numbers.{Place as Lying}
use Rattle.plcx_text_tables.specs.Counts.{type_leaves, leaves_in, counts}

-- ---- leaves

no_places : (n : ℕ) (world : World) → length (places n world []) ≡ 0
no_places zero world = refl
no_places (suc n) world = refl

pins_count : (n : ℕ) (world : World) (k : StdKind) → length (places n world (variables_of (pin_blocks k))) ≡ pin_count n k
pins_count zero world k = refl
pins_count (suc n) world kind.Ton = refl
pins_count (suc n) world kind.Tof = refl
pins_count (suc n) world kind.Tp = refl
pins_count (suc n) world kind.Ctu = refl
pins_count (suc n) world kind.Ctd = refl
pins_count (suc n) world kind.Ctud = refl
pins_count (suc n) world kind.Sr = refl
pins_count (suc n) world kind.Rs = refl
pins_count (suc n) world kind.RTrig = refl
pins_count (suc n) world kind.FTrig = refl

-- what a meaning counts for
abbrev counted : (List Variable → ℕ) → Meaning → ℕ
counted inner m = elim m [ Elementary t ↦ 1 | Composed vs ↦ inner vs ]

variable_count : (inner : List Variable → List Lying) (world : World) (v : Variable) → length (variable_places inner world v) ≡ cond (is_kept v.class) (counted (λ vs. length (inner vs)) (meaning world v.ty)) 0
variable_count inner world v = by (is_kept v.class) (meaning world v.ty)
  where
    by : (kept : Bool) (m : Meaning)
        → length (cond kept (elim m as (λ (x : Meaning). List Lying) [ Elementary t ↦ (in_lower_case v.name ∷ [], t) ∷ [] | Composed vs ↦ behind (in_lower_case v.name) (inner vs) ]) [])
        ≡ cond kept (counted (λ vs. length (inner vs)) m) 0
    by true (Elementary t) = refl
    by true (Composed vs) = length-map (inner vs) (λ (x : Lying). (x.0 ++ in_lower_case v.name ∷ [], x.1))
    by false m = refl

pub flat_count : {A B : Type 0} (f : A → List B) (xs : List A) → length (flat_map f xs) ≡ sum_by (λ x. length (f x)) xs
flat_count f [] = refl
flat_count f (x ∷ xs) = length-append (f x) (flat_map f xs) ∙ ap (λ n. length (f x) + n) (flat_count f xs) ∙ sym (sum_by-cons (λ y. length (f y)) x xs)

module _ (pous : List Pou) where
  abbrev unit : List tree.PouText
  unit = bare pous

  abbrev count_in : ℕ → Pou → ℕ
  count_in n p = length (places n (world_of unit) (variables_of (bare_pou p).blocks))

  abbrev Told : ℕ → Type 0
  Told n = counts n (owners_of pous) ≡ map (count_in n) pous

  block_count : (n : ℕ) → Told n → (place : ℕ) → length (places n (world_of unit) (variables_in (slice_get unit place))) ≡ size_at (counts n (owners_of pous)) place
  block_count n told place =
      ap (λ o. length (places n (world_of unit) (variables_in o))) (get_map bare_pou pous place) ∙ by (slice_get pous place)
      ∙ sym (ap (λ (ls : List ℕ). size_at ls place) told ∙ get_or_map (count_in n) 0 pous place)
    where
      by : (o : Option Pou) → length (places n (world_of unit) (variables_in (option_map bare_pou o))) ≡ at_or (count_in n) 0 o
      by None = no_places n (world_of unit)
      by (Some p) = refl

  plain_count : (n : ℕ) → Told n → (t : VarType) → counted (λ vs. length (places n (world_of unit) vs)) (plain unit t) ≡ type_leaves n (counts n (owners_of pous)) t
  plain_count n told type.Unknown = no_places n (world_of unit)
  plain_count n told (type.Elementary t) = refl
  plain_count n told (type.Standard k) = pins_count n (world_of unit) k
  plain_count n told (type.Block place) = block_count n told place

  -- a variable
  one_count : (n : ℕ) → Told n → (d : Declared) → length (variable_places (places n (world_of unit)) (world_of unit) (bare_variable d)) ≡ leaves_in n (counts n (owners_of pous)) (typed unit d)
  one_count n told d =
      variable_count (places n (world_of unit)) (world_of unit) (bare_variable d)
      ∙ ap (λ m. cond (is_kept d.class) (counted (λ vs. length (places n (world_of unit) vs)) m) 0) (meaning_is unit d.declaration.ty.name)
      ∙ ap (λ (x : ℕ). cond (is_kept d.class) x 0) (plain_count n told (type_of unit d.declaration.ty.name))

  each_count : (n : ℕ) → Told n → (ds : List Declared) → length (places (suc n) (world_of unit) (map bare_variable ds)) ≡ sum_by (leaves_in n (counts n (owners_of pous))) (map (typed unit) ds)
  each_count n told [] = refl
  each_count n told (d ∷ ds) =
      length-append (variable_places (places n (world_of unit)) (world_of unit) (bare_variable d)) (places (suc n) (world_of unit) (map bare_variable ds))
      ∙ ap₂ (λ (x y : ℕ). x + y) (one_count n told d) (each_count n told ds)
      ∙ sym (sum_by-cons (leaves_in n (counts n (owners_of pous))) (typed unit d) (map (typed unit) ds))

  pou_count : (n : ℕ) → Told n → (p : Pou) → sum_by (leaves_in n (counts n (owners_of pous))) (own_of unit p) ≡ count_in (suc n) p
  pou_count n told p = sym (ap (λ vs. length (places (suc n) (world_of unit) vs)) (variables_bare p) ∙ each_count n told (declared p))

  none : (ps : List Pou) → map (λ (ts : List Typed). 0) (map (own_of unit) ps) ≡ map (count_in 0) ps
  none [] = refl
  none (p ∷ ps) = ap (λ ns. 0 ∷ ns) (none ps)

  deeper : (n : ℕ) → Told n → (ps : List Pou) → map (λ (ts : List Typed). sum_by (leaves_in n (counts n (owners_of pous))) ts) (map (own_of unit) ps) ≡ map (count_in (suc n)) ps
  deeper n told [] = refl
  deeper n told (p ∷ ps) = ap₂ (λ (x : ℕ) xs. x ∷ xs) (pou_count n told p) (deeper n told ps)

  pub counts_are : (n : ℕ) → counts n (owners_of pous) ≡ map (count_in n) pous
  counts_are zero = none pous
  counts_are (suc n) = deeper n (counts_are n) pous

  -- the leaves of a variable, and of a POU
  pub variable_leaves : (n : ℕ) (d : Declared) → length (variable_places (places n (world_of unit)) (world_of unit) (bare_variable d)) ≡ leaves_in n (counts n (owners_of pous)) (typed unit d)
  variable_leaves n d = one_count n (counts_are n) d

  pub pou_leaves : (n : ℕ) (p : Pou) → sum_by (leaves_in n (counts n (owners_of pous))) (own_of unit p) ≡ count_in (suc n) p
  pou_leaves n p = pou_count n (counts_are n) p
