-- The levels below POUs are those of a unit whose POUs have distinct names.
use Rattle.std.proofs.Common.{◌≡◌, ℕ, zero, suc, true, max, List, [], ◌∷◌, Option, Some, None, map, option_map, slice_get, refl, sym, ap, ap₂, ◌∙◌}
use Rattle.std.specs.Prelude.{is_some, ◌||◌, if◌then◌else◌}
use Rattle.plcx_types.specs.TypeName.{type_named}
use Rattle.plcx_std.specs.Kind.{kind_named}
use Rattle.plcx_meaning.specs.Base.{are_distinct}
use Rattle.plcx_meaning.specs.Tree as tree
use Rattle.plcx_meaning.specs.Layout.{Variable}
use Rattle.plcx_meaning.specs.Ready.{user_block}
use Rattle.plcx_conditions.specs.Placed.{Pou, bare_pou, bare, Declared, declared, bare_variable}
use Rattle.plcx_conditions.proofs.Units.{variables_bare}
use Rattle.plcx_conditions.proofs.Worlds.{pou_names, block_is}
use Rattle.plcx_known.specs.declared.types.VarType.{VarType}
use Rattle.plcx_known.specs.declared.types.VarType.TheVariants as type
use Rattle.plcx_known.specs.Types.{type_of, block_of}
use Rattle.plcx_known.specs.Owned.{Typed, typed, own_of}
use Rattle.plcx_known.specs.Parts.{owners_of}
use Rattle.plcx_known.proofs.Places.{get_map}
use Rattle.plcx_known.proofs.Standing.{user_is}
use Rattle.plcx_numbered.specs.Numbers.{highest}
use Rattle.plcx_text_numbered.specs.Numbers.{instance_level, level}
use Rattle.plcx_text_tables.specs.Counts.{type_height, tallest, heights}

-- one level more than a function block, if there is one
abbrev above : (tree.PouText → ℕ) → Option tree.PouText → ℕ
above inner o = elim o [ Some q ↦ suc (inner q) | None ↦ 0 ]

-- one more than a number, if there is one
abbrev one_more : Option ℕ → ℕ
one_more o = elim o [ Some n ↦ suc n | None ↦ 0 ]

module _ (pous : List Pou) (distinct : are_distinct (pou_names (bare pous)) ≡ true) where
  abbrev unit : List tree.PouText
  unit = bare pous

  -- the function block of an instance
  user_block_is : (v : Variable) → user_block unit v ≡ block_of unit (type_of unit v.ty)
  user_block_is v = ap (λ (o : Option tree.PouText). if is_some (type_named v.ty) || is_some (kind_named v.ty) then None else o) (sym (block_is v.ty unit distinct)) ∙ user_is unit v

  abbrev level_in : ℕ → Pou → ℕ
  level_in n p = level n unit (bare_pou p)

  abbrev Told : ℕ → Type 0
  Told n = heights n (owners_of pous) ≡ map (level_in n) pous

  type_told : (n : ℕ) → Told n → (t : VarType) → above (level n unit) (block_of unit t) ≡ type_height (heights n (owners_of pous)) t
  type_told n told type.Unknown = refl
  type_told n told (type.Elementary t) = refl
  type_told n told (type.Standard k) = refl
  type_told n told (type.Block place) =
      ap (above (level n unit)) (get_map bare_pou pous place) ∙ by (slice_get pous place)
      ∙ sym (ap (λ (ls : List ℕ). one_more (slice_get ls place)) told ∙ ap one_more (get_map (level_in n) pous place))
    where
      by : (o : Option Pou) → above (level n unit) (option_map bare_pou o) ≡ one_more (option_map (level_in n) o)
      by None = refl
      by (Some p) = refl

  one_told : (n : ℕ) → Told n → (d : Declared) → instance_level (level n unit) unit (bare_variable d) ≡ type_height (heights n (owners_of pous)) (type_of unit d.declaration.ty.name)
  one_told n told d = ap (above (level n unit)) (user_block_is (bare_variable d)) ∙ type_told n told (type_of unit d.declaration.ty.name)

  each_told : (n : ℕ) → Told n → (ds : List Declared) → highest (instance_level (level n unit) unit) (map bare_variable ds) ≡ tallest (heights n (owners_of pous)) (map (typed unit) ds)
  each_told n told [] = refl
  each_told n told (d ∷ ds) = ap₂ (λ (x y : ℕ). max x y) (one_told n told d) (each_told n told ds)

  pou_told : (n : ℕ) → Told n → (p : Pou) → tallest (heights n (owners_of pous)) (own_of unit p) ≡ level_in (suc n) p
  pou_told n told p = sym (ap (highest (instance_level (level n unit) unit)) (variables_bare p) ∙ each_told n told (declared p))

  none : (ps : List Pou) → map (λ (ts : List Typed). 0) (map (own_of unit) ps) ≡ map (level_in 0) ps
  none [] = refl
  none (p ∷ ps) = ap (λ ns. 0 ∷ ns) (none ps)

  deeper : (n : ℕ) → Told n → (ps : List Pou) → map (tallest (heights n (owners_of pous))) (map (own_of unit) ps) ≡ map (level_in (suc n)) ps
  deeper n told [] = refl
  deeper n told (p ∷ ps) = ap₂ (λ (x : ℕ) xs. x ∷ xs) (pou_told n told p) (deeper n told ps)

  pub heights_are : (n : ℕ) → heights n (owners_of pous) ≡ map (level_in n) pous
  heights_are zero = none pous
  heights_are (suc n) = deeper n (heights_are n) pous
