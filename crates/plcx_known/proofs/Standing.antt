-- What is known of a type's name is what it stands for by places.
use Rattle.std.proofs.Common.{◌≡◌, ℕ, ◌⊎◌, inl, inr, Bool, true, false, cond, ◌||◌, List, [], ◌∷◌, Option, Some, None, option_map, option_and_then, slice_get, refl, sym, ap, ap₂, ◌∙◌}
use Rattle.std.specs.Prelude.{is_some}
use Rattle.std.specs.Str.{bytes_eq}
use Rattle.plcx_types.specs.declared.ty.Ty.{Ty}
use Rattle.plcx_types.specs.Name.{in_lower_case}
use Rattle.plcx_types.specs.TypeName.{type_named}
use Rattle.plcx_std.specs.declared.kind.StdKind.{StdKind}
use Rattle.plcx_std.specs.Kind.{kind_named}
use Rattle.plcx_meaning.specs.Tree.{PouText, is_program, Block}
use Rattle.plcx_meaning.specs.Layout.{Variable, variables_of, Meaning, Elementary, Composed, meaning}
use Rattle.plcx_meaning.specs.Standard.{pin_blocks}
use Rattle.plcx_meaning.proofs.Names.{folded_twice}
use Rattle.plcx_conditions.specs.Known.{pou_named, block_alone, block_named, world_of, known}
use Rattle.plcx_conditions.specs.Declarations.{user_block}
use Rattle.plcx_known.specs.declared.types.VarType.{VarType}
use Rattle.plcx_known.specs.declared.types.VarType.TheVariants as type
use Rattle.plcx_known.specs.Types.{place_named, block_at, block_type, type_of, block_of, variables_in, meaning_of}
use Rattle.plcx_known.proofs.Units.{named_is}

-- an elementary type, or the variables of an instance
abbrev pub plain : List PouText → VarType → Meaning
plain unit type.Unknown = Composed []
plain unit (type.Elementary t) = Elementary t
plain unit (type.Standard k) = Composed (variables_of (pin_blocks k))
plain unit (type.Block place) = Composed (variables_in (slice_get unit place))

abbrev blocks_in : Option PouText → List Block
blocks_in o = elim o [ Some p ↦ p.blocks | None ↦ [] ]

module _ (unit : List PouText) where
  -- a name in lower case is the same name
  lower_named : (name : List ℕ) (ps : List PouText) → pou_named (in_lower_case name) ps ≡ pou_named name ps
  lower_named name [] = refl
  lower_named name (p ∷ ps) = ap₂ (λ (k : List ℕ) o. cond (bytes_eq (in_lower_case p.name) k) (Some p) o) (folded_twice name) (lower_named name ps)

  -- ---- the function block at a place

  -- the type of what was found at a place
  abbrev type_at : ℕ → Option PouText → VarType
  type_at place o = elim o [ None ↦ type.Unknown | Some p ↦ type.Block place ]

  record Here (place : ℕ) (p : PouText) : Type 0 where
    block : block_at unit place ≡ Some p
    pou : slice_get unit place ≡ Some p

  by_kind : (place : ℕ) (p : PouText) (b : Bool) → slice_get unit place ≡ Some p → is_program p.kind ≡ b → (block_at unit place ≡ None) ⊎ ((q : PouText) × Here place q)
  by_kind place p true e f = inl (ap block_alone e ∙ ap (λ (b : Bool). cond b None (Some p)) f)
  by_kind place p false e f = inr (p, record { block = ap block_alone e ∙ ap (λ (b : Bool). cond b None (Some p)) f; pou = e })

  cases_at : (place : ℕ) → (block_at unit place ≡ None) ⊎ ((p : PouText) × Here place p)
  cases_at place = by (slice_get unit place) refl
    where
      by : (o : Option PouText) → slice_get unit place ≡ o → (block_at unit place ≡ None) ⊎ ((p : PouText) × Here place p)
      by None e = inl (ap block_alone e)
      by (Some p) e = by_kind place p (is_program p.kind) e refl

  alone_at : (o : Option ℕ) → block_of unit (block_type unit o) ≡ block_alone (option_and_then (slice_get unit) o)
  alone_at None = refl
  alone_at (Some place) = elim (cases_at place) [
    | inl none ↦ ap (λ q. block_of unit (type_at place q)) none ∙ sym none
    | inr h ↦ ap (λ q. block_of unit (type_at place q)) h.1.block ∙ h.1.pou ∙ sym h.1.block
  ]

  named_at : (name : List ℕ) → block_of unit (block_type unit (place_named name unit)) ≡ block_named name unit
  named_at name = alone_at (place_named name unit) ∙ ap block_alone (sym (named_is name unit))

  -- what a place means is what the function block there declares
  abbrev composed_by : Option PouText → Option Meaning
  composed_by o = option_map (λ (p : PouText). Composed (variables_of p.blocks)) o

  meant_at : (o : Option ℕ) → meaning_of unit (block_type unit o) ≡ composed_by (block_of unit (block_type unit o))
  meant_at None = refl
  meant_at (Some place) = elim (cases_at place) [
    | inl none ↦ ap (λ q. meaning_of unit (type_at place q)) none ∙ sym (ap (λ q. composed_by (block_of unit (type_at place q))) none)
    | inr h ↦
        ap (λ q. meaning_of unit (type_at place q)) h.1.block ∙ ap (λ o. Some (Composed (variables_in o))) h.1.pou
        ∙ sym (ap (λ q. composed_by (block_of unit (type_at place q))) h.1.block ∙ ap composed_by h.1.pou)
  ]

  variables_by : (o : Option PouText) → variables_of (blocks_in o) ≡ variables_in o
  variables_by None = refl
  variables_by (Some p) = refl

  plain_at : (o : Option ℕ) → Composed (variables_of (blocks_in (block_of unit (block_type unit o)))) ≡ plain unit (block_type unit o)
  plain_at None = refl
  plain_at (Some place) = by (block_at unit place)
    where
      by : (o : Option PouText) → Composed (variables_of (blocks_in (block_of unit (type_at place o)))) ≡ plain unit (type_at place o)
      by None = refl
      by (Some p) = ap Composed (variables_by (slice_get unit place))

  -- ---- by what the name itself says

  abbrev type_with : Option Ty → Option StdKind → Option ℕ → VarType
  type_with o k place = elim o [ Some t ↦ type.Elementary t | None ↦ elim k [ Some j ↦ type.Standard j | None ↦ block_type unit place ] ]

  abbrev meaning_with : Option Ty → Option StdKind → List ℕ → Meaning
  meaning_with o k name = elim o [ Some t ↦ Elementary t | None ↦ Composed (elim k [ Some j ↦ variables_of (pin_blocks j) | None ↦ variables_of (world_of unit (in_lower_case name)) ]) ]

  abbrev known_with : Option Ty → Option StdKind → Option PouText → List ℕ → Option Meaning
  known_with o k p name = cond (is_some o || (is_some k || is_some p)) (Some (meaning_with o k name)) None

  abbrev user_with : Option Ty → Option StdKind → Option PouText → Option PouText
  user_with o k p = cond (is_some o || is_some k) None p

  -- what the function block of a name declares
  world_at : (name : List ℕ) → world_of unit (in_lower_case name) ≡ blocks_in (block_named name unit)
  world_at name = ap (λ o. blocks_in (block_alone o)) (lower_named name unit)

  known_block : (name : List ℕ) (o : Option PouText) → block_named name unit ≡ o → cond (is_some o) (Some (Composed (variables_of (world_of unit (in_lower_case name))))) None ≡ composed_by o
  known_block name None e = refl
  known_block name (Some p) e = ap (λ bs. Some (Composed (variables_of bs))) (world_at name ∙ ap blocks_in e)

  known_by : (name : List ℕ) (o : Option Ty) (k : Option StdKind) → type_named name ≡ o → kind_named name ≡ k → known unit name ≡ meaning_of unit (type_of unit name)
  known_by name (Some t) k e f =
      ap (λ o. known_with o (kind_named name) (block_named name unit) name) e ∙ sym (ap (λ o. meaning_of unit (type_with o (kind_named name) (place_named name unit))) e)
  known_by name None (Some k) e f =
      ap₂ (λ o j. known_with o j (block_named name unit) name) e f ∙ sym (ap₂ (λ o j. meaning_of unit (type_with o j (place_named name unit))) e f)
  known_by name None None e f =
      ap₂ (λ o j. known_with o j (block_named name unit) name) e f
      ∙ known_block name (block_named name unit) refl
      ∙ ap composed_by (sym (named_at name))
      ∙ sym (ap₂ (λ o j. meaning_of unit (type_with o j (place_named name unit))) e f ∙ meant_at (place_named name unit))

  -- what is known of a type's name
  pub known_is : (name : List ℕ) → known unit name ≡ meaning_of unit (type_of unit name)
  known_is name = known_by name (type_named name) (kind_named name) refl refl

  meaning_by : (name : List ℕ) (o : Option Ty) (k : Option StdKind) → type_named name ≡ o → kind_named name ≡ k → meaning (world_of unit) name ≡ plain unit (type_of unit name)
  meaning_by name (Some t) k e f = ap (λ o. meaning_with o (kind_named name) name) e ∙ sym (ap (λ o. plain unit (type_with o (kind_named name) (place_named name unit))) e)
  meaning_by name None (Some k) e f = ap₂ (λ o j. meaning_with o j name) e f ∙ sym (ap₂ (λ o j. plain unit (type_with o j (place_named name unit))) e f)
  meaning_by name None None e f =
      ap₂ (λ o j. meaning_with o j name) e f
      ∙ ap (λ bs. Composed (variables_of bs)) (world_at name ∙ ap blocks_in (sym (named_at name)))
      ∙ plain_at (place_named name unit)
      ∙ sym (ap₂ (λ o j. plain unit (type_with o j (place_named name unit))) e f)

  -- what it means in the world of the unit
  pub meaning_is : (name : List ℕ) → meaning (world_of unit) name ≡ plain unit (type_of unit name)
  meaning_is name = meaning_by name (type_named name) (kind_named name) refl refl

  user_by : (v : Variable) (o : Option Ty) (k : Option StdKind) → type_named v.ty ≡ o → kind_named v.ty ≡ k → user_block unit v ≡ block_of unit (type_of unit v.ty)
  user_by v (Some t) k e f = ap (λ o. user_with o (kind_named v.ty) (block_named v.ty unit)) e ∙ sym (ap (λ o. block_of unit (type_with o (kind_named v.ty) (place_named v.ty unit))) e)
  user_by v None (Some k) e f = ap₂ (λ o j. user_with o j (block_named v.ty unit)) e f ∙ sym (ap₂ (λ o j. block_of unit (type_with o j (place_named v.ty unit))) e f)
  user_by v None None e f =
      ap₂ (λ o j. user_with o j (block_named v.ty unit)) e f
      ∙ sym (named_at v.ty)
      ∙ sym (ap₂ (λ o j. block_of unit (type_with o j (place_named v.ty unit))) e f)

  -- the function block that a variable is an instance of
  pub user_is : (v : Variable) → user_block unit v ≡ block_of unit (type_of unit v.ty)
  user_is v = user_by v (type_named v.ty) (kind_named v.ty) refl refl
