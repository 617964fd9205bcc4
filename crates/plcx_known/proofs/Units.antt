-- What the names of types stand for.
use Rattle.std.proofs.Common.{◌≡◌, ℕ, Bool, true, false, cond, List, [], ◌∷◌, Option, Some, None, map, take, option_map, option_and_then, slice_get, refl, sym, ap, ◌∙◌}
use Rattle.std.specs.Prelude.{is_some}
use Rattle.std.specs.List.{find, list_any}
use Rattle.plcx_meaning.specs.Tree as tree
use Rattle.plcx_st.specs.declared.tree.PouText.{PouText}
use Rattle.plcx_st.specs.declared.tree.TextKind.{TextKind}
use Rattle.plcx_st.specs.declared.tree.TextKind.TheVariants as kind
use Rattle.plcx_st.specs.Meant.{kind_meant}
use Rattle.plcx_conditions.specs.Placed.{Pou, bare_pou, bare}
use Rattle.plcx_conditions.specs.Places.{placed_pou}
use Rattle.plcx_conditions.specs.Known.{same_name, pou_named, block_alone}
use Rattle.plcx_known.specs.declared.types.VarType.TheVariants as type
use Rattle.plcx_known.specs.Names.{first_place}
use Rattle.plcx_known.specs.Types.{place_named, block_at, block_type}
use Rattle.plcx_known.specs.Owned.{is_block}
use Rattle.plcx_known.proofs.Places.{place_map, any_take_map, get_map, at_place}

pub place_is : (name : List ℕ) (pous : List PouText) → first_place name (map (λ (p : PouText). p.name.name) pous) ≡ place_named name (bare (map placed_pou pous))
place_is name pous =
    place_map (λ n. same_name n name) (λ (p : PouText). p.name.name) 0 pous
    ∙ sym (place_map (λ (p : tree.PouText). same_name p.name name) bare_pou 0 (map placed_pou pous) ∙ place_map (λ (p : Pou). same_name (bare_pou p).name name) placed_pou 0 pous)

pub before_is : (name : List ℕ) (pous : List PouText) (place : ℕ) → list_any (λ n. same_name n name) (take place (map (λ (p : PouText). p.name.name) pous)) ≡ list_any (λ (p : Pou). same_name p.name.name name) (take place (map placed_pou pous))
before_is name pous place =
    any_take_map (λ n. same_name n name) (λ (p : PouText). p.name.name) place pous
    ∙ sym (any_take_map (λ (p : Pou). same_name p.name.name name) placed_pou place pous)

pub at_is : (pous : List PouText) (place : ℕ) → slice_get (bare (map placed_pou pous)) place ≡ option_map (λ (p : PouText). bare_pou (placed_pou p)) (slice_get pous place)
at_is pous place = get_map bare_pou (map placed_pou pous) place ∙ ap (option_map bare_pou) (get_map placed_pou pous place) ∙ twice (slice_get pous place)
  where
    twice : (o : Option PouText) → option_map bare_pou (option_map placed_pou o) ≡ option_map (λ (p : PouText). bare_pou (placed_pou p)) o
    twice None = refl
    twice (Some p) = refl

abbrev told : PouText → TextKind → Bool
told p k = is_some (cond (tree.is_program (kind_meant k)) None (Some (bare_pou (placed_pou p))))

by_kind : (p : PouText) (k : TextKind) → p.kind ≡ k → is_some (block_alone (Some (bare_pou (placed_pou p)))) ≡ is_block k
by_kind p kind.Program e = ap (told p) e
by_kind p kind.FunctionBlock e = ap (told p) e

-- the POU at a place is a function block
pub block_is : (pous : List PouText) (place : ℕ) (p : PouText) → slice_get pous place ≡ Some p → is_some (block_at (bare (map placed_pou pous)) place) ≡ is_block p.kind
block_is pous place p e = ap (λ o. is_some (block_alone o)) (at_is pous place ∙ ap (option_map (λ (q : PouText). bare_pou (placed_pou q))) e) ∙ by_kind p p.kind refl

pub no_block_is : (pous : List PouText) (place : ℕ) → slice_get pous place ≡ None → is_some (block_at (bare (map placed_pou pous)) place) ≡ false
no_block_is pous place e = ap (λ o. is_some (block_alone o)) (at_is pous place ∙ ap (option_map (λ (q : PouText). bare_pou (placed_pou q))) e)

pub type_at : (unit : List tree.PouText) (place : ℕ) → is_some (block_at unit place) ≡ true → block_type unit (Some place) ≡ type.Block place
type_at unit place h = by (block_at unit place) h
  where
    by : (o : Option tree.PouText) → is_some o ≡ true → elim o [ None ↦ type.Unknown | Some p ↦ type.Block place ] ≡ type.Block place
    by None e = absurd (cc)
    by (Some p) e = refl

pub no_type_at : (unit : List tree.PouText) (place : ℕ) → is_some (block_at unit place) ≡ false → block_type unit (Some place) ≡ type.Unknown
no_type_at unit place h = by (block_at unit place) h
  where
    by : (o : Option tree.PouText) → is_some o ≡ false → elim o [ None ↦ type.Unknown | Some p ↦ type.Block place ] ≡ type.Unknown
    by None e = refl
    by (Some p) e = absurd (cc)

-- the first POU of a name stands at its place
pub named_is : (name : List ℕ) (unit : List tree.PouText) → pou_named name unit ≡ option_and_then (slice_get unit) (place_named name unit)
named_is name unit = found unit ∙ sym (at_place (λ (p : tree.PouText). same_name p.name name) unit)
  where
    found : (ps : List tree.PouText) → pou_named name ps ≡ find (λ (p : tree.PouText). same_name p.name name) ps
    found [] = refl
    found (p ∷ ps) = ap (cond (same_name p.name name) (Some p)) (found ps)

-- the same, where the names are kept
pub place_by : (name : List ℕ) (names : List (List ℕ)) (pous unit : List PouText) → names ≡ map (λ (p : PouText). p.name.name) pous → pous ≡ unit → first_place name names ≡ place_named name (bare (map placed_pou unit))
place_by name names pous unit are same = ap (first_place name) are ∙ place_is name pous ∙ ap (λ (ps : List PouText). place_named name (bare (map placed_pou ps))) same

pub before_by : (name : List ℕ) (names : List (List ℕ)) (pous unit : List PouText) (place : ℕ) → names ≡ map (λ (p : PouText). p.name.name) pous → pous ≡ unit
    → list_any (λ n. same_name n name) (take place names) ≡ list_any (λ (p : Pou). same_name p.name.name name) (take place (map placed_pou unit))
before_by name names pous unit place are same =
    ap (λ (ns : List (List ℕ)). list_any (λ n. same_name n name) (take place ns)) are ∙ before_is name pous place
    ∙ ap (λ (ps : List PouText). list_any (λ (p : Pou). same_name p.name.name name) (take place (map placed_pou ps))) same
