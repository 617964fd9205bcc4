-- The tables of a unit without doubled names tell the numbers of its POUs.
use Rattle.std.proofs.Common.{◌≡◌, ℕ, true, List, [], ◌∷◌, Option, Some, None, map, option_map, slice_get, refl, sym, ap, ◌∙◌, subst}
use Rattle.std.specs.Prelude.{MatchOption}
use Rattle.std.proofs.lemmas.Option.{same_Some}
use Rattle.plcx_meaning.specs.Base.{are_distinct}
use Rattle.plcx_meaning.specs.Tree as tree
use Rattle.plcx_st.specs.declared.tree.PouText.{PouText}
use Rattle.plcx_st.specs.declared.tree.Unit.{Unit}
use Rattle.plcx_st.specs.Meant.{pou_meant}
use Rattle.plcx_conditions.specs.Placed.{Pou, bare_pou, bare}
use Rattle.plcx_conditions.specs.Places.{placed_pou}
use Rattle.plcx_conditions.proofs.Views.{unit_bare}
use Rattle.plcx_conditions.proofs.Worlds.{pou_names}
use Rattle.plcx_known.specs.Owned.{Typed, own_of}
use Rattle.plcx_known.specs.Parts.{owners_of}
use Rattle.plcx_known.specs.Unit.{placed_of}
use Rattle.plcx_known.proofs.Places.{get_map}
use Rattle.plcx_text_pieces.specs.Called.{numbers_of}
use Rattle.plcx_text_order.specs.Made.{owner}
use Rattle.plcx_text_tables.specs.Counts.{all_counts}
use Rattle.plcx_text_tables.specs.Tabled.{Shown, table_of}
use Rattle.plcx_text_tables.specs.Laws.{IsTableOf}
use Rattle.plcx_text_tables.proofs.Telling.{table_is}
use Rattle.plcx_text_program.specs.Told.{pou_or, pou_at, numbers_at, IsTableAt}

-- the POU at a place
pub pou_there : (unit : List tree.PouText) (place : ℕ) (p : tree.PouText) → slice_get unit place ≡ Some p → pou_at unit place ≡ p
pou_there unit place p e = ap pou_or e

-- the POU of the text, without its places
meant_there : (pous : List PouText) (place : ℕ) (p : PouText) → slice_get pous place ≡ Some p → slice_get (map pou_meant pous) place ≡ Some (pou_meant p)
meant_there pous place p e = get_map pou_meant pous place ∙ ap (option_map pou_meant) e

pub numbers_there : (pous : List PouText) (place : ℕ) (p : PouText) → slice_get pous place ≡ Some p
    → numbers_at (map pou_meant pous) place ≡ numbers_of (owner (map pou_meant pous) place (pou_meant p))
numbers_there pous place p e = ap (λ q. numbers_of (owner (map pou_meant pous) place q)) (pou_there (map pou_meant pous) place (pou_meant p) (meant_there pous place p e))

pou_same : (p : PouText) → bare_pou (placed_pou p) ≡ pou_meant p
pou_same p =
    let u : Unit = record { pous = p ∷ [] } in
    let one : bare_pou (placed_pou p) ∷ [] ≡ pou_meant p ∷ [] = unit_bare u in cc

module _ (pous : List PouText) (distinct : are_distinct (pou_names (map pou_meant pous)) ≡ true) where
  abbrev placed : List Pou
  placed = placed_of pous

  abbrev owners : List (List Typed)
  owners = owners_of placed

  abbrev own_table : PouText → Shown
  own_table p = table_of (all_counts owners) (own_of (bare placed) (placed_pou p))

  same_unit : bare placed ≡ map pou_meant pous
  same_unit = let u : Unit = record { pous = pous } in unit_bare u

  still : are_distinct (pou_names (bare placed)) ≡ true
  still = ap (λ (u : List tree.PouText). are_distinct (pou_names u)) same_unit ∙ distinct

  at : (place : ℕ) → slice_get (map (table_of (all_counts owners)) owners) place ≡ option_map own_table (slice_get pous place)
  at place =
      get_map (table_of (all_counts owners)) owners place
      ∙ ap (option_map (table_of (all_counts owners))) (get_map (own_of (bare placed)) placed place ∙ ap (option_map (own_of (bare placed))) (get_map placed_pou pous place))
      ∙ thrice (slice_get pous place)
    where
      thrice : (o : Option PouText) → option_map (table_of (all_counts owners)) (option_map (own_of (bare placed)) (option_map placed_pou o)) ≡ option_map own_table o
      thrice None = refl
      thrice (Some p) = refl

  told : (p : PouText) → IsTableOf (bare placed) (bare_pou (placed_pou p)) (own_table p)
  unfolding all_counts
  told p = table_is placed still (placed_pou p)

  is_table : (p : PouText) (t : Shown) → t ≡ own_table p → IsTableOf (map pou_meant pous) (pou_meant p) t
  is_table p t e =
      subst (λ u. IsTableOf u (pou_meant p) t) same_unit
      (subst (λ q. IsTableOf (bare placed) q t) (pou_same p) (subst (IsTableOf (bare placed) (bare_pou (placed_pou p))) (sym e) (told p)))

  -- the table at a place
  pub table_at : (place : ℕ) (t : Shown) → slice_get (map (table_of (all_counts owners)) owners) place ≡ Some t → IsTableAt (map pou_meant pous) place t
  table_at place t e = by (slice_get pous place) refl
    where
      by : (o : Option PouText) → slice_get pous place ≡ o → IsTableAt (map pou_meant pous) place t
      by None f = let no : None ≡ Some t = sym (at place ∙ ap (option_map own_table) f) ∙ e in absurd (cc)
      by (Some p) f =
          let same : own_table p ≡ t = same_Some (own_table p) t (sym (at place ∙ ap (option_map own_table) f) ∙ e) in
          record { pou = pou_meant p; there = meant_there pous place p f; table = is_table p t (sym same) }

  pub no_table : (place : ℕ) → slice_get (map (table_of (all_counts owners)) owners) place ≡ None → slice_get (map pou_meant pous) place ≡ None
  no_table place e = by (slice_get pous place) refl
    where
      by : (o : Option PouText) → slice_get pous place ≡ o → slice_get (map pou_meant pous) place ≡ None
      by None f = get_map pou_meant pous place ∙ ap (option_map pou_meant) f
      by (Some p) f = let no : Some (own_table p) ≡ None = sym (at place ∙ ap (option_map own_table) f) ∙ e in absurd (cc)

  pub match_table : {X : Type 0} (show : X → Shown) (place : ℕ) (o : Option X) → option_map show o ≡ slice_get (map (table_of (all_counts owners)) owners) place
      → MatchOption o (slice_get (map pou_meant pous) place ≡ None) (λ t. IsTableAt (map pou_meant pous) place (show t))
  match_table show place None e = no_table place (sym e)
  match_table show place (Some t) e = table_at place (show t) (sym e)

  -- and that of the POU itself
  pub own_table_is : (place : ℕ) (t : Shown) → slice_get (map (table_of (all_counts owners)) owners) place ≡ Some t
      → IsTableOf (map pou_meant pous) (pou_at (map pou_meant pous) place) t
  own_table_is place t e =
      let x = table_at place t e in
      subst (λ q. IsTableOf (map pou_meant pous) q t) (sym (pou_there (map pou_meant pous) place x.pou x.there)) x.table
