-- The level, the leaves, the in-outs and the temporaries of a POU, by its table.
use Rattle.std.proofs.Common.{◌≡◌, ℕ, List, Option, Some, length, map, option_map, slice_get, sym, ap, ◌∙◌, subst}
use Rattle.std.proofs.lemmas.List.{length-map}
use Rattle.std.proofs.lemmas.Option.{same_Some}
use Rattle.plcx_types.specs.Name.{in_lower_case}
use Rattle.plcx_meaning.specs.Tree as tree
use Rattle.plcx_meaning.specs.Layout.{variables_of}
use Rattle.plcx_meaning.specs.Ready.{IsReady}
use Rattle.plcx_st.specs.declared.tree.PouText.{PouText}
use Rattle.plcx_st.specs.Meant.{pou_meant}
use Rattle.plcx_conditions.specs.Placed.{bare_pou}
use Rattle.plcx_conditions.specs.Places.{placed_pou}
use Rattle.plcx_conditions.proofs.Views.{unit_bare}
use Rattle.plcx_known.specs.Unit.{placed_of, bare_of}
use Rattle.plcx_known.specs.Owned.{own_of}
use Rattle.plcx_known.specs.Parts.{owners_of}
use Rattle.plcx_known.specs.Sizes.{size_at}
use Rattle.plcx_known.proofs.Places.{get_map}
use Rattle.plcx_numbered.specs.Numbers.{in_out_names}
use Rattle.plcx_text_numbered.specs.Numbers.{places_of, temporary_values}
use Rattle.plcx_text_order.specs.Made.{level_of}
use Rattle.plcx_text_tables.specs.declared.numbers.Table.{Table}
use Rattle.plcx_text_tables.specs.Counts.{all_counts, all_heights}
use Rattle.plcx_text_tables.specs.Tabled.{Shown, table_of, shown_table}
use Rattle.plcx_text_tables.specs.Laws.{IsTableOf}
use Rattle.plcx_text_tables.proofs.Telling.{table_is, level_is as level_told}

-- a unit with the places of its words means what it means without
pub meant_so : (pous : List PouText) → bare_of pous ≡ map pou_meant pous
meant_so pous = unit_bare (record { pous = pous })

module _ (pous : List PouText) (ready : IsReady (map pou_meant pous)) (k : ℕ) (p : PouText) (there : slice_get pous k ≡ Some p) where
  abbrev unit : List tree.PouText
  unit = map pou_meant pous

  -- its table
  abbrev own : Shown
  own = table_of (all_counts (owners_of (placed_of pous))) (own_of (bare_of pous) (placed_pou p))

  bare_ready : IsReady (bare_of pous)
  bare_ready = subst IsReady (sym (meant_so pous)) ready

  placed_there : slice_get (placed_of pous) k ≡ Some (placed_pou p)
  placed_there = get_map placed_pou pous k ∙ ap (option_map placed_pou) there

  pou_same : bare_pou (placed_pou p) ≡ pou_meant p
  pou_same = same_Some (bare_pou (placed_pou p)) (pou_meant p)
      (sym (get_map bare_pou (placed_of pous) k ∙ ap (option_map bare_pou) placed_there)
      ∙ ap (λ (u : List tree.PouText). slice_get u k) (meant_so pous)
      ∙ get_map pou_meant pous k ∙ ap (option_map pou_meant) there)

  told : IsTableOf (bare_of pous) (bare_pou (placed_pou p)) own
  unfolding all_counts
  told = table_is (placed_of pous) bare_ready.distinct (placed_pou p)

  tells : IsTableOf unit (pou_meant p) own
  tells = subst (λ u. IsTableOf u (pou_meant p) own) (meant_so pous) (subst (λ q. IsTableOf (bare_of pous) q own) pou_same told)

  height_told : size_at (all_heights (owners_of (placed_of pous))) k ≡ level_of (bare_of pous) (bare_pou (placed_pou p))
  unfolding all_heights
  height_told = level_told (placed_of pous) bare_ready.distinct k (placed_pou p) placed_there

  pub level_is : size_at (all_heights (owners_of (placed_of pous))) k ≡ level_of unit (pou_meant p)
  level_is = height_told ∙ ap (level_of (bare_of pous)) pou_same ∙ ap (λ u. level_of u (pou_meant p)) (meant_so pous)

  -- the code's table at the place
  abbrev pub at_place : Option Shown
  at_place = slice_get (map (table_of (all_counts (owners_of (placed_of pous)))) (owners_of (placed_of pous))) k

  own_there : at_place ≡ Some own
  own_there =
      get_map (table_of (all_counts (owners_of (placed_of pous)))) (owners_of (placed_of pous)) k
      ∙ ap (option_map (table_of (all_counts (owners_of (placed_of pous))))) (get_map (own_of (bare_of pous)) (placed_of pous) k ∙ ap (option_map (own_of (bare_of pous))) placed_there)

  module _ (t : Table) (is : at_place ≡ Some (shown_table t)) where
    same : shown_table t ≡ own
    same = same_Some (shown_table t) own (sym is ∙ own_there)

    pub leaves_are : t.leaves ≡ length (places_of unit (variables_of (pou_meant p).blocks))
    leaves_are = ap (λ (s : Shown). s.leaves) same ∙ tells.leaves

    pub in_outs_are : length t.in_outs.items ≡ length (in_out_names (variables_of (pou_meant p).blocks))
    in_outs_are =
        sym (length-map t.in_outs.items (λ s. s.now))
        ∙ sym (length-map (map (λ s. s.now) t.in_outs.items) in_lower_case)
        ∙ ap (λ (s : Shown). length (map in_lower_case s.in_outs)) same
        ∙ ap length tells.in_outs

    pub temporaries_are : t.temporaries.items ≡ temporary_values (variables_of (pou_meant p).blocks)
    temporaries_are = ap (λ (s : Shown). s.temporaries) same ∙ tells.temporaries
