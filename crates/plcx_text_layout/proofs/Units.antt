-- The POUs of a unit by their places.
use Rattle.std.proofs.Common.{◌≡◌, ℕ, ◌<◌, List, [], Option, Some, option_map, length, map, slice_get, refl, sym, ap, ◌∙◌, subst}
use Rattle.std.proofs.lemmas.List.{length-map}
use Rattle.std.proofs.lemmas.Option.{slice_get_within}
use Rattle.plcx_meaning.specs.Ready.{IsReady}
use Rattle.plcx_meaning.specs.Tree as tree
use Rattle.plcx_st.specs.declared.tree.PouText.{PouText}
use Rattle.plcx_st.specs.declared.tree.Unit as read
use Rattle.plcx_st.specs.Meant.{pou_meant, meant}
use Rattle.plcx_conditions.specs.Placed.{Pou, bare, bare_pou}
use Rattle.plcx_conditions.specs.Places.{placed_pou}
use Rattle.plcx_conditions.proofs.Views.{unit_bare}
use Rattle.plcx_known.specs.Unit.{placed_of, bare_of}
use Rattle.plcx_known.proofs.Places.{get_map}
use Rattle.plcx_state.specs.declared.layout.Leaf.{Leaf}
use Rattle.plcx_state.specs.declared.layout.Memory.{Memory}
use Rattle.plcx_state.specs.Layouts.{all_meant, BeginsTyped, Laid, laid, IsLaid}
use Rattle.plcx_types.specs.Lists.{Each}
use Rattle.plcx_known.specs.Parts.{owners_of}
use Rattle.plcx_frames.proofs.Scanning.{there_is}
use Rattle.plcx_text_stored.specs.LaidFor.{IsLaidFor}
use Rattle.plcx_text_layout.specs.Leaves.{variables_at, program_leaves}
use Rattle.plcx_text_layout.specs.Opening.{IsProgramAt}
use Rattle.plcx_text_layout.proofs.Stands.{can_be_laid, laid_for}

-- POUs without the places of their words are those that the unit means
pub meant_by : (pous : List PouText) (u : read.Unit) → pous ≡ u.pous → bare_of pous ≡ meant u
meant_by pous u e = ap bare_of e ∙ unit_bare u

pub ready_by : (pous : List PouText) (u : read.Unit) → pous ≡ u.pous → IsReady (meant u) → IsReady (bare_of pous)
ready_by pous u e ready = subst IsReady (sym (meant_by pous u e)) ready

-- the program of a name stands among them
pub place_low : (pous : List PouText) (u : read.Unit) (name : List ℕ) (place : ℕ) → pous ≡ u.pous → IsProgramAt (meant u) name place → place < length pous
place_low pous u name place e at =
    let low : place < length (meant u) = slice_get_within (meant u) place at.program at.there in
    let count : length (meant u) ≡ length pous = length-map u.pous pou_meant ∙ ap length (sym e) in
    subst (λ n. place < n) count low

module _ (pous : List PouText) (ready : IsReady (bare_of pous)) (place : ℕ) (low : place < length pous) (ls : List Leaf) (are : all_meant ls ≡ program_leaves (owners_of (placed_of pous)) (variables_at (owners_of (placed_of pous)) place))
    (ms : List Memory) (none : ms ≡ []) where
  abbrev found : (p : PouText) × (slice_get pous place ≡ Some p)
  found = there_is pous place low

  there : slice_get (placed_of pous) place ≡ Some (placed_pou found.0)
  there = get_map placed_pou pous place ∙ ap (option_map placed_pou) found.1

  -- the leaves of a program can be laid out
  pub is_laid : Each BeginsTyped ls → IsLaid (laid ls ms)
  is_laid typed = subst (λ (xs : List Memory). IsLaid (laid ls xs)) (sym none) (can_be_laid (placed_of pous) ready place (placed_pou found.0) there ls are typed)

  -- and are those of the POU at its place
  pub is_laid_for : (p : tree.PouText) → slice_get (bare_of pous) place ≡ Some p → (l : Laid) → l ≡ laid ls ms → IsLaidFor (bare_of pous) p l
  is_laid_for p at l is =
      let one : Some (bare_pou (placed_pou found.0)) ≡ Some p = sym (get_map bare_pou (placed_of pous) place ∙ ap (option_map bare_pou) there) ∙ at in
      let same : bare_pou (placed_pou found.0) ≡ p = cc in
      subst (λ (q : tree.PouText). IsLaidFor (bare_of pous) q l) same
      (subst (IsLaidFor (bare_of pous) (bare_pou (placed_pou found.0))) (sym (is ∙ ap (laid ls) none)) (laid_for (placed_of pous) ready place (placed_pou found.0) there ls are))
