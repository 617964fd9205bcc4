-- A side that is opened.
use Rattle.std.proofs.Common.{◌≡◌, ℕ, ◌<◌, ◌≤◌, Bool, true, false, List, [], ◌∷◌, Option, Some, None, length, get_or, slice_get, refl, sym, ap, ◌∙◌, subst}
use Rattle.std.specs.Prelude.{◌&&◌, if◌then◌else◌}
use Rattle.std.specs.Str.{bytes_eq}
use Rattle.std.proofs.lemmas.Bool.{and_parts}
use Rattle.std.proofs.lemmas.Option.{slice_get_within, get_or_from_slice_get}
use Rattle.plcx_types.specs.Name.{in_lower_case}
use Rattle.plcx_types.specs.Value.{Value}
use Rattle.plcx_meaning.specs.Execute.{TextState, program_named, text_machine}
use Rattle.plcx_meaning.specs.Tree.{is_program, PouText}
use Rattle.plcx_st.specs.declared.tree.PouText as read
use Rattle.plcx_st.specs.declared.tree.Unit as tree
use Rattle.plcx_st.specs.Meant.{meant}
use Rattle.plcx_known.specs.Unit.{bare_of}
use Rattle.plcx_state.specs.Layouts.{Laid, IsLaid}
use Rattle.plcx_state.specs.Retains.{kept_at, IsRetainedOf}
use Rattle.plcx_state.specs.Stores.{IsStoreOf, opened}
use Rattle.plcx_steps.specs.declared.program.Body.{Body}
use Rattle.plcx_steps.specs.declared.program.Program.{Program}
use Rattle.plcx_steps.specs.declared.state.State.{State}
use Rattle.plcx_steps.specs.Sound.{most_inputs}
use Rattle.plcx_frames.specs.declared.preparing.Frame.{Frame}
use Rattle.plcx_frames.specs.Frames.{HasFrame}
use Rattle.plcx_frames.proofs.Kept.{kept_same}
use Rattle.plcx_text_steps.specs.declared.text.Text.{Text}
use Rattle.plcx_text_numbered.specs.Texts.{IsTextOf}
use Rattle.plcx_text_stored.specs.Between.{AgreesWith}
use Rattle.plcx_text_stored.specs.LaidFor.{IsLaidFor}
use Rattle.plcx_text_stored.specs.Laws.{StoreOpens}
use Rattle.plcx_text_layout.specs.Opening.{IsProgramAt, IsKeptFor}
use Rattle.plcx_text_layout.proofs.Units.{meant_by}
use Rattle.plcx_run.specs.declared.side.TextSide.{TextSide}
use Rattle.plcx_run.specs.Standing.{no_pou, pou_at, IsStanding}
use Rattle.plcx_run.specs.Sides.{unit, program, machine_of, last_of, OpensFor}

-- the program of a name is a program
program_is : (name : List ℕ) (pous : List PouText) (p : PouText) → program_named name pous ≡ Some p → is_program p.kind ≡ true
program_is name [] p h = absurd (cc)
program_is name (q ∷ pous) p h = by (is_program q.kind && bytes_eq (in_lower_case q.name) (in_lower_case name)) refl (program_is name pous p) h
  where
    by : (b : Bool) → (is_program q.kind && bytes_eq (in_lower_case q.name) (in_lower_case name)) ≡ b → (program_named name pous ≡ Some p → is_program p.kind ≡ true)
        → (if b then Some q else program_named name pous) ≡ Some p → is_program p.kind ≡ true
    by true is rest at = let same : q ≡ p = cc in subst (λ (r : PouText). is_program r.kind ≡ true) same (and_parts (is_program q.kind) (bytes_eq (in_lower_case q.name) (in_lower_case name)) is).0
    by false is rest at = rest at

-- what is laid out of POUs as they are read is laid out for the unit that they mean
pub laid_at : (scope : List read.PouText) (u : tree.Unit) → scope ≡ u.pous → (place : ℕ) (l : Laid) → ((p : PouText) → slice_get (bare_of scope) place ≡ Some p → IsLaidFor (bare_of scope) p l)
    → (p : PouText) → slice_get (meant u) place ≡ Some p → IsLaidFor (meant u) p l
laid_at scope u e place l laid = subst (λ (unit : List PouText). (p : PouText) → slice_get unit place ≡ Some p → IsLaidFor unit p l) (meant_by scope u e) laid

module _ (pous : List PouText) (name : List ℕ) (place : ℕ) (at : IsProgramAt pous name place) where
  pub place_low : place < length pous
  place_low = slice_get_within pous place at.program at.there

  pub is_there : pou_at pous place ≡ at.program
  is_there = get_or_from_slice_get pous place at.program no_pou at.there

  -- a retained state of the program is one of its layout
  pub kept_for : (l : Laid) → ((p : PouText) → slice_get pous place ≡ Some p → IsLaidFor pous p l) → (kept : List (Option Value)) → ((p : PouText) → program_named name pous ≡ Some p → IsKeptFor pous p kept) → IsRetainedOf l.leaves kept
  kept_for l laid kept all =
      let k = all at.program at.named in
      kept_same k.laid.leaves l.leaves (k.is_laid.leaves.leaves ∙ sym (laid at.program at.there).leaves.leaves) kept k.is

  -- a program that is opened stands ready
  pub standing : (l : Laid) (prepared : Program) (text : Text) (state : State) (frame : Frame) → ((p : PouText) → slice_get pous place ≡ Some p → IsLaidFor pous p l) → IsTextOf pous prepared text
      → IsStoreOf l state.store → most_inputs ≤ length state.inputs.items → ((body : Body) → slice_get prepared.bodies.items place ≡ Some body → HasFrame body frame) → IsStanding pous place l prepared text state frame
  standing l prepared text state frame laid is store inputs framed = record {
    there = place_low;
    program_there = ap (λ (p : PouText). is_program p.kind) is_there ∙ program_is name pous at.program at.named;
    laid = ∣ subst (λ (p : PouText). IsLaidFor pous p l) (sym is_there) (laid at.program at.there) ∣₁;
    prepared = ∣ is ∣₁;
    store = store;
    inputs = inputs;
    framed = framed;
  }

-- and stands for the text as it begins
pub opens_for : StoreOpens → (s : TextSide) (p : PouText) → program s ≡ p → IsLaidFor (unit s) p s.layout → IsLaid s.layout → (kept : List (Option Value)) → IsRetainedOf s.layout.leaves kept
    → s.state.store ≡ opened s.layout kept → s.halted ≡ false → last_of s ≡ 0 → OpensFor p kept s
opens_for law s p is laid_for laid kept retained store runs time =
    let begun = (text_machine (unit s) p).begin (kept_at s.layout.leaves kept) in
    record {
      is = is;
      machine = ap (text_machine (unit s)) is;
      laid = laid_for;
      begins = record {
        halted = sym runs;
        last = sym time;
        agrees = subst (λ (q : PouText). AgreesWith (unit s) q begun s.state.store) (sym is)
            (subst (AgreesWith (unit s) p begun) (sym store) (law (unit s) p s.layout laid_for laid kept retained));
      };
    }
