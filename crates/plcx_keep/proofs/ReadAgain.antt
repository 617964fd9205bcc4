-- The lines of a state are read as that state.
use Rattle.std.proofs.Common.{◌≡◌, ◌∷◌, List, [], Option, Some, None, refl, sym, ap, ap₂, subst}
use Rattle.std.specs.Prelude.{if◌then◌else◌}
use Rattle.plcx_types.specs.declared.ty.Ty.{Ty}
use Rattle.plcx_types.specs.Lists.{Each}
use Rattle.plcx_types.specs.Range.{InRange}
use Rattle.plcx_types.specs.Value.{Value}
use Rattle.plcx_meaning.specs.Layout.{Leaf as Meant}
use Rattle.plcx_state.specs.declared.layout.Leaf.{Leaf}
use Rattle.plcx_state.specs.Layouts.{Laid, IsLaid, BeginsTyped, all_meant}
use Rattle.plcx_state.specs.Lines.{StandsForRetained, retained_lines}
use Rattle.plcx_state.specs.Meanings.{IsTypedFor, kept_values}
use Rattle.plcx_state.specs.Retains.{Pairwise, Suits, IsRetainedOf, kept_of}
use Rattle.plcx_state.specs.Stores.{begun, all_begun}
use Rattle.plcx_state.specs.Tables.{HasPlainNames}
use Rattle.plcx_state.proofs.Again as again
use Rattle.plcx_keep.specs.Texts.{state_lines}

-- what a program begins with has the types of its leaves
begun_typed : (leaves : List Leaf) (kept : List (Option Value)) → Each BeginsTyped leaves → Each (λ (m : Meant). InRange m.ty m.initial) (all_meant leaves) → Pairwise Suits leaves kept → Pairwise IsTypedFor leaves (all_begun leaves kept)
begun_typed [] [] typed range h = tt
begun_typed [] (o ∷ kept) typed range h = absurd h
begun_typed (l ∷ leaves) [] typed range h = absurd h
begun_typed (l ∷ leaves) (o ∷ kept) typed range h = (by o h.0, begun_typed leaves kept typed.1 range.1 h.1)
  where
    by : (x : Option Value) → Suits l x → IsTypedFor l (begun l x)
    by None s = (typed.0, subst (λ (t : Ty). InRange t l.initial.n) (sym typed.0) range.0)
    by (Some v) s = (s.1, s.2)

-- and its retained values are those of the state
begun_kept : (leaves : List Leaf) (kept : List (Option Value)) → Pairwise Suits leaves kept → kept_values leaves (all_begun leaves kept) ≡ kept
begun_kept [] [] h = refl
begun_kept [] (o ∷ kept) h = absurd h
begun_kept (l ∷ leaves) [] h = absurd h
begun_kept (l ∷ leaves) (o ∷ kept) h = ap₂ (λ (x : Option Value) (xs : List (Option Value)). x ∷ xs) (by o h.0) (begun_kept leaves kept h.1)
  where
    by : (x : Option Value) → Suits l x → kept_of l (Some (begun l x)) ≡ x
    by None s = ap (λ b. if b then Some l.initial else None) s
    by (Some v) s = ap (λ b. if b then Some v else None) s.0

pub read_again : (l : Laid) (kept : List (Option Value)) → IsLaid l → Each HasPlainNames l.leaves → IsRetainedOf l.leaves kept → StandsForRetained l.leaves (state_lines l.leaves kept) kept
read_again l kept laid plain of =
    subst (λ (k : List (Option Value)). StandsForRetained l.leaves (retained_lines l.leaves (all_begun l.leaves kept)) k) (begun_kept l.leaves kept of.suits)
    (again.read_again l laid plain (all_begun l.leaves kept) (begun_typed l.leaves kept laid.typed laid.layout.initial of.suits))
