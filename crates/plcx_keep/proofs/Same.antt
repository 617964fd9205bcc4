-- From a layout to itself.
use Rattle.std.proofs.Common.{◌≡◌, ◌+◌, ◌∷◌, ◌++◌, ◌∙◌, ℕ, suc, Bool, true, false, List, [], Option, Some, refl, sym, ap, ap₂, subst, arith, zero-add}
use Rattle.std.specs.Prelude.{slice_get, not, ◌&&◌, if◌then◌else◌}
use Rattle.std.specs.Option.{option_and_then}
use Rattle.plcx_types.specs.TypeName.{same_ty}
use Rattle.plcx_types.specs.Literal.{value}
use Rattle.plcx_types.specs.Value.{Value}
use Rattle.plcx_types.proofs.TypeTable.{same_refl}
use Rattle.plcx_state.specs.declared.layout.Leaf.{Leaf}
use Rattle.plcx_state.specs.Layouts.{Laid, IsLaid, meant_path, is_kept}
use Rattle.plcx_state.specs.Retains.{IsRetainedOf}
use Rattle.plcx_state.proofs.Paths.{same_if}
use Rattle.plcx_keep.specs.declared.carry.Fate.TheVariants.{Kept, Changed, Fresh}
use Rattle.plcx_keep.specs.declared.carry.CarryRow.{CarryRow}
use Rattle.plcx_keep.specs.declared.carry.Lost.{Lost}
use Rattle.plcx_keep.specs.Carries.{value_of, value_at, can_change, row, row_of, rows_from, is_from_old, is_carried_to, is_lost, lost_value, lost_if, lost_from}
use Rattle.plcx_keep.specs.States.{HasRow, IsCarried}
use Rattle.plcx_keep.specs.Laws.{IsUnchanged}
use Rattle.plcx_keep.proofs.Found.{found_one, any_passes}
use Rattle.plcx_keep.proofs.OneState.{one_state}
use Rattle.plcx_keep.proofs.Rows.{each_row, rows_are}
use Rattle.plcx_keep.proofs.States.{has_of, has_none}

-- a value of the leaf's type is kept
kept_row : (n : ℕ) (leaf : Leaf) (v : Value) → v.ty ≡ leaf.ty → row_of n leaf (Some v) ≡ row n Kept v
kept_row n leaf v typed = ap (λ b. if b then row n Kept v else (if can_change v leaf.ty then row n Changed (value leaf.ty v.n) else row n Fresh leaf.initial))
    (ap (λ t. same_ty t leaf.ty) typed ∙ same_refl leaf.ty)

module _ (l : Laid) (kept : List (Option Value)) (laid : IsLaid l) (of : IsRetainedOf l.leaves kept) where
  found : (i : ℕ) (leaf : Leaf) → slice_get l.leaves i ≡ Some leaf → value_at l.leaves kept (meant_path leaf.path) ≡ value_of kept i
  found i leaf at = ap (option_and_then (value_of kept)) (found_one l.leaves laid.layout.apart i leaf at)

  valued : (i : ℕ) (v : Value) → slice_get kept i ≡ Some (Some v) → value_of kept i ≡ Some v
  valued i v e = ap (option_and_then (λ (o : Option Value). o)) e

  -- each leaf has its own value again
  own_row : (n i : ℕ) (leaf : Leaf) (at : slice_get l.leaves i ≡ Some leaf) (k : is_kept leaf ≡ true) → row_of n leaf (value_at l.leaves kept (meant_path leaf.path)) ≡ row n Kept (has_of l.leaves kept of i leaf at k).value
  own_row n i leaf at k =
      let h = has_of l.leaves kept of i leaf at k in
      ap (row_of n leaf) (found i leaf at ∙ valued i h.value h.is) ∙ kept_row n leaf h.value h.typed

  -- so none is lost
  none_lost : (k : ℕ) (leaf : Leaf) → slice_get l.leaves k ≡ Some leaf → lost_if l.leaves k leaf (value_of kept k) ≡ []
  none_lost k leaf at = by (is_kept leaf) refl
    where
      taken : (v : Value) → v.ty ≡ leaf.ty → is_kept leaf ≡ true → is_lost l.leaves (meant_path leaf.path) v ≡ false
      taken v typed is = ap not (any_passes (is_carried_to (meant_path leaf.path) v) l.leaves k leaf at
          (ap₂ (λ a b. a && b) (same_if (meant_path leaf.path) (meant_path leaf.path) refl) (ap₂ (λ a b. a && b) is (ap (λ (r : CarryRow). is_from_old r.fate) (kept_row 0 leaf v typed)))))

      by : (b : Bool) → is_kept leaf ≡ b → lost_if l.leaves k leaf (value_of kept k) ≡ []
      by true is =
          let h = has_of l.leaves kept of k leaf at is in
          ap (lost_if l.leaves k leaf) (valued k h.value h.is) ∙ ap (λ b. if b then lost_value k h.value ∷ [] else []) (taken h.value h.typed is)
      by false is = ap (λ o. lost_if l.leaves k leaf (option_and_then (λ (x : Option Value). x) o)) (has_none l.leaves kept of k leaf at is)

  all_found : (k : ℕ) (leaves : List Leaf) → ((i : ℕ) (leaf : Leaf) → slice_get leaves i ≡ Some leaf → slice_get l.leaves (k + i) ≡ Some leaf) → lost_from l.leaves kept k leaves ≡ []
  all_found k [] f = refl
  all_found k (x ∷ leaves) f =
      let z : k + 0 ≡ k = omega arith in
      ap₂ (λ (a b : List Lost). a ++ b) (none_lost k x (ap (slice_get l.leaves) (sym z) ∙ f 0 x refl))
      (all_found (k + 1) leaves (λ i leaf at. let s : k + 1 + i ≡ k + suc i = omega arith in ap (slice_get l.leaves) s ∙ f (suc i) leaf at))

  own_state : IsCarried l.leaves (rows_from (value_at l.leaves kept) 0 l.leaves) kept
  own_state = record {
    state = of;
    values = each_row (value_at l.leaves kept) (HasRow kept) 0 l.leaves (λ i leaf at k.
        subst (HasRow kept) (sym (own_row (0 + i) i leaf at k)) (ap (slice_get kept) (zero-add i) ∙ (has_of l.leaves kept of i leaf at k).is));
  }

  pub is_unchanged : IsUnchanged l.leaves kept
  is_unchanged = record {
    rows = each_row (value_at l.leaves kept) (λ (r : CarryRow). r.fate ≡ Kept) 0 l.leaves (λ i leaf at k. ap (λ (r : CarryRow). r.fate) (own_row (0 + i) i leaf at k));
    lost = all_found 0 l.leaves (λ i leaf at. ap (slice_get l.leaves) (zero-add i) ∙ at);
    state = λ more carried. one_state l.leaves (rows_from (value_at l.leaves kept) 0 l.leaves) more kept (rows_are (value_at l.leaves kept) l laid) carried own_state;
  }
