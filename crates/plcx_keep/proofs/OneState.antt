-- Rows make one state at most.
use Rattle.std.proofs.Common.{◌≡◌, ◌∷◌, ◌∙◌, ℕ, suc, Bool, true, false, List, [], Option, Some, refl, sym, ap, ap₂}
use Rattle.std.specs.Prelude.{slice_get}
use Rattle.std.proofs.lemmas.Option.{same_Some}
use Rattle.plcx_types.specs.Value.{Value}
use Rattle.plcx_state.specs.declared.layout.Leaf.{Leaf}
use Rattle.plcx_state.specs.Layouts.{is_kept}
use Rattle.plcx_state.specs.Retains.{Pairwise, Suits}
use Rattle.plcx_state.proofs.Eaches.{each_get}
use Rattle.plcx_keep.specs.declared.carry.CarryRow.{CarryRow}
use Rattle.plcx_keep.specs.States.{AreRowsOf, HasRow, IsCarried}
use Rattle.plcx_keep.proofs.States.{has_none, row_of_leaf}

same_lists : (leaves : List Leaf) (xs ys : List (Option Value)) → Pairwise Suits leaves xs → Pairwise Suits leaves ys → ((i : ℕ) (leaf : Leaf) → slice_get leaves i ≡ Some leaf → slice_get xs i ≡ slice_get ys i) → xs ≡ ys
same_lists [] [] [] h k f = refl
same_lists [] [] (y ∷ ys) h k f = absurd k
same_lists [] (x ∷ xs) ys h k f = absurd h
same_lists (l ∷ leaves) [] ys h k f = absurd h
same_lists (l ∷ leaves) (x ∷ xs) [] h k f = absurd k
same_lists (l ∷ leaves) (x ∷ xs) (y ∷ ys) h k f = ap₂ (λ (o : Option Value) (os : List (Option Value)). o ∷ os) (same_Some x y (f 0 l refl)) (same_lists leaves xs ys h.1 k.1 (λ i. f (suc i)))

pub one_state : (leaves : List Leaf) (rows : List CarryRow) (x y : List (Option Value)) → AreRowsOf leaves rows → IsCarried leaves rows x → IsCarried leaves rows y → x ≡ y
one_state leaves rows x y are hx hy = same_lists leaves x y hx.state.suits hy.state.suits each
  where
    each : (i : ℕ) (leaf : Leaf) → slice_get leaves i ≡ Some leaf → slice_get x i ≡ slice_get y i
    each i leaf at = by (is_kept leaf) refl
      where
        by : (b : Bool) → is_kept leaf ≡ b → slice_get x i ≡ slice_get y i
        by true kept =
            let r = row_of_leaf leaves rows are i leaf at kept in
            ap (slice_get x) (sym r.3) ∙ each_get (HasRow x) rows r.0 r.1 r.2 hx.values ∙ sym (each_get (HasRow y) rows r.0 r.1 r.2 hy.values) ∙ ap (slice_get y) r.3
        by false kept = has_none leaves x hx.state i leaf at kept ∙ sym (has_none leaves y hy.state i leaf at kept)
