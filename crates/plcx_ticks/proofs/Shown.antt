-- Where no value is left.
use Rattle.std.proofs.Common.{◌≡◌, ◌∙◌, ℕ, zero, suc, List, [], ◌∷◌, ◌++◌, None, drop, refl, sym, ap}
use Rattle.std.specs.Prelude.{slice_get}
use Rattle.plcx_types.specs.Value.{Value}
use Rattle.plcx_state.specs.declared.layout.Leaf.{Leaf}
use Rattle.plcx_scan.specs.Rows.{shown_leaves}
use Rattle.plcx_ticks.specs.Texts.{named_values}

none_left : (leaves : List Leaf) → named_values leaves [] ≡ []
none_left [] = refl
none_left (leaf ∷ leaves) = refl

ends : {A : Type 0} (values : List A) (place : ℕ) → slice_get values place ≡ None → drop place values ≡ []
ends [] zero h = refl
ends [] (suc place) h = refl
ends (v ∷ values) zero h = absurd (cc)
ends (v ∷ values) (suc place) h = ends values place h

-- where no value is left there is none for it
pub no_value : (text : List ℕ) (leaf : Leaf) (leaves : List Leaf) (values : List Value) (place : ℕ) → slice_get values place ≡ None
    → text ++ named_values (shown_leaves leaves) (drop place values) ≡ text ++ named_values (shown_leaves (leaf ∷ leaves)) (drop place values)
no_value text leaf leaves values place h =
    let nothing = ends values place h in
    ap (λ (vs : List Value). text ++ named_values (shown_leaves leaves) vs) nothing
    ∙ ap (λ (t : List ℕ). text ++ t) (none_left (shown_leaves leaves) ∙ sym (none_left (shown_leaves (leaf ∷ leaves))))
    ∙ ap (λ (vs : List Value). text ++ named_values (shown_leaves (leaf ∷ leaves)) vs) (sym nothing)
