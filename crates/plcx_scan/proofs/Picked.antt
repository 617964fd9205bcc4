-- The values of shown leaves.
use Rattle.std.proofs.Common.{◌≡◌, ◌<◌, ◌≤◌, ◌+◌, ◌∙◌, ◌∷◌, ◌++◌, ℕ, zero, suc, ℤ, Bool, true, false, List, [], Some, map, take, drop, length, get_or, append_assoc, refl, sym, ap, ap₂, arith, if◌then◌else◌}
use Rattle.std.specs.Prelude.{filter, slice_get}
use Rattle.std.proofs.lemmas.List.{take_more, append-nil}
use Rattle.std.proofs.lemmas.Option.{slice_get_past}
use Rattle.std.proofs.lemmas.List.Elements.{filter_map-append}
use Rattle.plcx_types.specs.Value.{Value}
use Rattle.plcx_meaning.specs.Base.{Path}
use Rattle.plcx_meaning.specs.Layout.{Leaf as Meant}
use Rattle.plcx_state.specs.declared.layout.Leaf.{Leaf}
use Rattle.plcx_state.specs.Layouts.{all_meant, meant, meant_path}
use Rattle.plcx_state.specs.Retains.{Pairwise, numbers, Agrees}
use Rattle.plcx_scan.specs.Sides.{HasTypeOf}
use Rattle.plcx_scan.specs.Rows.{shown_leaves, shown_from, shown_numbers, picked}

-- the values of the shown leaves, of those of all leaves
abbrev pub shown_of : List Leaf → List Value → List Value
shown_of [] vs = []
shown_of (leaf ∷ leaves) [] = []
shown_of (leaf ∷ leaves) (v ∷ vs) = if leaf.shown then v ∷ shown_of leaves vs else shown_of leaves vs

at_rest : (k : ℕ) (whole : List Value) (v : Value) (vs : List Value) → drop k whole ≡ v ∷ vs → (slice_get whole k ≡ Some v) × (drop (suc k) whole ≡ vs)
at_rest zero [] v vs e = absurd (cc)
at_rest zero (w ∷ whole) v vs e = (cc, cc)
at_rest (suc k) [] v vs e = absurd (cc)
at_rest (suc k) (w ∷ whole) v vs e = at_rest k whole v vs e

picked_from : (leaves : List Leaf) (vs whole : List Value) (k : ℕ) → drop k whole ≡ vs → Pairwise HasTypeOf leaves vs → picked (shown_from k leaves) whole ≡ shown_of leaves vs
picked_from [] vs whole k e h = refl
picked_from (leaf ∷ leaves) [] whole k e h = absurd h
picked_from (leaf ∷ leaves) (v ∷ vs) whole k e h =
    let here = at_rest k whole v vs e in
    let next : suc k ≡ k + 1 = omega arith in
    let rest = picked_from leaves vs whole (k + 1) (ap (λ i. drop i whole) (sym next) ∙ here.1) h.1 in
    by leaf.shown (shown_from (k + 1) leaves) (shown_of leaves vs) v here.0 rest
  where
    by : (b : Bool) (ns : List ℕ) (us : List Value) (w : Value) → slice_get whole k ≡ Some w → picked ns whole ≡ us → picked (if b then k ∷ ns else ns) whole ≡ (if b then w ∷ us else us)
    by false ns us w at is = is
    by true ns us w at is = rw at (ap (λ (t : List Value). w ∷ t) is)

-- what is picked by the numbers of shown leaves are the values of the shown leaves
pub picked_is : (leaves : List Leaf) (values : List Value) → Pairwise HasTypeOf leaves values → picked (shown_numbers leaves) values ≡ shown_of leaves values
picked_is leaves values h = picked_from leaves values values 0 refl h

-- each has its leaf's type
pub shown_typed : (leaves : List Leaf) (values : List Value) → Pairwise HasTypeOf leaves values → Pairwise HasTypeOf (shown_leaves leaves) (shown_of leaves values)
shown_typed [] [] h = tt
shown_typed [] (v ∷ vs) h = absurd h
shown_typed (leaf ∷ leaves) [] h = absurd h
shown_typed (leaf ∷ leaves) (v ∷ vs) h = by leaf.shown (shown_leaves leaves) (shown_of leaves vs) (shown_typed leaves vs h.1)
  where
    by : (b : Bool) (ls : List Leaf) (us : List Value) → Pairwise HasTypeOf ls us → Pairwise HasTypeOf (if b then leaf ∷ ls else ls) (if b then v ∷ us else us)
    by true ls us rest = (h.0, rest)
    by false ls us rest = rest

shown_pairs : (store : Path → ℤ) (leaves : List Leaf) (values : List Value) → Pairwise (λ (leaf : Leaf) (n : ℤ). store (meant_path leaf.path) ≡ n) leaves (numbers values)
    → numbers (shown_of leaves values) ≡ map (λ (leaf : Meant). store leaf.path) (filter (λ (leaf : Meant). leaf.shown) (all_meant leaves))
shown_pairs store [] values h = refl
shown_pairs store (leaf ∷ leaves) [] h = absurd h
shown_pairs store (leaf ∷ leaves) (v ∷ vs) h = by leaf.shown (shown_of leaves vs) _ (shown_pairs store leaves vs h.1)
  where
    by : (b : Bool) (us : List Value) (ms : List Meant) → numbers us ≡ map (λ (leaf : Meant). store leaf.path) ms
        → numbers (if b then v ∷ us else us) ≡ map (λ (leaf : Meant). store leaf.path) (if b then meant leaf ∷ ms else ms)
    by false us ms is = is
    by true us ms is = ap₂ (λ n ns. n ∷ ns) (sym h.0) is

-- they are what a store shows that agrees with all values
pub shown_agree : (store : Path → ℤ) (leaves : List Leaf) (values : List Value) → Agrees leaves store (numbers values)
    → numbers (shown_of leaves values) ≡ map (λ (leaf : Meant). store leaf.path) (filter (λ (leaf : Meant). leaf.shown) (all_meant leaves))
shown_agree store leaves values h = shown_pairs store leaves values h.agrees

-- one number more
pub picked_more : (ns : List ℕ) (values first : List Value) (i d : ℕ) (before after : List Value) → i < length ns → before ≡ first ++ picked (take i ns) values
    → after ≡ before ++ picked (get_or ns i d ∷ []) values → after ≡ first ++ picked (take (i + 1) ns) values
picked_more ns values first i d before after lt was is =
    is ∙ ap (λ (t : List Value). t ++ picked (get_or ns i d ∷ []) values) was ∙ append_assoc first (picked (take i ns) values) (picked (get_or ns i d ∷ []) values)
    ∙ ap (λ (t : List Value). first ++ t) (sym (filter_map-append (slice_get values) (take i ns) (get_or ns i d ∷ [])) ∙ ap (λ (t : List ℕ). picked t values) (sym (take_more ns i d lt)))

-- nothing is picked by a number past the end
pub past_end : (first values : List Value) (n : ℕ) → length values ≤ n → first ≡ first ++ picked (n ∷ []) values
past_end first values n le = rw (slice_get_past values n le, append-nil) refl
