-- Rows: one for each leaf that is part of a retained state, with a value of its type.
use Rattle.std.proofs.Common.{◌≡◌, ◌<◌, ◌≤◌, ◌+◌, ◌∷◌, ◌++◌, ◌∙◌, ℕ, suc, Bool, true, false, List, [], Option, Some, None, map, length, refl, sym, ap, ap₂, subst, arith, zero-add}
use Rattle.std.specs.Prelude.{slice_get, if◌then◌else◌}
use Rattle.std.proofs.lemmas.Option.{same_Some}
use Rattle.plcx_types.specs.Lists.{Each}
use Rattle.plcx_types.specs.Literal.{value}
use Rattle.plcx_types.specs.TypeName.{same_ty}
use Rattle.plcx_types.specs.Value.{Value}
use Rattle.plcx_types.proofs.TypeTable.{same_is}
use Rattle.plcx_meaning.specs.Base.{Path}
use Rattle.plcx_state.specs.declared.layout.Leaf.{Leaf}
use Rattle.plcx_state.specs.Layouts.{Laid, IsLaid, BeginsTyped, meant_path, is_kept}
use Rattle.plcx_state.proofs.Eaches.{each_get}
use Rattle.plcx_keep.specs.declared.carry.Fate.TheVariants.{Kept, Changed, Fresh}
use Rattle.plcx_keep.specs.declared.carry.CarryRow.{CarryRow}
use Rattle.plcx_keep.specs.declared.carry.Lost.{Lost}
use Rattle.plcx_keep.specs.Carries.{value_of, value_at, can_change, row, row_of, rows_from, is_lost, lost_value, lost_if, lost_from}
use Rattle.plcx_keep.specs.States.{kept_from, IsTypedRow, AreRowsOf, AreRowsWithin, AreLostWithin}
use Rattle.plcx_keep.proofs.Lists.{get_lt}

pub row_leaf : (n : ℕ) (leaf : Leaf) (o : Option Value) → (row_of n leaf o).leaf ≡ n
row_leaf n leaf None = refl
row_leaf n leaf (Some v) = by (same_ty v.ty leaf.ty) (can_change v leaf.ty)
  where
    by : (b c : Bool) → (if b then row n Kept v else (if c then row n Changed (value leaf.ty v.n) else row n Fresh leaf.initial)).leaf ≡ n
    by true c = refl
    by false true = refl
    by false false = refl

row_typed : (n : ℕ) (leaf : Leaf) (o : Option Value) → leaf.initial.ty ≡ leaf.ty → (row_of n leaf o).value.ty ≡ leaf.ty
row_typed n leaf None h = h
row_typed n leaf (Some v) h = by (same_ty v.ty leaf.ty) refl (can_change v leaf.ty)
  where
    by : (b : Bool) → same_ty v.ty leaf.ty ≡ b → (c : Bool) → (if b then row n Kept v else (if c then row n Changed (value leaf.ty v.n) else row n Fresh leaf.initial)).value.ty ≡ leaf.ty
    by true is c = same_is v.ty leaf.ty is
    by false is true = refl
    by false is false = h

-- what is kept has the old value
pub kept_means : (n : ℕ) (leaf : Leaf) (o : Option Value) → (row_of n leaf o).fate ≡ Kept → o ≡ Some (row_of n leaf o).value
kept_means n leaf None h = absurd (cc)
kept_means n leaf (Some v) h = by (same_ty v.ty leaf.ty) (can_change v leaf.ty) h
  where
    by : (b c : Bool) → (if b then row n Kept v else (if c then row n Changed (value leaf.ty v.n) else row n Fresh leaf.initial)).fate ≡ Kept
        → Some v ≡ Some (if b then row n Kept v else (if c then row n Changed (value leaf.ty v.n) else row n Fresh leaf.initial)).value
    by true c k = refl
    by false true k = absurd (cc)
    by false false k = absurd (cc)

module _ (old : Path → Option Value) where
  -- what holds of the row of each leaf
  pub each_row : (P : CarryRow → Type 0) (k : ℕ) (leaves : List Leaf) → ((i : ℕ) (leaf : Leaf) → slice_get leaves i ≡ Some leaf → is_kept leaf ≡ true → P (row_of (k + i) leaf (old (meant_path leaf.path)))) → Each P (rows_from old k leaves)
  each_row P k [] f = tt
  each_row P k (l ∷ leaves) f = by (is_kept l) refl (each_row P (k + 1) leaves (λ i leaf at kept. let z : k + suc i ≡ k + 1 + i = omega arith in subst (λ n. P (row_of n leaf (old (meant_path leaf.path)))) z (f (suc i) leaf at kept)))
    where
      by : (b : Bool) → is_kept l ≡ b → Each P (rows_from old (k + 1) leaves) → Each P ((if b then row_of k l (old (meant_path l.path)) ∷ [] else []) ++ rows_from old (k + 1) leaves)
      by true is rest = (let z : k + 0 ≡ k = omega arith in subst (λ n. P (row_of n l (old (meant_path l.path)))) z (f 0 l refl is), rest)
      by false is rest = rest

  row_numbers : (k : ℕ) (leaves : List Leaf) → map (λ (r : CarryRow). r.leaf) (rows_from old k leaves) ≡ kept_from k leaves
  row_numbers k [] = refl
  row_numbers k (l ∷ leaves) = by (is_kept l) (row_numbers (k + 1) leaves)
    where
      by : (b : Bool) → map (λ (r : CarryRow). r.leaf) (rows_from old (k + 1) leaves) ≡ kept_from (k + 1) leaves
          → map (λ (r : CarryRow). r.leaf) ((if b then row_of k l (old (meant_path l.path)) ∷ [] else []) ++ rows_from old (k + 1) leaves) ≡ (if b then k ∷ kept_from (k + 1) leaves else kept_from (k + 1) leaves)
      by true rest = ap₂ (λ (n : ℕ) (ns : List ℕ). n ∷ ns) (row_leaf k l (old (meant_path l.path))) rest
      by false rest = rest

  pub rows_are : (l : Laid) → IsLaid l → AreRowsOf l.leaves (rows_from old 0 l.leaves)
  rows_are l laid = record { numbers = row_numbers 0 l.leaves; typed = each_row (IsTypedRow l.leaves) 0 l.leaves typed }
    where
      typed : (i : ℕ) (leaf : Leaf) → slice_get l.leaves i ≡ Some leaf → is_kept leaf ≡ true → IsTypedRow l.leaves (row_of (0 + i) leaf (old (meant_path leaf.path)))
      typed i leaf at kept x there =
          let number : (row_of (0 + i) leaf (old (meant_path leaf.path))).leaf ≡ i = row_leaf (0 + i) leaf (old (meant_path leaf.path)) ∙ zero-add i in
          let same : leaf ≡ x = same_Some leaf x (sym at ∙ ap (slice_get l.leaves) (sym number) ∙ there) in
          row_typed (0 + i) leaf (old (meant_path leaf.path)) (each_get BeginsTyped l.leaves i leaf at laid.typed) ∙ ap (λ (y : Leaf). y.ty) same

  pub rows_within : (leaves : List Leaf) → AreRowsWithin leaves (rows_from old 0 leaves)
  rows_within leaves = each_row (λ (r : CarryRow). r.leaf < length leaves) 0 leaves (λ i leaf at kept.
      let number : (row_of (0 + i) leaf (old (meant_path leaf.path))).leaf ≡ i = row_leaf (0 + i) leaf (old (meant_path leaf.path)) ∙ zero-add i in
      subst (λ n. n < length leaves) (sym number) (get_lt leaves i leaf at))

  -- the leaf of a row of a list
  pub record IsRow (leaves : List Leaf) (r : CarryRow) : Type 0 where
    pub leaf : Leaf
    pub there : slice_get leaves r.leaf ≡ Some leaf
    pub is : r ≡ row_of r.leaf leaf (old (meant_path leaf.path))

  pub are_rows : (leaves : List Leaf) → Each (IsRow leaves) (rows_from old 0 leaves)
  are_rows leaves = each_row (IsRow leaves) 0 leaves (λ i leaf at kept.
      let o = old (meant_path leaf.path) in
      let number : (row_of (0 + i) leaf o).leaf ≡ 0 + i = row_leaf (0 + i) leaf o in
      record { leaf = leaf; there = ap (slice_get leaves) (number ∙ zero-add i) ∙ at; is = ap (λ n. row_of n leaf o) (sym number) })

-- the leaves of lost values
lost_below : (after : List Leaf) (kept : List (Option Value)) (k : ℕ) (leaves : List Leaf) (n : ℕ) → k + length leaves ≤ n → Each (λ (lost : Lost). lost.leaf < n) (lost_from after kept k leaves)
lost_below after kept k [] n h = tt
lost_below after kept k (l ∷ leaves) n h = by (value_of kept k) (lost_below after kept (k + 1) leaves n (omega arith))
  where
    with : (b : Bool) (v : Value) → Each (λ (lost : Lost). lost.leaf < n) (lost_from after kept (k + 1) leaves)
        → Each (λ (lost : Lost). lost.leaf < n) ((if b then lost_value k v ∷ [] else []) ++ lost_from after kept (k + 1) leaves)
    with true v rest = (omega arith, rest)
    with false v rest = rest

    by : (o : Option Value) → Each (λ (lost : Lost). lost.leaf < n) (lost_from after kept (k + 1) leaves) → Each (λ (lost : Lost). lost.leaf < n) (lost_if after k l o ++ lost_from after kept (k + 1) leaves)
    by None rest = rest
    by (Some v) rest = with (is_lost after (meant_path l.path) v) v rest

pub lost_within : (after : List Leaf) (kept : List (Option Value)) (leaves : List Leaf) → AreLostWithin leaves (lost_from after kept 0 leaves)
lost_within after kept leaves = lost_below after kept 0 leaves (length leaves) (omega arith)

-- the same of rows, and of lost values, by other names
pub rows_so : (before : List Leaf) (kept : List (Option Value)) (l : Laid) → IsLaid l → (leaves : List Leaf) (rows : List CarryRow) → leaves ≡ l.leaves → rows ≡ rows_from (value_at before kept) 0 leaves → AreRowsOf l.leaves rows
rows_so before kept l laid leaves rows e f = subst (AreRowsOf l.leaves) (sym (f ∙ ap (rows_from (value_at before kept) 0) e)) (rows_are (value_at before kept) l laid)

pub rows_within_so : (before : List Leaf) (kept : List (Option Value)) (l : Laid) (leaves : List Leaf) (rows : List CarryRow) → leaves ≡ l.leaves → rows ≡ rows_from (value_at before kept) 0 leaves → AreRowsWithin l.leaves rows
rows_within_so before kept l leaves rows e f = subst (AreRowsWithin l.leaves) (sym (f ∙ ap (rows_from (value_at before kept) 0) e)) (rows_within (value_at before kept) l.leaves)

pub lost_within_so : (after : List Leaf) (kept : List (Option Value)) (l : Laid) (leaves : List Leaf) (all : List Lost) → leaves ≡ l.leaves → all ≡ lost_from after kept 0 leaves → AreLostWithin l.leaves all
lost_within_so after kept l leaves all e f = subst (AreLostWithin l.leaves) (sym (f ∙ ap (lost_from after kept 0) e)) (lost_within after kept l.leaves)
