-- Rows of a layout, and the state that they make one after another.
use Rattle.std.proofs.Common.{◌≡◌, ◌<◌, ◌≤◌, ◌+◌, ◌∷◌, ◌∙◌, ℕ, zero, suc, Bool, true, false, true≢false, List, [], Option, Some, None, set, length, refl, sym, ap, subst, arith}
use Rattle.std.specs.Prelude.{slice_get, nat_lt, if◌then◌else◌}
use Rattle.std.specs.Option.{option_map}
use Rattle.std.proofs.lemmas.Bool.{ltb-true, ltb-false}
use Rattle.std.proofs.lemmas.Option.{same_Some, slice_get-map}
use Rattle.plcx_types.specs.Lists.{Each}
use Rattle.plcx_types.specs.Range.{InRange}
use Rattle.plcx_types.specs.Value.{Value}
use Rattle.plcx_state.specs.declared.layout.Leaf.{Leaf}
use Rattle.plcx_state.specs.Layouts.{is_kept}
use Rattle.plcx_state.specs.Retains.{Suits, IsRetainedOf, HasKept}
use Rattle.plcx_state.proofs.Eaches.{each_get}
use Rattle.plcx_state.proofs.Pairing.{pairs_set}
use Rattle.plcx_keep.specs.declared.carry.CarryRow.{CarryRow}
use Rattle.plcx_keep.proofs.Lists.{get_own, get_other, get_lt, each_by, beside}
use Rattle.plcx_keep.specs.States.{kept_from, IsTypedRow, AreRowsOf, HasRow}

module _ (leaves : List Leaf) (kept : List (Option Value)) (of : IsRetainedOf leaves kept) (i : ℕ) (leaf : Leaf) (at : slice_get leaves i ≡ Some leaf) where
  -- a state has a value for a leaf that is part of it
  pub record HasOf : Type 0 where
    pub value : Value
    pub is : slice_get kept i ≡ Some (Some value)
    pub typed : value.ty ≡ leaf.ty
    pub range : InRange value.ty value.n

  pub has_of : is_kept leaf ≡ true → HasOf
  has_of k = let b = beside Suits leaves kept of.suits i leaf at in by b.0 b.1 b.2
    where
      by : (o : Option Value) → slice_get kept i ≡ Some o → Suits leaf o → HasOf
      by None e s = absurd (true≢false (sym k ∙ s))
      by (Some v) e s = record { value = v; is = e; typed = s.1; range = s.2 }

  pub has_kept : is_kept leaf ≡ true → HasKept kept i leaf.ty
  has_kept k = let h = has_of k in record { value = h.value; is = h.is; typed = h.typed }

  -- and none for another leaf
  pub has_none : is_kept leaf ≡ false → slice_get kept i ≡ Some None
  has_none k = let b = beside Suits leaves kept of.suits i leaf at in by b.0 b.1 b.2
    where
      by : (o : Option Value) → slice_get kept i ≡ Some o → Suits leaf o → slice_get kept i ≡ Some None
      by None e s = e
      by (Some v) e s = absurd (true≢false (sym s.0 ∙ k))

-- a number of a kept leaf
pub record KeptLeaf (leaves : List Leaf) (k n : ℕ) : Type 0 where
  pub place : ℕ
  pub leaf : Leaf
  pub number : n ≡ k + place
  pub there : slice_get leaves place ≡ Some leaf
  pub kept : is_kept leaf ≡ true

pub kept_leaf : (leaves : List Leaf) (k j n : ℕ) → slice_get (kept_from k leaves) j ≡ Some n → KeptLeaf leaves k n
kept_leaf [] k j n e = absurd (cc)
kept_leaf (l ∷ leaves) k j n e = by (is_kept l) refl j e (λ i h. kept_leaf leaves (k + 1) i n h)
  where
    later : KeptLeaf leaves (k + 1) n → KeptLeaf (l ∷ leaves) k n
    later r = record { place = suc r.place; leaf = r.leaf; number = omega (arith, r.number); there = r.there; kept = r.kept }

    by : (b : Bool) → is_kept l ≡ b → (i : ℕ) → slice_get (if b then k ∷ kept_from (k + 1) leaves else kept_from (k + 1) leaves) i ≡ Some n
        → ((i : ℕ) → slice_get (kept_from (k + 1) leaves) i ≡ Some n → KeptLeaf leaves (k + 1) n) → KeptLeaf (l ∷ leaves) k n
    by true is zero h rest = let same : k ≡ n = same_Some k n h in record { place = 0; leaf = l; number = omega arith; there = refl; kept = is }
    by true is (suc i) h rest = later (rest i h)
    by false is i h rest = later (rest i h)

-- numbers rise
pub kept_rise : (leaves : List Leaf) (k i j a b : ℕ) → i < j → slice_get (kept_from k leaves) i ≡ Some a → slice_get (kept_from k leaves) j ≡ Some b → a < b
kept_rise [] k i j a b lt p q = absurd (cc)
kept_rise (l ∷ leaves) k i j a b lt p q = by (is_kept l) i j lt p q (λ i j lt p q. kept_rise leaves (k + 1) i j a b lt p q)
  where
    by : (c : Bool) (i j : ℕ) → i < j → slice_get (if c then k ∷ kept_from (k + 1) leaves else kept_from (k + 1) leaves) i ≡ Some a → slice_get (if c then k ∷ kept_from (k + 1) leaves else kept_from (k + 1) leaves) j ≡ Some b
        → ((i j : ℕ) → i < j → slice_get (kept_from (k + 1) leaves) i ≡ Some a → slice_get (kept_from (k + 1) leaves) j ≡ Some b → a < b) → a < b
    by true zero zero lt p q rest = absurd (omega arith)
    by true zero (suc j) lt p q rest = let same : k ≡ a = same_Some k a p in let r = kept_leaf leaves (k + 1) j b q in omega (arith, r.number)
    by true (suc i) zero lt p q rest = absurd (omega arith)
    by true (suc i) (suc j) lt p q rest = rest i j (omega arith) p q
    by false i j lt p q rest = rest i j lt p q

-- each kept leaf has its number
pub kept_there : (leaves : List Leaf) (k i : ℕ) (leaf : Leaf) → slice_get leaves i ≡ Some leaf → is_kept leaf ≡ true → (j : ℕ) × (slice_get (kept_from k leaves) j ≡ Some (k + i))
kept_there [] k i leaf at kept = absurd (cc)
kept_there (l ∷ leaves) k zero leaf at kept =
    let is : is_kept l ≡ true = ap is_kept (same_Some l leaf at) ∙ kept in
    let z : k ≡ k + 0 = omega arith in
    (0, ap (λ b. slice_get (if b then k ∷ kept_from (k + 1) leaves else kept_from (k + 1) leaves) 0) is ∙ ap Some z)
kept_there (l ∷ leaves) k (suc i) leaf at kept = by (is_kept l) (kept_there leaves (k + 1) i leaf at kept)
  where
    by : (b : Bool) → (j : ℕ) × (slice_get (kept_from (k + 1) leaves) j ≡ Some (k + 1 + i)) → (j : ℕ) × (slice_get (if b then k ∷ kept_from (k + 1) leaves else kept_from (k + 1) leaves) j ≡ Some (k + suc i))
    by true rest = let z : k + 1 + i ≡ k + suc i = omega arith in (suc rest.0, rest.1 ∙ ap Some z)
    by false rest = let z : k + 1 + i ≡ k + suc i = omega arith in (rest.0, rest.1 ∙ ap Some z)

-- the leaf of a row
pub record LeafOf (leaves : List Leaf) (r : CarryRow) : Type 0 where
  pub leaf : Leaf
  pub there : slice_get leaves r.leaf ≡ Some leaf
  pub kept : is_kept leaf ≡ true
  pub typed : r.value.ty ≡ leaf.ty

-- a state of the layout that has the values of the first rows
pub record Goes (leaves : List Leaf) (rows : List CarryRow) (kept : List (Option Value)) (i : ℕ) : Type 0 where
  pub state : IsRetainedOf leaves kept
  pub values : (j : ℕ) (r : CarryRow) → j < i → slice_get rows j ≡ Some r → HasRow kept r

module _ (leaves : List Leaf) (rows : List CarryRow) (are : AreRowsOf leaves rows) where
  number_there : (j : ℕ) (r : CarryRow) → slice_get rows j ≡ Some r → slice_get (kept_from 0 leaves) j ≡ Some r.leaf
  number_there j r at = ap (λ ns. slice_get ns j) (sym are.numbers) ∙ slice_get-map (λ (x : CarryRow). x.leaf) rows j ∙ ap (option_map (λ (x : CarryRow). x.leaf)) at

  pub leaf_of : (j : ℕ) (r : CarryRow) → slice_get rows j ≡ Some r → LeafOf leaves r
  leaf_of j r at =
      let k = kept_leaf leaves 0 j r.leaf (number_there j r at) in
      let same : r.leaf ≡ k.place = omega (arith, k.number) in
      let there : slice_get leaves r.leaf ≡ Some k.leaf = ap (slice_get leaves) same ∙ k.there in
      record { leaf = k.leaf; there = there; kept = k.kept; typed = each_get (IsTypedRow leaves) rows j r at are.typed k.leaf there }

  pub rows_rise : (i j : ℕ) (a b : CarryRow) → i < j → slice_get rows i ≡ Some a → slice_get rows j ≡ Some b → a.leaf < b.leaf
  rows_rise i j a b lt p q = kept_rise leaves 0 i j a.leaf b.leaf lt (number_there i a p) (number_there j b q)

  -- the row of a leaf
  pub row_of_leaf : (i : ℕ) (leaf : Leaf) → slice_get leaves i ≡ Some leaf → is_kept leaf ≡ true → (j : ℕ) × (r : CarryRow) × (slice_get rows j ≡ Some r) × (r.leaf ≡ i)
  row_of_leaf i leaf at kept =
      let k = kept_there leaves 0 i leaf at kept in
      by (slice_get rows k.0) refl (sym (slice_get-map (λ (x : CarryRow). x.leaf) rows k.0) ∙ ap (λ ns. slice_get ns k.0) are.numbers ∙ k.1)
    where
      by : (o : Option CarryRow) → slice_get rows (kept_there leaves 0 i leaf at kept).0 ≡ o → option_map (λ (x : CarryRow). x.leaf) o ≡ Some (0 + i) → (j : ℕ) × (r : CarryRow) × (slice_get rows j ≡ Some r) × (r.leaf ≡ i)
      by None e h = absurd (cc)
      by (Some r) e h = let same = same_Some r.leaf (0 + i) h in ((kept_there leaves 0 i leaf at kept).0, r, e, omega (arith, same))

  pub goes_none : (kept : List (Option Value)) → IsRetainedOf leaves kept → Goes leaves rows kept 0
  goes_none kept of = record { state = of; values = λ j r lt at. absurd (omega arith) }

  module _ (kept : List (Option Value)) (i : ℕ) (goes : Goes leaves rows kept i) (r : CarryRow) (at : slice_get rows i ≡ Some r) where
    pub can_set : HasKept kept r.leaf r.value.ty
    can_set = let l = leaf_of i r at in subst (HasKept kept r.leaf) (sym l.typed) (has_kept leaves kept goes.state r.leaf l.leaf l.there l.kept)

    pub goes_more : InRange r.value.ty r.value.n → Goes leaves rows (set kept r.leaf (Some r.value)) (i + 1)
    goes_more range = record {
      state = record { suits = pairs_set Suits leaves kept goes.state.suits r.leaf (Some r.value) suits };
      values = values;
    }
      where
        suits : (x : Leaf) → slice_get leaves r.leaf ≡ Some x → Suits x (Some r.value)
        suits x there =
            let l = leaf_of i r at in
            let same : l.leaf ≡ x = same_Some l.leaf x (sym l.there ∙ there) in
            subst (λ (y : Leaf). Suits y (Some r.value)) same (l.kept, l.typed, range)

        values : (j : ℕ) (x : CarryRow) → j < i + 1 → slice_get rows j ≡ Some x → HasRow (set kept r.leaf (Some r.value)) x
        values j x lt there = by (nat_lt j i) refl
          where
            by : (b : Bool) → nat_lt j i ≡ b → HasRow (set kept r.leaf (Some r.value)) x
            by true is =
                let less = ltb-true j i is in
                let rise = rows_rise j i x r less there at in
                get_other kept r.leaf x.leaf (Some r.value) (λ e. absurd (omega arith)) ∙ goes.values j x less there
            by false is =
                let least = ltb-false j i is in
                let same : j ≡ i = omega arith in
                let row : r ≡ x = same_Some r x (sym at ∙ ap (slice_get rows) (sym same) ∙ there) in
                let has = can_set in
                subst (HasRow (set kept r.leaf (Some r.value))) row (get_own kept r.leaf (Some has.value) (Some r.value) has.is)

  pub goes_all : (kept : List (Option Value)) (i : ℕ) → length rows ≤ i → Goes leaves rows kept i → Each (HasRow kept) rows
  goes_all kept i long goes = each_by (HasRow kept) rows (λ j r at. goes.values j r (let lt = get_lt rows j r at in omega arith) at)
