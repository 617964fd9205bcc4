-- The first item of a list that passes a test, and leaves whose paths are apart.
use Rattle.std.proofs.Common.{◌≡◌, ◌<◌, ◌+◌, ◌∷◌, ◌∙◌, ℕ, zero, suc, Bool, true, false, true≢false, List, [], Some, None, cond, map, refl, sym, ap, arith, zero-add}
use Rattle.std.specs.Prelude.{slice_get, not}
use Rattle.std.specs.List.{position_from, list_any}
use Rattle.std.specs.Option.{option_map}
use Rattle.std.proofs.lemmas.Bool.{and_parts, or_parts, not-true, false_from_ne_true}
use Rattle.std.proofs.lemmas.Option.{same_Some, slice_get-map}
use Rattle.std.proofs.lemmas.Slice.Eq.{bytes_eq-Decides}
use Rattle.plcx_types.specs.Name.{in_lower_case}
use Rattle.plcx_types.specs.Lists.{Each}
use Rattle.plcx_meaning.specs.Base.{Path, same_path}
use Rattle.plcx_meaning.specs.Layout.{all_apart}
use Rattle.plcx_meaning.specs.Layout.{Leaf as Meant}
use Rattle.plcx_meaning.proofs.Starts.{path_same}
use Rattle.plcx_state.specs.declared.layout.Leaf.{Leaf}
use Rattle.plcx_state.specs.Layouts.{meant_path, meant, all_meant, dotted, is_nameless, HasName}
use Rattle.plcx_state.specs.Tables.{path_text, is_printed, printed_at, IsPlain, HasPlainNames, IsTold}
use Rattle.plcx_state.proofs.Paths.{same_if, meant_from}
use Rattle.plcx_state.proofs.Eaches.{each_get}
use Rattle.plcx_state.proofs.Dots.{names_from}

module _ {X : Type 0} (t : X → Bool) where
  -- the place that is found has an item that passes
  pub found_passes : (xs : List X) (k n : ℕ) → position_from t k xs ≡ Some n → (i : ℕ) × (x : X) × (n ≡ k + i) × (slice_get xs i ≡ Some x) × (t x ≡ true)
  found_passes [] k n e = absurd (cc)
  found_passes (x ∷ xs) k n e = by (t x) refl e (λ h. found_passes xs (k + 1) n h)
    where
      by : (b : Bool) → t x ≡ b → cond b (Some k) (position_from t (k + 1) xs) ≡ Some n → (position_from t (k + 1) xs ≡ Some n → (i : ℕ) × (y : X) × (n ≡ k + 1 + i) × (slice_get xs i ≡ Some y) × (t y ≡ true))
          → (i : ℕ) × (y : X) × (n ≡ k + i) × (slice_get (x ∷ xs) i ≡ Some y) × (t y ≡ true)
      by true is h rest = let same : k ≡ n = same_Some k n h in (0, x, (omega arith), refl, is)
      by false is h rest = let r = rest h in (suc r.0, r.1, (let e = r.2 in omega arith), r.3, r.4)

  -- the first item that passes is found
  pub first_found : (xs : List X) (k i : ℕ) (x : X) → slice_get xs i ≡ Some x → t x ≡ true → ((j : ℕ) (y : X) → j < i → slice_get xs j ≡ Some y → t y ≡ false) → position_from t k xs ≡ Some (k + i)
  first_found [] k i x at passes before = absurd (cc)
  first_found (y ∷ xs) k zero x at passes before =
      let is : t y ≡ true = ap t (same_Some y x at) ∙ passes in
      let z : k ≡ k + 0 = omega arith in
      ap (λ b. cond b (Some k) (position_from t (k + 1) xs)) is ∙ ap Some z
  first_found (y ∷ xs) k (suc i) x at passes before =
      let z : k + 1 + i ≡ k + suc i = omega arith in
      ap (λ b. cond b (Some k) (position_from t (k + 1) xs)) (before 0 y (omega arith) refl)
      ∙ first_found xs (k + 1) i x at passes (λ j z lt. before (suc j) z (omega arith))
      ∙ ap Some z

  -- where none passes none is found
  pub none_found : (xs : List X) (k : ℕ) → ((i : ℕ) (x : X) → slice_get xs i ≡ Some x → t x ≡ true → ⊥) → position_from t k xs ≡ None
  none_found [] k h = refl
  none_found (x ∷ xs) k h =
      ap (λ b. cond b (Some k) (position_from t (k + 1) xs)) (false_from_ne_true (t x) (h 0 x refl)) ∙ none_found xs (k + 1) (λ i. h (suc i))

-- two paths are compared in either order
pub swapped : (p q : Path) → same_path p q ≡ false → same_path q p ≡ false
swapped p q h = false_from_ne_true (same_path q p) (λ e. true≢false (sym (same_if p q (sym (path_same q p e))) ∙ h))

abbrev pub paths : List Leaf → List Path
paths leaves = map (λ (leaf : Meant). leaf.path) (all_meant leaves)

-- a leaf among leaves whose path none of theirs is
apart_meant : (leaves : List Meant) (p : Path) → list_any (same_path p) (map (λ (x : Meant). x.path) leaves) ≡ false → (i : ℕ) (leaf : Meant) → slice_get leaves i ≡ Some leaf → same_path p leaf.path ≡ false
apart_meant [] p h i leaf at = absurd (cc)
apart_meant (l ∷ leaves) p h zero leaf at =
    let a = or_parts (same_path p l.path) (list_any (same_path p) (map (λ (x : Meant). x.path) leaves)) h in
    ap (λ (x : Meant). same_path p x.path) (sym (same_Some l leaf at)) ∙ a.0
apart_meant (l ∷ leaves) p h (suc i) leaf at = apart_meant leaves p (or_parts (same_path p l.path) (list_any (same_path p) (map (λ (x : Meant). x.path) leaves)) h).1 i leaf at

-- a leaf of the meaning is known by its path
pub one_meant : (leaves : List Meant) → all_apart (map (λ (x : Meant). x.path) leaves) ≡ true → (i j : ℕ) (a b : Meant) → slice_get leaves i ≡ Some a → slice_get leaves j ≡ Some b → a.path ≡ b.path → i ≡ j
one_meant [] h i j a b p q e = absurd (cc)
one_meant (l ∷ leaves) h zero zero a b p q e = refl
one_meant (l ∷ leaves) h zero (suc j) a b p q e =
    let parts = and_parts (not (list_any (same_path l.path) (map (λ (x : Meant). x.path) leaves))) (all_apart (map (λ (x : Meant). x.path) leaves)) h in
    let same : l.path ≡ b.path = ap (λ (x : Meant). x.path) (same_Some l a p) ∙ e in
    absurd (true≢false (sym (same_if l.path b.path same) ∙ apart_meant leaves l.path (not-true _ parts.0) j b q))
one_meant (l ∷ leaves) h (suc i) zero a b p q e =
    let parts = and_parts (not (list_any (same_path l.path) (map (λ (x : Meant). x.path) leaves))) (all_apart (map (λ (x : Meant). x.path) leaves)) h in
    let same : l.path ≡ a.path = ap (λ (x : Meant). x.path) (same_Some l b q) ∙ sym e in
    absurd (true≢false (sym (same_if l.path a.path same) ∙ apart_meant leaves l.path (not-true _ parts.0) i a p))
one_meant (l ∷ leaves) h (suc i) (suc j) a b p q e =
    let parts = and_parts (not (list_any (same_path l.path) (map (λ (x : Meant). x.path) leaves))) (all_apart (map (λ (x : Meant). x.path) leaves)) h in
    ap suc (one_meant leaves parts.1 i j a b p q e)

-- the same of leaves by their numbers
meant_at : (leaves : List Leaf) (i : ℕ) (leaf : Leaf) → slice_get leaves i ≡ Some leaf → slice_get (all_meant leaves) i ≡ Some (meant leaf)
meant_at leaves i leaf at = slice_get-map meant leaves i ∙ ap (option_map meant) at

pub apart_from : (leaves : List Leaf) (p : Path) → list_any (same_path p) (paths leaves) ≡ false → (i : ℕ) (leaf : Leaf) → slice_get leaves i ≡ Some leaf → same_path p (meant_path leaf.path) ≡ false
apart_from leaves p h i leaf at = apart_meant (all_meant leaves) p h i (meant leaf) (meant_at leaves i leaf at)

pub one_place : (leaves : List Leaf) → all_apart (paths leaves) ≡ true → (i j : ℕ) (a b : Leaf) → slice_get leaves i ≡ Some a → slice_get leaves j ≡ Some b → meant_path a.path ≡ meant_path b.path → i ≡ j
one_place leaves h i j a b p q e = one_meant (all_meant leaves) h i j (meant a) (meant b) (meant_at leaves i a p) (meant_at leaves j b q) e

pub one_leaf : (leaves : List Leaf) → all_apart (paths leaves) ≡ true → (i j : ℕ) (a b : Leaf) → slice_get leaves i ≡ Some a → slice_get leaves j ≡ Some b → meant_path a.path ≡ meant_path b.path → a ≡ b
one_leaf leaves h i j a b p q e = same_Some a b (sym p ∙ ap (slice_get leaves) (one_place leaves h i j a b p q e) ∙ q)

-- a leaf is known by how its path is printed
by_text : (a b : Leaf) → HasName a → HasName b → HasPlainNames a → HasPlainNames b → path_text a ≡ path_text b → meant_path a.path ≡ meant_path b.path
by_text a b na nb pa pb e = by a.path b.path na nb pa pb e
  where
    by : (xs ys : List (List ℕ)) → is_nameless xs ≡ false → is_nameless ys ≡ false → Each IsPlain xs → Each IsPlain ys → in_lower_case (dotted xs) ≡ in_lower_case (dotted ys) → meant_path xs ≡ meant_path ys
    by [] ys nx ny px py h = absurd (true≢false nx)
    by (x ∷ xs) [] nx ny px py h = absurd (true≢false ny)
    by (x ∷ xs) (y ∷ ys) nx ny px py h = meant_from (x ∷ xs) (y ∷ ys) (names_from x y xs ys px py h)

-- the leaf of a number is found by the text of its path
pub printed_found : (leaves : List Leaf) → IsTold leaves → (i : ℕ) (leaf : Leaf) → slice_get leaves i ≡ Some leaf → printed_at (path_text leaf) leaves ≡ Some i
unfolding printed_at
printed_found leaves told i leaf at =
    first_found (is_printed (path_text leaf)) leaves 0 i leaf at ((bytes_eq-Decides (path_text leaf) (path_text leaf)).1 refl) others ∙ ap Some (zero-add i)
  where
    others : (j : ℕ) (y : Leaf) → j < i → slice_get leaves j ≡ Some y → is_printed (path_text leaf) y ≡ false
    others j y lt there = false_from_ne_true (is_printed (path_text leaf) y) (λ e.
        let same = by_text leaf y (each_get HasName leaves i leaf at told.named) (each_get HasName leaves j y there told.named) (each_get HasPlainNames leaves i leaf at told.plain) (each_get HasPlainNames leaves j y there told.plain) ((bytes_eq-Decides (path_text leaf) (path_text y)).0 e) in
        let number = one_place leaves told.apart i j leaf y at there same in
        omega arith)

-- and what is found has a path with this text
pub printed_is : (leaves : List Leaf) (text : List ℕ) (n : ℕ) → printed_at text leaves ≡ Some n → (leaf : Leaf) × (slice_get leaves n ≡ Some leaf) × (text ≡ path_text leaf)
unfolding printed_at
printed_is leaves text n e =
    let r = found_passes (is_printed text) leaves 0 n e in
    let number : n ≡ r.0 = r.2 ∙ zero-add r.0 in
    (r.1, ap (slice_get leaves) number ∙ r.3, (bytes_eq-Decides text (path_text r.1)).0 r.4)
