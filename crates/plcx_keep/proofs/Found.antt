-- Leaves by their paths: the number that is found, and the text by which it is looked up.
use Rattle.std.proofs.Common.{◌≡◌, ◌<◌, ◌+◌, ◌∷◌, ◌∙◌, ℕ, zero, suc, arith, Bool, true, false, true≢false, List, [], Option, Some, None, cond, length, refl, sym, ap, ap₂, zero-add}
use Rattle.std.specs.Prelude.{slice_get, IfSome, ◌&&◌, ◌||◌}
use Rattle.std.specs.Bool.{one_answer}
use Rattle.std.specs.List.{position_from, list_any}
use Rattle.std.proofs.Math.Bool.{or-true}
use Rattle.std.proofs.lemmas.Bool.{and_parts, false_from_ne_true}
use Rattle.std.proofs.lemmas.Option.{same_Some}
use Rattle.std.proofs.lemmas.Iterator.Adapters.{position_from-zero}
use Rattle.std.proofs.lemmas.Slice.Eq.{bytes_eq-Decides}
use Rattle.plcx_types.specs.Lists.{Each}
use Rattle.plcx_types.specs.Name.{in_lower_case}
use Rattle.plcx_meaning.specs.Base.{Path, same_path}
use Rattle.plcx_meaning.specs.Layout.{all_apart}
use Rattle.plcx_meaning.proofs.Starts.{path_same}
use Rattle.plcx_state.specs.declared.layout.Leaf.{Leaf}
use Rattle.plcx_state.specs.Layouts.{meant_path, leaf_at, is_at, dotted, is_nameless, HasName}
use Rattle.plcx_state.specs.Tables.{path_text, is_printed, printed_at, IsPlain, HasPlainNames, IsTold}
use Rattle.plcx_state.proofs.Dots.{names_from, lowered_same}
use Rattle.plcx_state.proofs.Paths.{same_if, lowered_from, meant_from}
use Rattle.plcx_keep.proofs.Lists.{get_lt}
use Rattle.plcx_state.proofs.Places.{paths, found_passes, first_found, one_leaf, one_place}

from_zero : (p : Path) (leaves : List Leaf) → leaf_at p leaves ≡ position_from (is_at p) 0 leaves
unfolding leaf_at
from_zero p leaves = position_from-zero (is_at p) leaves

-- the leaf that is found has the path
pub found_is : (p : Path) (leaves : List Leaf) (n : ℕ) → leaf_at p leaves ≡ Some n → (leaf : Leaf) × (slice_get leaves n ≡ Some leaf) × (p ≡ meant_path leaf.path)
found_is p leaves n e =
    let r = found_passes (is_at p) leaves 0 n (sym (from_zero p leaves) ∙ e) in
    let number : n ≡ r.0 = r.2 ∙ zero-add r.0 in
    (r.1, ap (slice_get leaves) number ∙ r.3, path_same p (meant_path r.1.path) r.4)

-- it is one of the leaves
pub found_below : (p : Path) (leaves : List Leaf) (o : Option ℕ) → o ≡ leaf_at p leaves → IfSome o (λ n. n < length leaves)
found_below p leaves None e = tt
found_below p leaves (Some n) e = let r = found_is p leaves n (sym e) in get_lt leaves n r.0 r.1

-- and a leaf that has the path is found
pub found_one : (leaves : List Leaf) → all_apart (paths leaves) ≡ true → (i : ℕ) (leaf : Leaf) → slice_get leaves i ≡ Some leaf → leaf_at (meant_path leaf.path) leaves ≡ Some i
found_one leaves apart i leaf at =
    from_zero (meant_path leaf.path) leaves
    ∙ first_found (is_at (meant_path leaf.path)) leaves 0 i leaf at (same_if (meant_path leaf.path) (meant_path leaf.path) refl) others
    ∙ ap Some (zero-add i)
  where
    others : (j : ℕ) (y : Leaf) → j < i → slice_get leaves j ≡ Some y → same_path (meant_path leaf.path) (meant_path y.path) ≡ false
    others j y lt there = false_from_ne_true _ (λ e.
        let number = one_place leaves apart i j leaf y at there (path_same (meant_path leaf.path) (meant_path y.path) e) in
        omega arith)

-- names are known by how they are printed in lower case
one_path : (xs ys : List (List ℕ)) → is_nameless xs ≡ false → is_nameless ys ≡ false → Each IsPlain xs → Each IsPlain ys → in_lower_case (dotted xs) ≡ in_lower_case (dotted ys) → meant_path xs ≡ meant_path ys
one_path [] ys nx ny px py h = absurd (true≢false nx)
one_path (x ∷ xs) [] nx ny px py h = absurd (true≢false ny)
one_path (x ∷ xs) (y ∷ ys) nx ny px py h = meant_from (x ∷ xs) (y ∷ ys) (names_from x y xs ys px py h)

-- so to look for the text is to look for the path
same_test : (a b : Leaf) → HasName a → HasName b → HasPlainNames a → HasPlainNames b → is_printed (path_text a) b ≡ is_at (meant_path a.path) b
same_test a b na nb pa pb = one_answer (is_printed (path_text a) b) (is_at (meant_path a.path) b)
    ((λ e. (bytes_eq-Decides (path_text a) (path_text b)).0 e), (λ e. (bytes_eq-Decides (path_text a) (path_text b)).1 e)) (
      (λ e. lowered_same a.path b.path (lowered_from a.path b.path (path_same (meant_path a.path) (meant_path b.path) e))),
      (λ e. same_if (meant_path a.path) (meant_path b.path) (one_path a.path b.path na nb pa pb e)),
    )

same_search : (a : Leaf) (k : ℕ) (leaves : List Leaf) → HasName a → HasPlainNames a → Each HasName leaves → Each HasPlainNames leaves → position_from (is_printed (path_text a)) k leaves ≡ position_from (is_at (meant_path a.path)) k leaves
same_search a k [] na pa named plain = refl
same_search a k (leaf ∷ leaves) na pa named plain =
    ap₂ (λ b (o : Option ℕ). cond b (Some k) o) (same_test a leaf na named.0 pa plain.0) (same_search a (k + 1) leaves na pa named.1 plain.1)

pub found_by_text : (a : Leaf) (leaves : List Leaf) → HasName a → HasPlainNames a → IsTold leaves → printed_at (path_text a) leaves ≡ leaf_at (meant_path a.path) leaves
unfolding printed_at
found_by_text a leaves na pa told = same_search a 0 leaves na pa told.named told.plain ∙ sym (from_zero (meant_path a.path) leaves)

module _ {X : Type 0} (t : X → Bool) where
  -- an item that passes
  pub any_passes : (xs : List X) (i : ℕ) (x : X) → slice_get xs i ≡ Some x → t x ≡ true → list_any t xs ≡ true
  any_passes [] i x at e = absurd (cc)
  any_passes (y ∷ xs) zero x at e = let is : y ≡ x = cc in ap (λ z. t z || list_any t xs) is ∙ ap (λ b. b || list_any t xs) e
  any_passes (y ∷ xs) (suc i) x at e = ap (λ b. t y || b) (any_passes xs i x at e) ∙ or-true (t y)

  -- what passes where some item does
  pub passes_any : (xs : List X) → list_any t xs ≡ true → (i : ℕ) × (x : X) × (slice_get xs i ≡ Some x) × (t x ≡ true)
  passes_any [] e = absurd (cc)
  passes_any (y ∷ xs) e = by (t y) refl e (λ h. passes_any xs h)
    where
      by : (b : Bool) → t y ≡ b → (b || list_any t xs) ≡ true → (list_any t xs ≡ true → (i : ℕ) × (x : X) × (slice_get xs i ≡ Some x) × (t x ≡ true))
          → (i : ℕ) × (x : X) × (slice_get (y ∷ xs) i ≡ Some x) × (t x ≡ true)
      by true is h rest = (0, y, refl, is)
      by false is h rest = let r = rest h in (suc r.0, r.1, r.2, r.3)

module _ (p : Path) (u : Leaf → Bool) (leaves : List Leaf) (apart : all_apart (paths leaves) ≡ true) where
  abbrev has : Leaf → Bool
  has leaf = same_path p (meant_path leaf.path) && u leaf

  -- no leaf has the path
  pub none_has : leaf_at p leaves ≡ None → list_any has leaves ≡ false
  none_has e = false_from_ne_true _ (λ any.
      let r = passes_any has leaves any in
      let both = and_parts (same_path p (meant_path r.1.path)) (u r.1) r.3 in
      let found : leaf_at p leaves ≡ Some r.0 = ap (λ q. leaf_at q leaves) (path_same p (meant_path r.1.path) both.0) ∙ found_one leaves apart r.0 r.1 r.2 in
      cc)

  -- one leaf alone has it
  pub one_has : (n : ℕ) (leaf : Leaf) → leaf_at p leaves ≡ Some n → slice_get leaves n ≡ Some leaf → list_any has leaves ≡ u leaf
  one_has n leaf e at = by (u leaf) refl
    where
      path_is : p ≡ meant_path leaf.path
      path_is = let r = found_is p leaves n e in r.2 ∙ ap (λ (x : Leaf). meant_path x.path) (same_Some r.0 leaf (sym r.1 ∙ at))

      by : (b : Bool) → u leaf ≡ b → list_any has leaves ≡ b
      by true is = any_passes has leaves n leaf at (ap₂ (λ a b. a && b) (same_if p (meant_path leaf.path) path_is) is)
      by false is = false_from_ne_true _ (λ any.
          let r = passes_any has leaves any in
          let both = and_parts (same_path p (meant_path r.1.path)) (u r.1) r.3 in
          let same : r.1 ≡ leaf = one_leaf leaves apart r.0 n r.1 leaf r.2 at (sym (path_same p (meant_path r.1.path) both.0) ∙ path_is) in
          true≢false (sym both.1 ∙ ap u same ∙ is))
