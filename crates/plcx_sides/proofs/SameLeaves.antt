-- Leaves of two programs that declare the same.
use Rattle.std.proofs.Common.{◌≡◌, ◌∷◌, ◌∙◌, ◌⊎◌, ℕ, zero, suc, Bool, true, false, List, [], inl, inr, refl, sym, ap, ap₂, subst}
use Rattle.std.specs.Prelude.{Some, slice_get, reverse, if◌then◌else◌}
use Rattle.std.specs.List.{Contains}
use Rattle.std.proofs.lemmas.List.{reverse-reverse}
use Rattle.std.proofs.lemmas.Option.{same_Some}
use Rattle.plcx_types.specs.Lists.{Each}
use Rattle.plcx_types.specs.declared.ty.Ty.{Ty}
use Rattle.plcx_types.specs.Value.{Value}
use Rattle.plcx_meaning.specs.Base.{is_declared}
use Rattle.plcx_meaning.specs.Layout.{declared_leaves}
use Rattle.plcx_meaning.specs.Layout.{Leaf as Meant}
use Rattle.plcx_meaning.proofs.Lists.{contains_cases, contains_first, contains_later, contains_none}
use Rattle.plcx_state.specs.declared.layout.Leaf.{Leaf}
use Rattle.plcx_state.specs.Layouts.{meant, all_meant, meant_path, BeginsTyped}

-- a leaf is known by what it means
pub leaf_same : (a b : Leaf) → BeginsTyped a → BeginsTyped b → meant a ≡ meant b → a ≡ b
leaf_same a b ha hb e =
    let path : a.path ≡ b.path = sym (reverse-reverse a.path) ∙ ap reverse (ap (λ (l : Meant). l.spelled) e) ∙ reverse-reverse b.path in
    let ty : a.ty ≡ b.ty = ap (λ (l : Meant). l.ty) e in
    let initial : a.initial ≡ b.initial = ap₂ (λ t n. record { ty = t; n = n }) (ha ∙ ty ∙ sym hb) (ap (λ (l : Meant). l.initial) e) in
    ap₂ (λ (p : List (List ℕ)) (t : Ty). record { path = p; ty = t; initial = a.initial; retained = a.retained; settable = a.settable; shown = a.shown }) path ty
    ∙ ap₂ (λ (v : Value) (r : Bool). record { path = b.path; ty = b.ty; initial = v; retained = r; settable = a.settable; shown = a.shown }) initial (ap (λ (l : Meant). l.retained) e)
    ∙ ap₂ (λ (s h : Bool). record { path = b.path; ty = b.ty; initial = b.initial; retained = b.retained; settable = s; shown = h }) (ap (λ (l : Meant). l.settable) e) (ap (λ (l : Meant). l.shown) e)

pub each_by_number : {A : Type 0} (P : A → Type 0) (xs : List A) (i : ℕ) (x : A) → Each P xs → slice_get xs i ≡ Some x → P x
each_by_number P [] i x h e = absurd (cc)
each_by_number P (y ∷ xs) zero x h e = subst P (same_Some y x e) h.0
each_by_number P (y ∷ xs) (suc i) x h e = each_by_number P xs i x h.1 e

-- a leaf that is declared is among those
has_declared : (ls : List Leaf) (i : ℕ) (leaf : Leaf) → slice_get ls i ≡ Some leaf → is_declared (meant_path leaf.path) ≡ true → Contains (declared_leaves (all_meant ls)) (meant leaf)
has_declared [] i leaf e d = absurd (cc)
has_declared (l ∷ ls) zero leaf e d =
    let same : l ≡ leaf = same_Some l leaf e in
    subst (λ (x : Leaf). Contains (if is_declared (meant_path l.path) then meant l ∷ declared_leaves (all_meant ls) else declared_leaves (all_meant ls)) (meant x)) same
    (subst (λ b. Contains (if b then meant l ∷ declared_leaves (all_meant ls) else declared_leaves (all_meant ls)) (meant l))
    (sym (ap (λ (x : Leaf). is_declared (meant_path x.path)) same ∙ d)) (contains_first (meant l) (declared_leaves (all_meant ls))))
has_declared (l ∷ ls) (suc i) leaf e d = by (is_declared (meant_path l.path)) (has_declared ls i leaf e d)
  where
    by : (b : Bool) → Contains (declared_leaves (all_meant ls)) (meant leaf) → Contains (if b then meant l ∷ declared_leaves (all_meant ls) else declared_leaves (all_meant ls)) (meant leaf)
    by true rest = contains_later (meant l) (declared_leaves (all_meant ls)) (meant leaf) rest
    by false rest = rest

-- a leaf of this meaning, with its number
pub record Found (ls : List Leaf) (m : Meant) : Type 0 where
  pub leaf : Leaf
  pub number : ℕ
  pub there : slice_get ls number ≡ Some leaf
  pub same : meant leaf ≡ m

found_later : (l : Leaf) (ls : List Leaf) (m : Meant) → Found ls m → Found (l ∷ ls) m
found_later l ls m f = record { leaf = f.leaf; number = suc f.number; there = f.there; same = f.same }

-- what is among the declared ones is a leaf
find_declared : (ls : List Leaf) (m : Meant) → Contains (declared_leaves (all_meant ls)) m → Found ls m
find_declared [] m h = absurd (contains_none m h)
find_declared (l ∷ ls) m h = by (is_declared (meant_path l.path)) h (λ k. found_later l ls m (find_declared ls m k))
  where
    of : (meant l ≡ m) ⊎ Contains (declared_leaves (all_meant ls)) m → (Contains (declared_leaves (all_meant ls)) m → Found (l ∷ ls) m) → Found (l ∷ ls) m
    of (inl e) later = record { leaf = l; number = zero; there = refl; same = e }
    of (inr r) later = later r

    by : (b : Bool) → Contains (if b then meant l ∷ declared_leaves (all_meant ls) else declared_leaves (all_meant ls)) m → (Contains (declared_leaves (all_meant ls)) m → Found (l ∷ ls) m) → Found (l ∷ ls) m
    by true k later = of (contains_cases (meant l) (declared_leaves (all_meant ls)) m k) later
    by false k later = later k

-- a leaf with this number
pub record IsThere (ls : List Leaf) (leaf : Leaf) : Type 0 where
  pub number : ℕ
  pub there : slice_get ls number ≡ Some leaf

-- a declared leaf of the one program is one of the other
pub there_too : (xs ys : List Leaf) → Each BeginsTyped xs → Each BeginsTyped ys → declared_leaves (all_meant xs) ≡ declared_leaves (all_meant ys)
    → (leaf : Leaf) (i : ℕ) → slice_get xs i ≡ Some leaf → is_declared (meant_path leaf.path) ≡ true → IsThere ys leaf
there_too xs ys hx hy same leaf i e d =
    let f = find_declared ys (meant leaf) (subst (λ (ms : List Meant). Contains ms (meant leaf)) same (has_declared xs i leaf e d)) in
    record {
      number = f.number;
      there = f.there ∙ ap Some (leaf_same f.leaf leaf (each_by_number BeginsTyped ys f.number f.leaf hy f.there) (each_by_number BeginsTyped xs i leaf hx e) f.same);
    }
