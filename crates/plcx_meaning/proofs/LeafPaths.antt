-- Leaves stand at paths of their own, each at the one that leads to its variable, and begin with numbers of their types.
use Rattle.std.proofs.Common.{◌≡◌, inl, inr, ℕ, zero, suc, pos, Bool, true, false, true≢false, List, [], ◌∷◌, ◌++◌, Option, Some, None, map, length, refl, sym, ap, ◌∙◌, subst, append_assoc, arith, if◌then◌else◌}
use Rattle.std.specs.Prelude.{not}
use Rattle.std.specs.List.{list_any, flat_map, Contains}
use Rattle.std.specs.Str.{bytes_eq}
use Rattle.std.proofs.lemmas.Bool.{and_parts, and_from, or_parts, or_from, not-true, not_from_false}
use Rattle.std.proofs.lemmas.List.{length-append}
use Rattle.plcx_types.specs.declared.ty.Ty.{Ty}
use Rattle.plcx_types.specs.declared.ty.Ty.TheVariants as ty
use Rattle.plcx_types.specs.Name.{in_lower_case}
use Rattle.plcx_types.specs.Range.{InRange}
use Rattle.plcx_types.specs.TypeName.{type_named}
use Rattle.plcx_types.specs.Value.{Value}
use Rattle.plcx_types.specs.Lists.{Each}
use Rattle.plcx_meaning.specs.Base.{Path, same_path, is_declared, are_distinct}
use Rattle.plcx_meaning.specs.Layout.{Variable, InitialIsTyped, variable_named, Meaning, Elementary, Composed, composed, meaning, parts, parts_of, Scope, variables_at, variable_at, initial_value, initial_of, initial_at, Spelling, path_of, Leaf, leaf_of, is_kept, variable_leaves, leaves, layout, declared_leaves, initial_in, all_apart, IsLayout, IsRetainedState}
use Rattle.plcx_meaning.proofs.Lists.{contains_cases, each_at, each_from, each_weaker, each_flat_map, contains_map, none_passes, IsNew, distinct_parts}
use Rattle.plcx_meaning.proofs.Fed.{passing_among}
use Rattle.plcx_meaning.proofs.Names.{bytes_self}
use Rattle.plcx_meaning.proofs.Starts.{path_same}
use Rattle.plcx_meaning.proofs.ReadyUnits.{each_both, named_each}

-- the variables of one instance have names of their own and initial values of their types
abbrev pub AreNamed : List Variable → Type 0
AreNamed vs = (are_distinct (map (λ (v : Variable). in_lower_case v.name) vs) ≡ true) × Each InitialIsTyped vs

pub record IsProper (c : Scope) : Type 0 where
  pub own : AreNamed c.own
  pub inner : (name : List ℕ) → AreNamed (composed c.world name)

-- a leaf is what its path leads to
record Sits (c : Scope) (leaf : Leaf) : Type 0 where
  variable : Variable
  found : variable_at c leaf.path ≡ Some variable
  typed : type_named variable.ty ≡ Some leaf.ty
  initial : InitialIsTyped variable
  begins : leaf.initial ≡ initial_at c leaf.path

zero_in_range : (t : Ty) → InRange t (pos 0)
zero_in_range ty.Bool = (omega arith, omega arith)
zero_in_range ty.Byte = (omega arith, omega arith)
zero_in_range ty.Word = (omega arith, omega arith)
zero_in_range ty.Dword = (omega arith, omega arith)
zero_in_range ty.Lword = (omega arith, omega arith)
zero_in_range ty.Sint = (omega arith, omega arith)
zero_in_range ty.Int = (omega arith, omega arith)
zero_in_range ty.Dint = (omega arith, omega arith)
zero_in_range ty.Lint = (omega arith, omega arith)
zero_in_range ty.Usint = (omega arith, omega arith)
zero_in_range ty.Uint = (omega arith, omega arith)
zero_in_range ty.Udint = (omega arith, omega arith)
zero_in_range ty.Ulint = (omega arith, omega arith)
zero_in_range ty.Time = (omega arith, omega arith)

begins_in_range : (c : Scope) (leaf : Leaf) → Sits c leaf → InRange leaf.ty leaf.initial
begins_in_range c leaf s = subst (InRange leaf.ty) (sym (s.begins ∙ ap initial_of s.found)) (by s.variable.initial refl)
  where
    by : (o : Option Value) → s.variable.initial ≡ o → InRange leaf.ty (initial_value o)
    by None e = zero_in_range leaf.ty
    by (Some value) e =
        let own = s.initial value e in
        let same : Some value.ty ≡ Some leaf.ty = sym own.0 ∙ s.typed in
        let is : value.ty ≡ leaf.ty = cc in
        subst (λ t. InRange t value.n) is own.1

-- a path lies below another
abbrev Below : Path → Path → Type 0
Below p q = (front : Path) × (q ≡ front ++ p)

shorter : (x : List ℕ) (p q : Path) → Below (x ∷ p) q → Below p q
shorter x p q b = (b.0 ++ (x ∷ []), b.1 ∙ sym (append_assoc b.0 (x ∷ []) p))

-- and so below one name alone
too_long : (p r : Path) (y : List ℕ) → p ≡ r ++ (y ∷ p) → ⊥
too_long p r y e = let n = ap length e ∙ length-append r (y ∷ p) in omega arith

same_name : (x y : List ℕ) (p r s : Path) → r ++ (x ∷ p) ≡ s ++ (y ∷ p) → x ≡ y
same_name x y p [] [] e = cc
same_name x y p [] (z ∷ s) e = absurd (too_long p s y (cc))
same_name x y p (z ∷ r) [] e = absurd (too_long p r x (cc))
same_name x y p (z ∷ r) (w ∷ s) e = same_name x y p r s (cc)

apart_below : (x y : List ℕ) (p a b : Path) → Below (x ∷ p) a → Below (y ∷ p) b → bytes_eq x y ≡ false → same_path a b ≡ false
apart_below x y p a b below other h = by (same_path a b) refl
  where
    by : (same : Bool) → same_path a b ≡ same → same ≡ false
    by true e =
        let is : x ≡ y = same_name x y p below.0 other.0 (sym below.1 ∙ path_same a b e ∙ other.1) in
        absurd (true≢false (sym (bytes_self x) ∙ ap (bytes_eq x) is ∙ h))
    by false e = refl

-- lists of leaves whose paths differ
abbrev paths : List Leaf → List Path
paths ls = map (λ (leaf : Leaf). leaf.path) ls

abbrev Differs : Leaf → Leaf → Type 0
Differs leaf other = same_path leaf.path other.path ≡ false

none_joined : (p : Path) (ls ms : List Leaf) → list_any (same_path p) (paths ls) ≡ false → Each (λ (other : Leaf). same_path p other.path ≡ false) ms → list_any (same_path p) (paths (ls ++ ms)) ≡ false
none_joined p [] [] h each = refl
none_joined p [] (m ∷ ms) h each = or_from (same_path p m.path) (list_any (same_path p) (paths ms)) each.0 (none_joined p [] ms h each.1)
none_joined p (leaf ∷ ls) ms h each =
    let parts = or_parts (same_path p leaf.path) (list_any (same_path p) (paths ls)) h in
    or_from (same_path p leaf.path) (list_any (same_path p) (paths (ls ++ ms))) parts.0 (none_joined p ls ms parts.1 each)

apart_joined : (ls ms : List Leaf) → all_apart (paths ls) ≡ true → all_apart (paths ms) ≡ true → Each (λ leaf. Each (Differs leaf) ms) ls → all_apart (paths (ls ++ ms)) ≡ true
apart_joined [] ms h k across = k
apart_joined (leaf ∷ ls) ms h k across =
    let parts = and_parts (not (list_any (same_path leaf.path) (paths ls))) (all_apart (paths ls)) h in
    and_from (not (list_any (same_path leaf.path) (paths (ls ++ ms)))) (all_apart (paths (ls ++ ms)))
    (not_from_false _ (none_joined leaf.path ls ms (not-true (list_any (same_path leaf.path) (paths ls)) parts.0) across.0))
    (apart_joined ls ms parts.1 k across.1)

module _ (f : Variable → List Leaf) (p : Path) where
  abbrev StandsBelow : Variable → Type 0
  StandsBelow v = Each (λ (leaf : Leaf). Below (in_lower_case v.name ∷ p) leaf.path) (f v)

  across : (v : Variable) → StandsBelow v → (vs : List Variable) → IsNew (in_lower_case v.name) (map (λ (w : Variable). in_lower_case w.name) vs) → Each StandsBelow vs → Each (λ leaf. Each (Differs leaf) (flat_map f vs)) (f v)
  across v here vs new below =
      each_weaker (λ (leaf : Leaf). Below (in_lower_case v.name ∷ p) leaf.path) _ (f v) (λ leaf stands.
      each_flat_map (Differs leaf) f vs (each_both (λ (w : Variable). bytes_eq (in_lower_case v.name) (in_lower_case w.name) ≡ false) StandsBelow _ vs
      (each_from _ vs (λ w there. none_passes (bytes_eq (in_lower_case v.name)) (map (λ (u : Variable). in_lower_case u.name) vs) (in_lower_case w.name) new (contains_map (λ (u : Variable). in_lower_case u.name) vs w there)))
      below (λ w other stand. each_weaker (λ (l : Leaf). Below (in_lower_case w.name ∷ p) l.path) _ (f w) (λ l lies. apart_below (in_lower_case v.name) (in_lower_case w.name) p leaf.path l.path stands lies other) stand))) here

  all_differ_of : (vs : List Variable) → are_distinct (map (λ (v : Variable). in_lower_case v.name) vs) ≡ true → Each (λ v. all_apart (paths (f v)) ≡ true) vs → Each StandsBelow vs → all_apart (paths (flat_map f vs)) ≡ true
  all_differ_of [] h each below = refl
  all_differ_of (v ∷ vs) h each below =
      let parts = distinct_parts (in_lower_case v.name) (map (λ (w : Variable). in_lower_case w.name) vs) h in
      apart_joined (f v) (flat_map f vs) each.0 (all_differ_of vs parts.1 each.1 below.1) (across v below.0 vs parts.0 below.1)

module _ (c : Scope) where
  below_variable : (n : ℕ) → ((names : Spelling) (vs : List Variable) → Each (λ (leaf : Leaf). Below (path_of names) leaf.path) (leaves n c names vs))
      → (names : Spelling) (v : Variable) → Each (λ (leaf : Leaf). Below (in_lower_case v.name ∷ path_of names) leaf.path) (variable_leaves (leaves n c) c names v)
  below_variable n inner names v = by_class (is_kept v.class)
    where
      by_meaning : (m : Meaning) → Each (λ (leaf : Leaf). Below (in_lower_case v.name ∷ path_of names) leaf.path) (elim m [ Elementary t ↦ leaf_of c (v.name ∷ names) t v.mark ∷ [] | Composed vs ↦ leaves n c (v.name ∷ names) vs ])
      by_meaning (Elementary t) = (([], refl), tt)
      by_meaning (Composed vs) = inner (v.name ∷ names) vs

      by_class : (b : Bool) → Each (λ (leaf : Leaf). Below (in_lower_case v.name ∷ path_of names) leaf.path) (if b then (elim (meaning c.world v.ty) [ Elementary t ↦ leaf_of c (v.name ∷ names) t v.mark ∷ [] | Composed vs ↦ leaves n c (v.name ∷ names) vs ]) else [])
      by_class true = by_meaning (meaning c.world v.ty)
      by_class false = tt

  below_leaves : (n : ℕ) (names : Spelling) (vs : List Variable) → Each (λ (leaf : Leaf). Below (path_of names) leaf.path) (leaves n c names vs)
  below_leaves zero names vs = tt
  below_leaves (suc n) names vs = each_flat_map _ (variable_leaves (leaves n c) c names) vs (each_from _ vs (λ v there.
      each_weaker (λ (leaf : Leaf). Below (in_lower_case v.name ∷ path_of names) leaf.path) _ (variable_leaves (leaves n c) c names v) (λ leaf below. shorter (in_lower_case v.name) (path_of names) leaf.path below) (below_variable n (below_leaves n) names v)))

module _ (c : Scope) (proper : IsProper c) where
  variable_sits : (n : ℕ) → ((names : Spelling) (vs : List Variable) → variables_at c (path_of names) ≡ vs → AreNamed vs → Each (Sits c) (leaves n c names vs))
      → (names : Spelling) (v : Variable) → variable_at c (in_lower_case v.name ∷ path_of names) ≡ Some v → InitialIsTyped v → Each (Sits c) (variable_leaves (leaves n c) c names v)
  variable_sits n inner names v found typed = by_class (is_kept v.class)
    where
      by_type : (o : Option Ty) → type_named v.ty ≡ o
          → Each (Sits c) (elim (elim o as (λ x. Meaning) [ Some t ↦ Elementary t | None ↦ Composed (composed c.world v.ty) ]) [ Elementary t ↦ leaf_of c (v.name ∷ names) t v.mark ∷ [] | Composed vs ↦ leaves n c (v.name ∷ names) vs ])
      by_type (Some t) e = (record { variable = v; found = found; typed = e; initial = typed; begins = refl }, tt)
      by_type None e = inner (v.name ∷ names) (composed c.world v.ty)
          (ap (parts_of c.world) found ∙ ap (λ (o : Option Ty). parts (elim o as (λ x. Meaning) [ Some t ↦ Elementary t | None ↦ Composed (composed c.world v.ty) ])) e) (proper.inner v.ty)

      by_class : (b : Bool) → Each (Sits c) (if b then (elim (meaning c.world v.ty) [ Elementary t ↦ leaf_of c (v.name ∷ names) t v.mark ∷ [] | Composed vs ↦ leaves n c (v.name ∷ names) vs ]) else [])
      by_class true = by_type (type_named v.ty) refl
      by_class false = tt

  sits : (n : ℕ) (names : Spelling) (vs : List Variable) → variables_at c (path_of names) ≡ vs → AreNamed vs → Each (Sits c) (leaves n c names vs)
  sits zero names vs at named = tt
  sits (suc n) names vs at named = each_flat_map (Sits c) (variable_leaves (leaves n c) c names) vs
      (each_both (λ (v : Variable). variable_named (in_lower_case v.name) vs ≡ Some v) InitialIsTyped _ vs (named_each vs named.0) named.1 (λ v found typed.
      variable_sits n (sits n) names v (ap (variable_named (in_lower_case v.name)) at ∙ found) typed))

  variable_apart : (n : ℕ) → ((names : Spelling) (vs : List Variable) → AreNamed vs → all_apart (paths (leaves n c names vs)) ≡ true) → (names : Spelling) (v : Variable) → all_apart (paths (variable_leaves (leaves n c) c names v)) ≡ true
  variable_apart n inner names v = by_class (is_kept v.class)
    where
      by_type : (o : Option Ty)
          → all_apart (paths (elim (elim o as (λ x. Meaning) [ Some t ↦ Elementary t | None ↦ Composed (composed c.world v.ty) ]) [ Elementary t ↦ leaf_of c (v.name ∷ names) t v.mark ∷ [] | Composed vs ↦ leaves n c (v.name ∷ names) vs ])) ≡ true
      by_type (Some t) = refl
      by_type None = inner (v.name ∷ names) (composed c.world v.ty) (proper.inner v.ty)

      by_class : (b : Bool) → all_apart (paths (if b then (elim (meaning c.world v.ty) [ Elementary t ↦ leaf_of c (v.name ∷ names) t v.mark ∷ [] | Composed vs ↦ leaves n c (v.name ∷ names) vs ]) else [])) ≡ true
      by_class true = by_type (type_named v.ty)
      by_class false = refl

  leaves_apart : (n : ℕ) (names : Spelling) (vs : List Variable) → AreNamed vs → all_apart (paths (leaves n c names vs)) ≡ true
  leaves_apart zero names vs named = refl
  leaves_apart (suc n) names vs named = all_differ_of (variable_leaves (leaves n c) c names) (path_of names) vs named.0
      (each_from _ vs (λ v there. variable_apart n (leaves_apart n) names v)) (each_from _ vs (λ v there. below_variable c n (below_leaves c n) names v))

  pub proper_layout : IsLayout (layout c)
  proper_layout = record {
    apart = leaves_apart 18 [] c.own proper.own;
    initial = each_weaker (Sits c) _ (layout c) (begins_in_range c) (sits 18 [] c.own refl proper.own);
  }

-- the initial values are a retained state
path_self : (p : Path) → same_path p p ≡ true
path_self [] = refl
path_self (x ∷ p) = and_from (bytes_eq x x) (same_path p p) (bytes_self x) (path_self p)

found_initial : (ls : List Leaf) → all_apart (paths ls) ≡ true → (leaf : Leaf) → Contains ls leaf → initial_in ls leaf.path ≡ leaf.initial
found_initial [] h leaf there = absurd (let none = there.1 in omega arith)
found_initial (l ∷ ls) h leaf there =
    let parts = and_parts (not (list_any (same_path l.path) (paths ls))) (all_apart (paths ls)) h in
    elim (contains_cases l ls leaf there) [
      | inl same ↦ subst (λ (other : Leaf). initial_in (l ∷ ls) other.path ≡ other.initial) same (ap (λ b. if b then l.initial else initial_in ls l.path) (path_self l.path))
      | inr later ↦
          let other = none_passes (same_path l.path) (paths ls) leaf.path (not-true (list_any (same_path l.path) (paths ls)) parts.0) (contains_map (λ (m : Leaf). m.path) ls leaf later) in
          ap (λ b. if b then l.initial else initial_in ls leaf.path) (swapped l.path leaf.path other) ∙ found_initial ls parts.1 leaf later
    ]
  where
    swapped : (p q : Path) → same_path p q ≡ false → same_path q p ≡ false
    swapped p q e = by (same_path q p) refl
      where
        by : (b : Bool) → same_path q p ≡ b → b ≡ false
        by true is = absurd (true≢false (sym (ap (λ r. same_path r q) (sym (path_same q p is)) ∙ path_self q) ∙ e))
        by false is = refl

pub layout_begins : (ls : List Leaf) → IsLayout ls → IsRetainedState ls (initial_in ls)
layout_begins ls is = each_weaker (Contains ls) _ (declared_leaves ls)
    (λ leaf there retained. subst (InRange leaf.ty) (sym (found_initial ls is.apart leaf there)) (each_at (λ (l : Leaf). InRange l.ty l.initial) ls leaf is.initial there))
    (passing_among (λ (leaf : Leaf). is_declared leaf.path) ls)
