-- Two scopes, of which the second declares what the first does, and the compiler's own variables behind it.
use Rattle.std.proofs.Common.{◌≡◌, ℕ, zero, suc, ℤ, pos, Bool, true, false, ◌&&◌, ◌||◌, List, [], ◌∷◌, ◌++◌, Option, Some, None, refl, sym, ap, ap₂, ◌∙◌, subst, append-nil, if◌then◌else◌}
use Rattle.std.specs.Prelude.{not}
use Rattle.std.specs.List.{flat_map}
use Rattle.std.specs.Str.{bytes_eq}
use Rattle.std.proofs.lemmas.Grind.{flat_map-append}
use Rattle.std.proofs.lemmas.List.Elements.{filter-append}
use Rattle.plcx_types.specs.declared.ty.Ty.{Ty}
use Rattle.plcx_types.specs.Name.{in_lower_case}
use Rattle.plcx_types.specs.Reserved.{is_own}
use Rattle.plcx_types.specs.TypeName.{type_named}
use Rattle.plcx_types.specs.Lists.{Each}
use Rattle.plcx_meaning.specs.Base.{Path, is_declared}
use Rattle.plcx_meaning.specs.Tree.{Mark, Plain}
use Rattle.plcx_meaning.specs.Layout.{Variable, variable_named, Meaning, Elementary, Composed, composed, meaning, parts, parts_of, Scope, variables_at, variable_at, initial_of, initial_at, is_marked, is_retained, Spelling, path_of, Leaf, is_outside, is_constant, leaf_of, is_kept, variable_leaves, leaves, layout, declared_leaves, Restart, Warm, Cold, begun, restarted}
use Rattle.plcx_meaning.proofs.Lists.{each_weaker, each_from}
use Rattle.plcx_meaning.proofs.Lookups.{named_second, named_alone, IsOwnVariable, IsDeclaredVariable, own_not_named, declared_not_named}
use Rattle.plcx_meaning.proofs.Blocks.{declared_leaf, declared_parts}

-- a variable of the compiler's own, which begins at 0 and is retained only where its instance is
pub record IsHidden (v : Variable) : Type 0 where
  pub own : is_own (in_lower_case v.name) ≡ true
  pub mark : v.mark ≡ Plain
  pub initial : v.initial ≡ None

pub record Extends (vs ws : List Variable) : Type 0 where
  pub own : List Variable
  pub is : ws ≡ vs ++ own
  pub declared : Each IsDeclaredVariable vs
  pub owned : Each IsHidden own

pub extends_alone : (vs : List Variable) → Each IsDeclaredVariable vs → Extends vs vs
extends_alone vs declared = record { own = []; is = sym (append-nil vs); declared = declared; owned = tt }

own_begins : (x : List ℕ) (os : List Variable) → Each IsHidden os → (initial_of (variable_named x os) ≡ pos 0) × (is_marked (variable_named x os) ≡ false)
own_begins x [] owned = (refl, refl)
own_begins x (o ∷ os) owned = by_test (bytes_eq (in_lower_case o.name) x) (own_begins x os owned.1)
  where
    by_test : (b : Bool) → (initial_of (variable_named x os) ≡ pos 0) × (is_marked (variable_named x os) ≡ false)
        → (initial_of (if b then Some o else variable_named x os) ≡ pos 0) × (is_marked (if b then Some o else variable_named x os) ≡ false)
    by_test true rest = (rw (owned.0.initial) refl, rw (owned.0.mark) refl)
    by_test false rest = rest

pub extends_declared : (vs ws : List Variable) → Extends vs ws → (x : List ℕ) → is_own x ≡ false → variable_named x ws ≡ variable_named x vs
extends_declared vs ws e x h =
    ap (variable_named x) e.is ∙ named_alone x vs e.own (declared_not_named x e.own h (each_weaker IsHidden IsOwnVariable e.own (λ v hidden. hidden.own) e.owned))

pub extends_own : (vs ws : List Variable) → Extends vs ws → (x : List ℕ) → is_own x ≡ true → (initial_of (variable_named x ws) ≡ pos 0) × (is_marked (variable_named x ws) ≡ false)
extends_own vs ws e x h =
    let same : variable_named x ws ≡ variable_named x e.own = ap (variable_named x) e.is ∙ named_second x vs e.own (own_not_named x vs h e.declared) in
    let begins = own_begins x e.own e.owned in
    (ap initial_of same ∙ begins.0, ap is_marked same ∙ begins.1)

-- below an own name nothing is declared
below_own : (x : List ℕ) (p : Path) → is_declared p ≡ false → is_declared (x ∷ p) ≡ false
below_own x p h = by_test (is_own x)
  where
    by_test : (b : Bool) → (not b && is_declared p) ≡ false
    by_test true = refl
    by_test false = h

own_leaf : (x : List ℕ) (p : Path) → is_own x ≡ true → is_declared (x ∷ p) ≡ false
own_leaf x p h = rw (h) refl

no_leaf : (leaf : Leaf) → is_declared leaf.path ≡ false → declared_leaves (leaf ∷ []) ≡ []
no_leaf leaf h = rw (h) refl

-- where each variable of a list has no declared leaf, the list has none
none_each : (f : Variable → List Leaf) (vs : List Variable) → Each (λ v. declared_leaves (f v) ≡ []) vs → declared_leaves (flat_map f vs) ≡ []
none_each f [] h = refl
none_each f (v ∷ vs) h = filter-append (λ (leaf : Leaf). is_declared leaf.path) (f v) (flat_map f vs) ∙ ap₂ (λ xs ys. xs ++ ys) h.0 (none_each f vs h.1)

same_each : (f h : Variable → List Leaf) (vs : List Variable) → Each (λ v. declared_leaves (f v) ≡ declared_leaves (h v)) vs → declared_leaves (flat_map f vs) ≡ declared_leaves (flat_map h vs)
same_each f h [] same = refl
same_each f h (v ∷ vs) same =
    filter-append (λ (leaf : Leaf). is_declared leaf.path) (f v) (flat_map f vs)
    ∙ ap₂ (λ xs ys. xs ++ ys) same.0 (same_each f h vs same.1)
    ∙ sym (filter-append (λ (leaf : Leaf). is_declared leaf.path) (h v) (flat_map h vs))

variable_hides : (inner : Spelling → List Variable → List Leaf) → ((p : Spelling) → is_declared (path_of p) ≡ false → (vs : List Variable) → declared_leaves (inner p vs) ≡ [])
    → (c : Scope) (p : Spelling) (v : Variable) → is_declared (in_lower_case v.name ∷ path_of p) ≡ false → declared_leaves (variable_leaves inner c p v) ≡ []
variable_hides inner hides c p v h = by_class (is_kept v.class)
  where
    by_meaning : (m : Meaning) → declared_leaves (elim m [ Elementary t ↦ leaf_of c (v.name ∷ p) t v.mark ∷ [] | Composed vs ↦ inner (v.name ∷ p) vs ]) ≡ []
    by_meaning (Elementary t) = no_leaf (leaf_of c (v.name ∷ p) t v.mark) h
    by_meaning (Composed vs) = hides (v.name ∷ p) h vs

    by_class : (b : Bool) → declared_leaves (if b then (elim (meaning c.world v.ty) [ Elementary t ↦ leaf_of c (v.name ∷ p) t v.mark ∷ [] | Composed vs ↦ inner (v.name ∷ p) vs ]) else []) ≡ []
    by_class true = by_meaning (meaning c.world v.ty)
    by_class false = refl

leaves_hide : (n : ℕ) (c : Scope) (p : Spelling) → is_declared (path_of p) ≡ false → (vs : List Variable) → declared_leaves (leaves n c p vs) ≡ []
leaves_hide zero c p h vs = refl
leaves_hide (suc n) c p h vs =
    none_each (variable_leaves (leaves n c) c p) vs
    (each_from (λ v. declared_leaves (variable_leaves (leaves n c) c p v) ≡ []) vs (λ v there. variable_hides (leaves n c) (leaves_hide n c) c p v (below_own (in_lower_case v.name) (path_of p) h)))

abbrev the_leaf : Spelling → Ty → Mark → ℤ → Bool → Leaf
the_leaf p t mark initial retained =
    record { path = path_of p; spelled = p; ty = t; initial = initial; retained = retained; settable = is_outside (path_of p) && not (is_constant mark); shown = is_outside (path_of p) }

module _ (c e : Scope) (worlds : (name : List ℕ) → Extends (composed c.world name) (composed e.world name)) (owns : Extends c.own e.own) where
  parts_extend : (o : Option Variable) → Extends (parts_of c.world o) (parts_of e.world o)
  parts_extend None = extends_alone [] tt
  parts_extend (Some v) = by_type (type_named v.ty)
    where
      by_type : (o : Option Ty) → Extends (parts (elim o [ Some t ↦ Elementary t | None ↦ Composed (composed c.world v.ty) ])) (parts (elim o [ Some t ↦ Elementary t | None ↦ Composed (composed e.world v.ty) ]))
      by_type (Some t) = extends_alone [] tt
      by_type None = worlds v.ty

  at_path : (p : Path) → is_declared p ≡ true → Extends (variables_at c p) (variables_at e p)
  at_path [] h = owns
  at_path (x ∷ p) h =
      let d = declared_parts x p h in
      let same = extends_declared (variables_at c p) (variables_at e p) (at_path p d.1) x d.0 in
      subst (λ o. Extends (parts_of c.world (variable_named x (variables_at c p))) (parts_of e.world o)) (sym same) (parts_extend (variable_named x (variables_at c p)))

  variable_same : (p : Path) → is_declared p ≡ true → variable_at e p ≡ variable_at c p
  variable_same [] h = refl
  variable_same (x ∷ p) h = let d = declared_parts x p h in extends_declared (variables_at c p) (variables_at e p) (at_path p d.1) x d.0

  pub initial_same : (p : Path) → is_declared p ≡ true → initial_at e p ≡ initial_at c p
  initial_same p h = ap initial_of (variable_same p h)

  pub retained_same : (p : Path) → is_declared p ≡ true → is_retained e p ≡ is_retained c p
  retained_same [] h = refl
  retained_same (x ∷ p) h = ap₂ (λ a b. a || b) (retained_same p (declared_parts x p h).1) (ap is_marked (variable_same (x ∷ p) h))

  -- the compiler's own variables begin at 0, and are retained where their instance is
  pub own_initial : (x : List ℕ) (p : Path) → is_own x ≡ true → is_declared p ≡ true → initial_at e (x ∷ p) ≡ pos 0
  own_initial x p own h = (extends_own (variables_at c p) (variables_at e p) (at_path p h) x own).0

  pub own_retained : (x : List ℕ) (p : Path) → is_own x ≡ true → is_declared p ≡ true → is_retained e (x ∷ p) ≡ is_retained c p
  own_retained x p own h =
      ap (λ b. is_retained e p || b) (extends_own (variables_at c p) (variables_at e p) (at_path p h) x own).1 ∙ or_none (is_retained e p) ∙ retained_same p h
    where
      or_none : (b : Bool) → (b || false) ≡ b
      or_none true = refl
      or_none false = refl

  -- declared leaves are the same
  leaf_same : (p : Spelling) (t : Ty) (mark : Mark) → is_declared (path_of p) ≡ true → leaf_of c p t mark ≡ leaf_of e p t mark
  leaf_same p t mark h =
      ap₂ (the_leaf p t mark)
      (sym (initial_same (path_of p) h)) (sym (retained_same (path_of p) h))

  variable_same_leaves : (n : ℕ) → ((p : Spelling) → is_declared (path_of p) ≡ true → (vs ws : List Variable) → Extends vs ws → declared_leaves (leaves n c p vs) ≡ declared_leaves (leaves n e p ws))
      → (p : Spelling) → is_declared (path_of p) ≡ true → (v : Variable) → IsDeclaredVariable v → declared_leaves (variable_leaves (leaves n c) c p v) ≡ declared_leaves (variable_leaves (leaves n e) e p v)
  variable_same_leaves n below p h v own = by_class (is_kept v.class)
    where
      by_type : (o : Option Ty)
          → declared_leaves (elim (elim o as (λ x. Meaning) [ Some t ↦ Elementary t | None ↦ Composed (composed c.world v.ty) ]) [ Elementary t ↦ leaf_of c (v.name ∷ p) t v.mark ∷ [] | Composed vs ↦ leaves n c (v.name ∷ p) vs ])
          ≡ declared_leaves (elim (elim o as (λ x. Meaning) [ Some t ↦ Elementary t | None ↦ Composed (composed e.world v.ty) ]) [ Elementary t ↦ leaf_of e (v.name ∷ p) t v.mark ∷ [] | Composed vs ↦ leaves n e (v.name ∷ p) vs ])
      by_type (Some t) = ap (λ leaf. declared_leaves (leaf ∷ [])) (leaf_same (v.name ∷ p) t v.mark (declared_leaf (in_lower_case v.name) (path_of p) own h))
      by_type None = below (v.name ∷ p) (declared_leaf (in_lower_case v.name) (path_of p) own h) (composed c.world v.ty) (composed e.world v.ty) (worlds v.ty)

      by_class : (b : Bool)
          → declared_leaves (if b then (elim (meaning c.world v.ty) [ Elementary t ↦ leaf_of c (v.name ∷ p) t v.mark ∷ [] | Composed vs ↦ leaves n c (v.name ∷ p) vs ]) else [])
          ≡ declared_leaves (if b then (elim (meaning e.world v.ty) [ Elementary t ↦ leaf_of e (v.name ∷ p) t v.mark ∷ [] | Composed vs ↦ leaves n e (v.name ∷ p) vs ]) else [])
      by_class true = by_type (type_named v.ty)
      by_class false = refl

  leaves_same : (n : ℕ) (p : Spelling) → is_declared (path_of p) ≡ true → (vs ws : List Variable) → Extends vs ws → declared_leaves (leaves n c p vs) ≡ declared_leaves (leaves n e p ws)
  leaves_same zero p h vs ws ext = refl
  leaves_same (suc n) p h vs ws ext =
      same_each (variable_leaves (leaves n c) c p) (variable_leaves (leaves n e) e p) vs
      (each_weaker IsDeclaredVariable _ vs (λ v own. variable_same_leaves n (λ q. leaves_same n q) p h v own) ext.declared)
      ∙ sym (append-nil (declared_leaves (flat_map (variable_leaves (leaves n e) e p) vs)))
      ∙ ap (λ ls. declared_leaves (flat_map (variable_leaves (leaves n e) e p) vs) ++ ls)
      (sym (none_each (variable_leaves (leaves n e) e p) ext.own (each_weaker IsHidden _ ext.own (λ o own. variable_hides (leaves n e) (leaves_hide n e) e p o (own_leaf (in_lower_case o.name) (path_of p) own.own)) ext.owned)))
      ∙ sym (filter-append (λ (leaf : Leaf). is_declared leaf.path) (flat_map (variable_leaves (leaves n e) e p) vs) (flat_map (variable_leaves (leaves n e) e p) ext.own))
      ∙ ap declared_leaves (sym (ap (flat_map (variable_leaves (leaves n e) e p)) ext.is ∙ flat_map-append (variable_leaves (leaves n e) e p) vs ext.own))

  pub layouts_same : declared_leaves (layout c) ≡ declared_leaves (layout e)
  layouts_same = leaves_same 18 [] refl c.own e.own owns

  -- what a side begins with, and what a restart leaves
  pub begun_same : (kept : Path → ℤ) (p : Path) → is_declared p ≡ true → begun c kept p ≡ begun e kept p
  begun_same kept p h = ap₂ (λ b v. if is_declared p && b then kept p else v) (sym (retained_same p h)) (sym (initial_same p h))

  pub begun_own : (kept : Path → ℤ) (x : List ℕ) (p : Path) → is_own x ≡ true → is_declared p ≡ true → begun e kept (x ∷ p) ≡ pos 0
  begun_own kept x p own h = rw (own_leaf x p own) (own_initial x p own h)

  pub restarted_same : (r : Restart) (s t : Path → ℤ) (p : Path) → is_declared p ≡ true → s p ≡ t p → restarted c r s p ≡ restarted e r t p
  restarted_same Warm s t p h same = ap₂ (λ b v. if b then s p else v) (sym (retained_same p h)) (sym (initial_same p h)) ∙ ap (λ v. if is_retained e p then v else initial_at e p) same
  restarted_same Cold s t p h same = sym (initial_same p h)
