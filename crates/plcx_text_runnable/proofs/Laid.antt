-- The leaves of a POU of a unit go by their numbers in the order of the layout, no path stands twice, and they are no more than may be.
use Rattle.std.proofs.Common.{◌≡◌, ℕ, zero, suc, ◌+◌, ◌≤◌, Bool, true, false, List, [], ◌∷◌, ◌++◌, length, length-append, map, filter, Option, Some, None, refl, sym, ap, ap₂, ◌∙◌, subst, arith, if◌then◌else◌}
use Rattle.std.specs.List.{flat_map, sum_by}
use Rattle.std.proofs.lemmas.List.{append-nil, length-map}
use Rattle.std.proofs.lemmas.List.Sums.{sum_by-cons}
use Rattle.plcx_types.specs.Name.{in_lower_case}
use Rattle.plcx_types.specs.Lists.{Each}
use Rattle.plcx_meaning.specs.Base.{Path}
use Rattle.plcx_meaning.specs.Tree as tree
use Rattle.plcx_meaning.specs.Tree.{Class, Local, Input, Output, InOut, Temp, PouText}
use Rattle.plcx_meaning.specs.Layout.{Variable, variables_of, World, Meaning, Elementary, Composed, meaning, Leaf, is_kept, all_apart, layout}
use Rattle.plcx_meaning.specs.Evaluate.{is_in_out}
use Rattle.plcx_meaning.specs.Execute.{scope_of, world_of}
use Rattle.plcx_meaning.specs.Ready.{VariableIsReady, variable_size, size, PouIsReady, IsReady}
use Rattle.plcx_meaning.proofs.LeafPaths.{proper_layout}
use Rattle.plcx_meaning.proofs.LeafScopes.{text_scope}
use Rattle.plcx_numbered.specs.Agreeing.{AreApart}
use Rattle.plcx_numbered.specs.Numbers.{behind, variable_places, places, in_out_names}
use Rattle.plcx_numbered.specs.Numbers.{Place as Lying}
use Rattle.plcx_numbered.proofs.Apart.{apart_of}
use Rattle.plcx_numbered.proofs.Laid.{below, placed}
use Rattle.plcx_runnable.proofs.Lists.{map_map}
use Rattle.plcx_text_numbered.specs.Numbers.{places_of, plan_of}

whole : (xs : List Lying) → below [] xs ≡ xs
whole [] = refl
whole (x ∷ xs) = ap₂ (λ p rest. (p, x.1) ∷ rest) (append-nil x.0) (whole xs)

paths_are : (unit : List PouText) (p : PouText) → map (λ (l : Leaf). l.path) (layout (scope_of unit p)) ≡ (plan_of unit p).plan.paths
paths_are unit p =
    let c = scope_of unit p in
    sym (map_map (λ (x : Lying). x.0) (λ (l : Leaf). (l.path, l.ty)) (layout c)) ∙ ap (map (λ (x : Lying). x.0)) (placed 18 c [] c.own ∙ whole (places 18 c.world c.own))

pub paths_apart : (unit : List PouText) → IsReady unit → (p : PouText) → PouIsReady unit p → AreApart (plan_of unit p).plan.paths
paths_apart unit ready p one = apart_of (plan_of unit p).plan.paths (subst (λ ps. all_apart ps ≡ true) (paths_are unit p) (proper_layout (scope_of unit p) (text_scope unit ready p one)).apart)

-- a program has no in-outs
pub no_in_outs : (unit : List PouText) (p : PouText) → PouIsReady unit p → p.kind ≡ tree.Program → in_out_names (variables_of p.blocks) ≡ []
no_in_outs unit p one main = none (variables_of p.blocks) one.variables
  where
    none : (vs : List Variable) → Each (VariableIsReady unit p.kind) vs → in_out_names vs ≡ []
    none [] h = refl
    none (v ∷ vs) h = by_class v.class (λ e. h.0.in_out e main) (none vs h.1)
      where
        by_class : (class : Class) → (class ≡ InOut → ⊥) → in_out_names vs ≡ []
            → map (λ (u : Variable). in_lower_case u.name) (if elim class as (λ (c : Class). Bool) [ tree.InOut ↦ true | _ ↦ false ] then v ∷ filter (λ u. is_in_out (Some u)) vs else filter (λ u. is_in_out (Some u)) vs) ≡ []
        by_class Local other rest = rest
        by_class Input other rest = rest
        by_class Output other rest = rest
        by_class InOut other rest = absurd (other refl)
        by_class Temp other rest = rest

-- ---- no more leaves than the size

variable_few : (inner : List Variable → List Lying) (sizes : List Variable → ℕ) → ((vs : List Variable) → length (inner vs) ≤ sizes vs) → (world : World) (v : Variable) → length (variable_places inner world v) ≤ variable_size sizes world v
variable_few inner sizes few world v = by (is_kept v.class) (meaning world v.ty)
  where
    by : (kept : Bool) (m : Meaning)
        → length (if kept then (elim m as (λ (x : Meaning). List Lying) [ Elementary t ↦ (in_lower_case v.name ∷ [], t) ∷ [] | Composed vs ↦ behind (in_lower_case v.name) (inner vs) ]) else [])
        ≤ (if kept then (elim m as (λ (x : Meaning). ℕ) [ Elementary t ↦ 1 | Composed vs ↦ suc (sizes vs) ]) else 0)
    by true (Elementary t) = omega arith
    by true (Composed vs) =
        let long : length (behind (in_lower_case v.name) (inner vs)) ≡ length (inner vs) = length-map (inner vs) (λ (x : Lying). (x.0 ++ in_lower_case v.name ∷ [], x.1)) in
        let low = few vs in
        let all : length (behind (in_lower_case v.name) (inner vs)) ≤ suc (sizes vs) = omega arith in
        all
    by false m = omega arith

all_few : (f : Variable → List Lying) (n : Variable → ℕ) → ((v : Variable) → length (f v) ≤ n v) → (vs : List Variable) → length (flat_map f vs) ≤ sum_by n vs
all_few f n few [] = omega arith
all_few f n few (v ∷ vs) =
    let both = length-append (f v) (flat_map f vs) in
    let one = few v in
    let rest = all_few f n few vs in
    let sum : sum_by n (v ∷ vs) ≡ n v + sum_by n vs = sum_by-cons n v vs in
    let all : length (f v ++ flat_map f vs) ≤ n v + sum_by n vs = omega arith in
    subst (λ m. length (f v ++ flat_map f vs) ≤ m) (sym sum) all

pub places_few : (n : ℕ) (world : World) (vs : List Variable) → length (places n world vs) ≤ size n world vs
places_few zero world vs = omega arith
places_few (suc n) world vs = all_few (variable_places (places n world) world) (variable_size (size n world) world) (variable_few (places n world) (size n world) (places_few n world) world) vs
