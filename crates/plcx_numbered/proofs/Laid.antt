-- The leaves of a program go by their numbers: their paths and types, in the order of the layout.
use Rattle.std.proofs.Common.{◌≡◌, ℕ, zero, suc, Bool, true, false, List, [], ◌∷◌, ◌++◌, map, refl, sym, ap, ap₂, ◌∙◌, append_assoc, if◌then◌else◌}
use Rattle.std.proofs.lemmas.List.{append-nil}
use Rattle.plcx_types.specs.Name.{in_lower_case}
use Rattle.plcx_meaning.specs.Base.{Path}
use Rattle.plcx_meaning.specs.Layout.{Variable, variables_of, Meaning, Elementary, Composed, meaning, Scope, Spelling, path_of, Leaf, leaf_of, is_kept, variable_leaves, leaves, layout}
use Rattle.plcx_meaning.specs.Diagram.{Pou, Project}
use Rattle.plcx_meaning.specs.Evaluate.{scope_of}
use Rattle.plcx_numbered.specs.Numbers.{Place, behind, variable_places, places, places_of, shape_of}

abbrev pub place_of : Leaf → Place
place_of l = (l.path, l.ty)

abbrev pub below : Path → List Place → List Place
below p xs = map (λ (x : Place). (x.0 ++ p, x.1)) xs

joined : (xs ys : List Leaf) → map place_of (xs ++ ys) ≡ map place_of xs ++ map place_of ys
joined [] ys = refl
joined (x ∷ xs) ys = ap (λ ps. place_of x ∷ ps) (joined xs ys)

below_joined : (p : Path) (xs ys : List Place) → below p (xs ++ ys) ≡ below p xs ++ below p ys
below_joined p [] ys = refl
below_joined p (x ∷ xs) ys = ap (λ ps. (x.0 ++ p, x.1) ∷ ps) (below_joined p xs ys)

below_behind : (x : List ℕ) (p : Path) (xs : List Place) → below p (behind x xs) ≡ below (x ∷ p) xs
below_behind x p [] = refl
below_behind x p (y ∷ ys) = ap₂ (λ q rest. (q, y.1) ∷ rest) (append_assoc y.0 (x ∷ []) p) (below_behind x p ys)

abbrev pub Placed : ℕ → Scope → Type 0
Placed n c = (names : Spelling) (vs : List Variable) → map place_of (leaves n c names vs) ≡ below (path_of names) (places n c.world vs)

variable_placed : (n : ℕ) (c : Scope) → Placed n c → (names : Spelling) (v : Variable)
    → map place_of (variable_leaves (leaves n c) c names v) ≡ below (path_of names) (variable_places (places n c.world) c.world v)
variable_placed n c inner names v = by_kept (is_kept v.class) (meaning c.world v.ty)
  where
    by_kept : (kept : Bool) (m : Meaning)
        → map place_of (if kept then (elim m [ Elementary t ↦ leaf_of c (v.name ∷ names) t v.mark ∷ [] | Composed vs ↦ leaves n c (v.name ∷ names) vs ]) else [])
        ≡ below (path_of names) (if kept then (elim m [ Elementary t ↦ (in_lower_case v.name ∷ [], t) ∷ [] | Composed vs ↦ behind (in_lower_case v.name) (places n c.world vs) ]) else [])
    by_kept true (Elementary t) = refl
    by_kept true (Composed vs) = inner (v.name ∷ names) vs ∙ sym (below_behind (in_lower_case v.name) (path_of names) (places n c.world vs))
    by_kept false m = refl

pub placed : (n : ℕ) (c : Scope) → Placed n c
placed zero c names vs = refl
placed (suc n) c names vs = all (placed n c) vs
  where
    all : Placed n c → (ws : List Variable) → map place_of (leaves (suc n) c names ws) ≡ below (path_of names) (places (suc n) c.world ws)
    all inner [] = refl
    all inner (w ∷ ws) =
        joined (variable_leaves (leaves n c) c names w) (leaves (suc n) c names ws)
        ∙ ap₂ (λ a b. a ++ b) (variable_placed n c inner names w) (all inner ws)
        ∙ sym (below_joined (path_of names) (variable_places (places n c.world) c.world w) (places (suc n) c.world ws))

whole : (xs : List Place) → below [] xs ≡ xs
whole [] = refl
whole (x ∷ xs) = ap₂ (λ p rest. (p, x.1) ∷ rest) (append-nil x.0) (whole xs)

of_places : {A : Type 0} (f : Place → A) (ls : List Leaf) → map f (map place_of ls) ≡ map (λ (l : Leaf). f (l.path, l.ty)) ls
of_places f [] = refl
of_places f (l ∷ ls) = ap (λ rest. f (l.path, l.ty) ∷ rest) (of_places f ls)

-- what is told of each leaf by its path and type
by_number : {A : Type 0} (f : Place → A) (project : Project) (p : Pou) → map (λ (l : Leaf). f (l.path, l.ty)) (layout (scope_of project p)) ≡ map f (places_of project (variables_of p.lists))
by_number f project p =
    let c = scope_of project p in
    sym (of_places f (layout c)) ∙ ap (map f) (placed 18 c [] c.own ∙ whole (places 18 c.world c.own))

pub paths_are : (project : Project) (p : Pou) → map (λ (l : Leaf). l.path) (layout (scope_of project p)) ≡ (shape_of project p).paths
paths_are = by_number (λ x. x.0)

pub types_are : (project : Project) (p : Pou) → map (λ (l : Leaf). l.ty) (layout (scope_of project p)) ≡ map (λ (x : Place). x.1) (places_of project (variables_of p.lists))
types_are = by_number (λ x. x.1)
