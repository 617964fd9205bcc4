-- No memory of a program of a project that fits stands twice.
use Rattle.std.proofs.Common.{◌≡◌, ℕ, zero, suc, Bool, true, false, List, [], ◌∷◌, ◌++◌, map, Option, Some, None, refl, sym, ap, ap₂, ◌∙◌, subst, arith, inl, inr}
use Rattle.std.specs.Prelude.{not, nat_eq, if◌then◌else◌}
use Rattle.std.specs.List.{flat_map, filter, list_any, Contains}
use Rattle.std.specs.Str.{bytes_eq}
use Rattle.std.proofs.lemmas.Bool.{and_parts, not-true, true≢false}
use Rattle.std.proofs.lemmas.Bool.Decides.{Decides-eqb}
use Rattle.plcx_types.specs.Name.{in_lower_case}
use Rattle.plcx_types.specs.Lists.{Each}
use Rattle.plcx_meaning.specs.Base.{Path, Memory, AtEdge, AtOutput, all_differ, are_distinct}
use Rattle.plcx_meaning.specs.Layout.{Variable, variables_of}
use Rattle.plcx_meaning.specs.Diagram.{Port, ports, DiagramElement, has_edge, is_fed, Pou, Project}
use Rattle.plcx_meaning.specs.Fits.{PortsFit, PouFits, ProjectFits}
use Rattle.plcx_meaning.proofs.Lists.{each_at, each_from, each_map, contains_cases, contains_none, contains_first, contains_later, contains_map, none_passes, distinct_parts}
use Rattle.plcx_meaning.proofs.Names.{bytes_self}
use Rattle.plcx_meaning.proofs.StaticsWorlds.{block_fits}
use Rattle.plcx_numbered.specs.Agreeing.{AreApart, Cell, IsApart}
use Rattle.plcx_numbered.specs.Right.{Plan}
use Rattle.plcx_numbered.specs.Numbers.{element_cells, cells_behind, user_of, instance_cells, cells, plan_of, plans_of}
use Rattle.plcx_numbered.proofs.Numbers.{place_in, apart_none, apart_cons, contains_append, apart_append}
use Rattle.plcx_numbered.proofs.Nested.{user_is}
use Rattle.plcx_numbered.proofs.Apart.{paths_apart}

-- ---- lists

origin_of : {A B : Type 0} (f : A → B) (xs : List A) (y : B) → Contains (map f xs) y → (x : A) × Contains xs x × (f x ≡ y)
origin_of f [] y h = absurd (contains_none y h)
origin_of f (x ∷ xs) y h = elim (contains_cases (f x) (map f xs) y h) [ inl e ↦ (x, contains_first x xs, e) | inr l ↦ (let o = origin_of f xs y l in (o.0, contains_later x xs o.0 o.1, o.2)) ]

origin_flat : {A B : Type 0} (f : A → List B) (xs : List A) (y : B) → Contains (flat_map f xs) y → (x : A) × Contains xs x × Contains (f x) y
origin_flat f [] y h = absurd (contains_none y h)
origin_flat f (x ∷ xs) y h = elim (contains_append (f x) (flat_map f xs) y h) [ inl a ↦ (x, contains_first x xs, a) | inr l ↦ (let o = origin_flat f xs y l in (o.0, contains_later x xs o.0 o.1, o.2)) ]

apart_new : {A : Type 0} (x : A) (xs : List A) → AreApart (x ∷ xs) → Contains xs x → ⊥
apart_new x xs h there = let p = place_in xs x there in let f : 0 ≡ suc p.0 = h.apart 0 (suc p.0) x refl p.1 in absurd (omega arith)

apart_later : {A : Type 0} (x : A) (xs : List A) → AreApart (x ∷ xs) → AreApart xs
apart_later x xs h = record { apart = λ i j k a b. (let f : suc i ≡ suc j = h.apart (suc i) (suc j) k a b in omega arith) }

apart_by : {A B K : Type 0} (key : A → K) (g : A → B) → ((x y : A) → g x ≡ g y → key x ≡ key y) → (xs : List A) → AreApart (map key xs) → AreApart (map g xs)
apart_by key g one [] h = apart_none
apart_by key g one (x ∷ xs) h =
    apart_cons (g x) (map g xs)
    (λ there. let o = origin_of g xs (g x) there in apart_new (key x) (map key xs) h (subst (Contains (map key xs)) (one o.0 x o.2) (contains_map key xs o.0 o.1)))
    (apart_by key g one xs (apart_later (key x) (map key xs) h))

apart_to : {A B : Type 0} (g : A → B) → ((x y : A) → g x ≡ g y → x ≡ y) → (xs : List A) → AreApart xs → AreApart (map g xs)
apart_to g one [] h = apart_none
apart_to g one (x ∷ xs) h =
    apart_cons (g x) (map g xs)
    (λ there. let o = origin_of g xs (g x) there in apart_new x xs h (subst (Contains xs) (one o.0 x o.2) o.1))
    (apart_to g one xs (apart_later x xs h))

apart_flat : {A B K : Type 0} (key : A → K) (f : A → List B) → ((x y : A) (z : B) → Contains (f x) z → Contains (f y) z → key x ≡ key y) → (xs : List A)
    → Each (λ (x : A). AreApart (f x)) xs → AreApart (map key xs) → AreApart (flat_map f xs)
apart_flat key f one [] each h = apart_none
apart_flat key f one (x ∷ xs) each h =
    apart_append (f x) (flat_map f xs) each.0 (apart_flat key f one xs each.1 (apart_later (key x) (map key xs) h))
    (λ z a b. let o = origin_flat f xs z b in apart_new (key x) (map key xs) h (subst (Contains (map key xs)) (one o.0 x z o.2 a) (contains_map key xs o.0 o.1)))

key_kept : {A K : Type 0} (key : A → K) (t : A → Bool) (xs : List A) (k : K) → Contains (map key (filter t xs)) k → Contains (map key xs) k
key_kept key t [] k h = h
key_kept {A} {K} key t (x ∷ xs) k h = by_test (t x) (key_kept key t xs k) h
  where
    by_test : (b : Bool) → (Contains (map key (filter t xs)) k → Contains (map key xs) k) → Contains (map key (if b then x ∷ filter t xs else filter t xs)) k → Contains (map key (x ∷ xs)) k
    by_test true rest c = elim (contains_cases (key x) (map key (filter t xs)) k c) [ inl e ↦ subst (Contains (key x ∷ map key xs)) e (contains_first (key x) (map key xs)) | inr l ↦ contains_later (key x) (map key xs) k (rest l) ]
    by_test false rest c = contains_later (key x) (map key xs) k (rest c)

apart_filter : {A K : Type 0} (key : A → K) (t : A → Bool) (xs : List A) → AreApart (map key xs) → AreApart (map key (filter t xs))
apart_filter key t [] h = apart_none
apart_filter {A} {K} key t (x ∷ xs) h = by_test (t x) (apart_filter key t xs (apart_later (key x) (map key xs) h))
  where
    by_test : (b : Bool) → AreApart (map key (filter t xs)) → AreApart (map key (if b then x ∷ filter t xs else filter t xs))
    by_test true rest = apart_cons (key x) (map key (filter t xs)) (λ there. apart_new (key x) (map key xs) h (key_kept key t xs (key x) there)) rest
    by_test false rest = rest

ids_apart : (ns : List ℕ) → all_differ ns ≡ true → AreApart ns
ids_apart [] h = apart_none
ids_apart (n ∷ ns) h =
    let parts = and_parts (not (list_any (nat_eq n) ns)) (all_differ ns) h in
    apart_cons n ns (λ there. true≢false (sym ((Decides-eqb n n).1 refl) ∙ none_passes (nat_eq n) ns n (not-true (list_any (nat_eq n) ns) parts.0) there)) (ids_apart ns parts.1)

names_apart : (xs : List (List ℕ)) → are_distinct xs ≡ true → AreApart xs
names_apart [] h = apart_none
names_apart (x ∷ xs) h = let parts = distinct_parts x xs h in apart_cons x xs (λ there. true≢false (sym (bytes_self x) ∙ none_passes (bytes_eq x) xs x parts.0 there)) (names_apart xs parts.1)

ended : (y : Path) (b : List ℕ) → [] ≡ y ++ (b ∷ []) → ⊥
ended [] b e = absurd (cc)
ended (w ∷ y) b e = absurd (cc)

same_ends : (x y : Path) (a b : List ℕ) → x ++ (a ∷ []) ≡ y ++ (b ∷ []) → (x ≡ y) × (a ≡ b)
same_ends [] [] a b e = (refl, cc)
same_ends [] (z ∷ y) a b e = let f : [] ≡ y ++ (b ∷ []) = cc in absurd (ended y b f)
same_ends (z ∷ x) [] a b e = let f : [] ≡ x ++ (a ∷ []) = cc in absurd (ended x a f)
same_ends (z ∷ x) (w ∷ y) a b e = let f : x ++ (a ∷ []) ≡ y ++ (b ∷ []) = cc in let g : z ≡ w = cc in let r = same_ends x y a b f in (ap₂ (λ c d. c ∷ d) g r.0, r.1)

-- ---- the memories of elements

abbrev memory_id : Memory → ℕ
memory_id (AtEdge i) = i
memory_id (AtOutput i pin) = i

abbrev edge_cell : ℕ → Bool → List Cell
edge_cell id b = if b then ([], AtEdge id) ∷ [] else []

abbrev fed_cell : ℕ → Port → Cell
fed_cell id o = ([], AtOutput id (in_lower_case o.pin))

at_edge : (id : ℕ) (b : Bool) (z : Cell) → Contains {X = Cell} (edge_cell id b) z → ([], AtEdge id) ≡ z
at_edge id true z h = elim (contains_cases {A = Cell} ([], AtEdge id) [] z h) [ inl e ↦ e | inr l ↦ absurd (contains_none z l) ]
at_edge id false z h = absurd (contains_none z h)

own_cell : (e : DiagramElement) (z : Cell) → Contains {X = Cell} (element_cells e) z → (z.0 ≡ []) × (memory_id z.1 ≡ e.id)
own_cell e z h =
    elim (contains_append {A = Cell} (edge_cell e.id (has_edge e.kind)) (map (fed_cell e.id) e.fed) z h) [
      | inl a ↦ (let s = at_edge e.id (has_edge e.kind) z a in (ap (λ (c : Cell). c.0) (sym s), ap (λ (c : Cell). memory_id c.1) (sym s)))
      | inr b ↦ (let o = origin_of (fed_cell e.id) e.fed z b in (ap (λ (c : Cell). c.0) (sym o.2), ap (λ (c : Cell). memory_id c.1) (sym o.2)))
    ]

edge_apart : (id : ℕ) (b : Bool) → AreApart {K = Cell} (edge_cell id b)
edge_apart id true = apart_cons {A = Cell} ([], AtEdge id) [] (λ h. contains_none {A = Cell} ([], AtEdge id) h) apart_none
edge_apart id false = apart_none

same_pin_of : (id : ℕ) (x y : Port) → fed_cell id x ≡ fed_cell id y → in_lower_case x.pin ≡ in_lower_case y.pin
same_pin_of id x y e = let m : AtOutput id (in_lower_case x.pin) ≡ AtOutput id (in_lower_case y.pin) = ap (λ (c : Cell). c.1) e in cc

element_apart : (p : Pou) (e : DiagramElement) → PortsFit p e → AreApart {K = Cell} (element_cells e)
element_apart p e fit =
    apart_append {A = Cell} (edge_cell e.id (has_edge e.kind)) (map (fed_cell e.id) e.fed) (edge_apart e.id (has_edge e.kind))
    (subst (λ os. AreApart {K = Cell} (map (fed_cell e.id) os)) (sym fit.fed)
    (apart_by {B = Cell} (λ (o : Port). in_lower_case o.pin) (fed_cell e.id) (same_pin_of e.id) (filter (is_fed p e.id) (ports e.kind))
    (apart_filter (λ (o : Port). in_lower_case o.pin) (is_fed p e.id) (ports e.kind) (names_apart (map (λ (o : Port). in_lower_case o.pin) (ports e.kind)) fit.pins))))
    (λ z a b.
    let o = origin_of (fed_cell e.id) e.fed z b in
    let m : AtOutput e.id (in_lower_case o.0.pin) ≡ AtEdge e.id = ap (λ (c : Cell). c.1) (o.2 ∙ sym (at_edge e.id (has_edge e.kind) z a)) in
    absurd (cc))

own_apart : (project : Project) (p : Pou) → PouFits project p → AreApart {K = Cell} (flat_map element_cells p.elements)
own_apart project p one =
    apart_flat {B = Cell} (λ (e : DiagramElement). e.id) element_cells (λ x y z a b. sym (own_cell x z a).1 ∙ (own_cell y z b).1) p.elements
    (each_from _ p.elements (λ e there. element_apart p e (each_at (PortsFit p) p.elements e one.ports there))) (ids_apart (map (λ (e : DiagramElement). e.id) p.elements) one.ids)

-- ---- and those of instances

inner_cell : (inner : Pou → List Cell) (project : Project) (v : Variable) (z : Cell) → Contains {X = Cell} (instance_cells inner project v) z → (q : Path) × (z.0 ≡ q ++ (in_lower_case v.name ∷ []))
inner_cell inner project v z h = by_user (user_of project v) h
  where
    by_user : (o : Option Pou) → Contains {X = Cell} (elim o [ Some q ↦ cells_behind (in_lower_case v.name) (inner q) | None ↦ [] ]) z → (q : Path) × (z.0 ≡ q ++ (in_lower_case v.name ∷ []))
    by_user (Some q) c = let o = origin_of {B = Cell} (λ (x : Cell). (x.0 ++ (in_lower_case v.name ∷ []), x.1)) (inner q) z c in (o.0.0, ap (λ (x : Cell). x.0) (sym o.2))
    by_user None c = absurd (contains_none z c)

behind_apart : (name : List ℕ) (cs : List Cell) → AreApart {K = Cell} cs → AreApart {K = Cell} (cells_behind name cs)
behind_apart name cs h =
    apart_to {A = Cell} {B = Cell} (λ (x : Cell). (x.0 ++ (name ∷ []), x.1)) (λ x y e. ap₂ (λ a b. (a, b)) (same_ends x.0 y.0 name name (ap (λ (c : Cell). c.0) e)).0 (ap (λ (c : Cell). c.1) e)) cs h

module _ (project : Project) (fits : ProjectFits project) where
  instance_apart : (inner : Pou → List Cell) → ((q : Pou) → PouFits project q → AreApart {K = Cell} (inner q)) → (v : Variable) → AreApart {K = Cell} (instance_cells inner project v)
  instance_apart inner each v = by_user (user_of project v) refl
    where
      by_user : (o : Option Pou) → user_of project v ≡ o → AreApart {K = Cell} (elim o [ Some q ↦ cells_behind (in_lower_case v.name) (inner q) | None ↦ [] ])
      by_user (Some q) e = behind_apart (in_lower_case v.name) (inner q) (each q (block_fits project v.ty project q fits.pous (user_is project v q e).block))
      by_user None e = apart_none

  cells_apart : (n : ℕ) (p : Pou) → PouFits project p → AreApart {K = Cell} (cells n project p)
  cells_apart zero p one = apart_none
  cells_apart (suc n) p one =
      apart_append {A = Cell} (flat_map element_cells p.elements) (flat_map (instance_cells (cells n project) project) (variables_of p.lists)) (own_apart project p one)
      (apart_flat {B = Cell} (λ (v : Variable). in_lower_case v.name) (instance_cells (cells n project) project)
      (λ x y z a b.
      let s = inner_cell (cells n project) project x z a in
      let t = inner_cell (cells n project) project y z b in
      (same_ends s.0 t.0 (in_lower_case x.name) (in_lower_case y.name) (sym s.1 ∙ t.1)).1)
      (variables_of p.lists) (each_from _ (variables_of p.lists) (λ v there. instance_apart (cells n project) (cells_apart n) v)) (names_apart (map (λ (v : Variable). in_lower_case v.name) (variables_of p.lists)) one.distinct))
      (λ z a b.
      let e = origin_flat {B = Cell} element_cells p.elements z a in
      let v = origin_flat {B = Cell} (instance_cells (cells n project) project) (variables_of p.lists) z b in
      let s = inner_cell (cells n project) project v.0 z v.2 in
      ended s.0 (in_lower_case v.0.name) (sym (own_cell e.0 z e.2).0 ∙ s.1))

pub plans_apart : (project : Project) → ProjectFits project → Each (λ (plan : Plan). IsApart plan.shape) (plans_of project)
plans_apart project fits =
    each_map (λ (plan : Plan). IsApart plan.shape) (plan_of project) project
    (each_from _ project (λ p there. let one : PouFits project p = each_at (PouFits project) project p fits.pous there in record { paths = paths_apart project fits p one; cells = cells_apart project fits 18 p one }))
