-- The leaves of an instance lie side by side, however many levels are counted.
use Rattle.std.proofs.Common.{◌≡◌, ℕ, zero, suc, ◌+◌, ◌<◌, Bool, true, false, List, [], ◌∷◌, ◌++◌, length, map, Option, Some, None, refl, sym, ap, ap₂, ◌∙◌, arith}
use Rattle.std.specs.Prelude.{slice_get, if◌then◌else◌}
use Rattle.std.specs.List.{flat_map}
use Rattle.std.specs.Str.{bytes_eq}
use Rattle.std.proofs.lemmas.Option.{same_Some}
use Rattle.plcx_types.specs.declared.ty.Ty.{Ty}
use Rattle.plcx_types.specs.Name.{in_lower_case}
use Rattle.plcx_types.specs.TypeName.{type_named}
use Rattle.plcx_types.specs.Lists.{Each}
use Rattle.plcx_std.specs.declared.kind.StdKind.{StdKind}
use Rattle.plcx_std.specs.declared.kind.StdKind.TheVariants as kind
use Rattle.plcx_std.specs.Kind.{kind_named}
use Rattle.plcx_meaning.specs.Base.{are_distinct}
use Rattle.plcx_meaning.specs.Standard.{pin_blocks}
use Rattle.plcx_meaning.specs.Layout.{Variable, variables_of, variable_named, World, Meaning, Elementary, Composed, composed, is_kept}
use Rattle.plcx_meaning.specs.Diagram.{Pou, Project, block_named}
use Rattle.plcx_meaning.specs.Evaluate.{world_of}
use Rattle.plcx_meaning.specs.Fits.{PouNests}
use Rattle.plcx_meaning.proofs.Lists.{each_weaker}
use Rattle.plcx_meaning.proofs.Names.{folded_twice}
use Rattle.plcx_meaning.proofs.ReadyUnits.{named_each}
use Rattle.plcx_numbered.specs.Numbers.{Place, behind, variable_places, places, first_leaf}

pub past_front : {A : Type 0} (xs ys : List A) (i : ℕ) → slice_get (xs ++ ys) (length xs + i) ≡ slice_get ys i
past_front [] ys i = ap (slice_get ys) (let z : 0 + i ≡ i = omega arith in z)
past_front (x ∷ xs) ys i = ap (slice_get (x ∷ (xs ++ ys))) (let z : suc (length xs) + i ≡ suc (length xs + i) = omega arith in z) ∙ past_front xs ys i

pub at_front : {A : Type 0} (xs ys : List A) (i : ℕ) (x : A) → slice_get xs i ≡ Some x → slice_get (xs ++ ys) i ≡ Some x
at_front [] ys i x h = absurd (cc)
at_front (y ∷ xs) ys zero x h = h
at_front (y ∷ xs) ys (suc i) x h = at_front xs ys i x h

-- a block is found under its name without case
pub folded_block : (name : List ℕ) (project : Project) → block_named (in_lower_case name) project ≡ block_named name project
folded_block name [] = refl
folded_block name (p ∷ ps) = rw (folded_twice name, folded_block name ps)

-- the variables within an instance of a block
pub composed_user : (project : Project) (name : List ℕ) → kind_named name ≡ None → composed (world_of project) name ≡ variables_of (elim (block_named name project) [ Some q ↦ q.lists | None ↦ [] ])
composed_user project name user =
    ap (λ o. elim o [ Some k ↦ variables_of (pin_blocks k) | None ↦ variables_of (world_of project (in_lower_case name)) ]) user
    ∙ ap (λ o. variables_of (elim o [ Some q ↦ q.lists | None ↦ [] ])) (folded_block name project)

pub composed_standard : (world : World) (name : List ℕ) (k : StdKind) → kind_named name ≡ Some k → composed world name ≡ variables_of (pin_blocks k)
composed_standard world name k e = ap (λ o. elim o [ Some j ↦ variables_of (pin_blocks j) | None ↦ variables_of (world (in_lower_case name)) ]) e

-- ---- the depth doesn't matter where it is enough

-- the leaves of a standard block are one level
pub pins_steady : (n m : ℕ) (world : World) (k : StdKind) → places (suc n) world (variables_of (pin_blocks k)) ≡ places (suc m) world (variables_of (pin_blocks k))
pins_steady n m world kind.Ton = refl
pins_steady n m world kind.Tof = refl
pins_steady n m world kind.Tp = refl
pins_steady n m world kind.Ctu = refl
pins_steady n m world kind.Ctd = refl
pins_steady n m world kind.Ctud = refl
pins_steady n m world kind.Sr = refl
pins_steady n m world kind.Rs = refl
pins_steady n m world kind.RTrig = refl
pins_steady n m world kind.FTrig = refl

pub flat_same : {A B : Type 0} (f g : A → List B) (xs : List A) → Each (λ x. f x ≡ g x) xs → flat_map f xs ≡ flat_map g xs
flat_same f g [] h = refl
flat_same f g (x ∷ xs) h = ap₂ (λ a b. a ++ b) h.0 (flat_same f g xs h.1)

-- a variable by what its type stands for
abbrev pub meant_by : World → List ℕ → Option Ty → Meaning
meant_by world name o = elim o [ Some t ↦ Elementary t | None ↦ Composed (composed world name) ]

abbrev placed_by : (List Variable → List Place) → Bool → List ℕ → Meaning → List Place
placed_by f kept name m = if kept then (elim m [ Elementary t ↦ (name ∷ [], t) ∷ [] | Composed vs ↦ behind name (f vs) ]) else []

-- where the variables of an instance have the same leaves, so has it
variable_steady : (f g : List Variable → List Place) (world : World) (v : Variable) → (type_named v.ty ≡ None → f (composed world v.ty) ≡ g (composed world v.ty)) → variable_places f world v ≡ variable_places g world v
variable_steady f g world v same = by_type (type_named v.ty) same
  where
    by_type : (o : Option Ty) → (o ≡ None → f (composed world v.ty) ≡ g (composed world v.ty))
        → placed_by f (is_kept v.class) (in_lower_case v.name) (meant_by world v.ty o) ≡ placed_by g (is_kept v.class) (in_lower_case v.name) (meant_by world v.ty o)
    by_type (Some t) h = refl
    by_type None h = ap (λ ps. if is_kept v.class then behind (in_lower_case v.name) ps else []) (h refl)

-- a POU's blocks lie so many levels below it at most
abbrev pub names_of : Pou → List (List ℕ)
names_of p = map (λ (v : Variable). in_lower_case v.name) (variables_of p.lists)

abbrev pub AreDistinct : Project → Type 0
AreDistinct project = (name : List ℕ) (q : Pou) → block_named name project ≡ Some q → are_distinct (names_of q) ≡ true

pub places_steady : (project : Project) → AreDistinct project → (m : ℕ) (p : Pou) → are_distinct (names_of p) ≡ true → PouNests m project p → (i j : ℕ) → m < i → m < j
    → places (suc i) (world_of project) (variables_of p.lists) ≡ places (suc j) (world_of project) (variables_of p.lists)
places_steady project distinct m p apart nests zero j low low' = absurd (omega arith)
places_steady project distinct m p apart nests (suc i) zero low low' = absurd (omega arith)
places_steady project distinct zero p apart nests (suc i) (suc j) low low' =
    flat_same _ _ (variables_of p.lists) (each_weaker _ _ (variables_of p.lists) (λ v found.
    variable_steady _ _ (world_of project) v (λ composite. by_kind v found composite (kind_named v.ty) refl)) (named_each (variables_of p.lists) apart))
  where
    by_kind : (v : Variable) → variable_named (in_lower_case v.name) (variables_of p.lists) ≡ Some v → type_named v.ty ≡ None → (o : Option StdKind) → kind_named v.ty ≡ o
        → places (suc i) (world_of project) (composed (world_of project) v.ty) ≡ places (suc j) (world_of project) (composed (world_of project) v.ty)
    by_kind v found composite (Some k) e =
        let c = composed_standard (world_of project) v.ty k e in
        ap (places (suc i) (world_of project)) c ∙ pins_steady i j (world_of project) k ∙ sym (ap (places (suc j) (world_of project)) c)
    by_kind v found composite None e =
        let c = composed_user project v.ty e ∙ ap (λ o. variables_of (elim o [ Some q ↦ q.lists | None ↦ [] ])) (nests (in_lower_case v.name) v found composite e) in
        ap (places (suc i) (world_of project)) c ∙ sym (ap (places (suc j) (world_of project)) c)
places_steady project distinct (suc m) p apart nests (suc i) (suc j) low low' =
    flat_same _ _ (variables_of p.lists) (each_weaker _ _ (variables_of p.lists) (λ v found.
    variable_steady _ _ (world_of project) v (λ composite. by_kind v found composite (kind_named v.ty) refl (λ q block below. places_steady project distinct m q (distinct v.ty q block) below i j (omega arith) (omega arith)))) (named_each (variables_of p.lists) apart))
  where
    by_kind : (v : Variable) → variable_named (in_lower_case v.name) (variables_of p.lists) ≡ Some v → type_named v.ty ≡ None → (o : Option StdKind) → kind_named v.ty ≡ o
        → ((q : Pou) → block_named v.ty project ≡ Some q → PouNests m project q → places (suc i) (world_of project) (variables_of q.lists) ≡ places (suc j) (world_of project) (variables_of q.lists))
        → places (suc i) (world_of project) (composed (world_of project) v.ty) ≡ places (suc j) (world_of project) (composed (world_of project) v.ty)
    by_kind v found composite (Some k) e deeper =
        let c = composed_standard (world_of project) v.ty k e in
        ap (places (suc i) (world_of project)) c ∙ pins_steady i j (world_of project) k ∙ sym (ap (places (suc j) (world_of project)) c)
    by_kind v found composite None e deeper =
        let n = nests (in_lower_case v.name) v found composite e in
        let c = composed_user project v.ty e ∙ ap (λ o. variables_of (elim o [ Some q ↦ q.lists | None ↦ [] ])) n.1 in
        ap (places (suc i) (world_of project)) c ∙ deeper n.0 n.1 n.2 ∙ sym (ap (places (suc j) (world_of project)) c)

-- ---- where the leaves of a variable stand

-- the leaves of the variable of a name, behind those of the variables before it
pub from_first : {A : Type 0} (f : Variable → List A) (key : List ℕ) (vs : List Variable) (v : Variable) → variable_named key vs ≡ Some v → (i : ℕ) (x : A) → slice_get (f v) i ≡ Some x
    → slice_get (flat_map f vs) (first_leaf (λ w. length (f w)) key vs + i) ≡ Some x
from_first f key [] v h i x there = absurd (cc)
from_first f key (w ∷ vs) v h i x there = by_test (bytes_eq (in_lower_case w.name) key) h (λ found. from_first f key vs v found i x there)
  where
    by_test : (b : Bool) → (if b then Some w else variable_named key vs) ≡ Some v → (variable_named key vs ≡ Some v → slice_get (flat_map f vs) (first_leaf (λ u. length (f u)) key vs + i) ≡ Some x)
        → slice_get (f w ++ flat_map f vs) ((if b then 0 else length (f w) + first_leaf (λ u. length (f u)) key vs) + i) ≡ Some x
    by_test true e rest =
        ap (slice_get (f w ++ flat_map f vs)) (let z : 0 + i ≡ i = omega arith in z)
        ∙ at_front (f w) (flat_map f vs) i x (ap (λ (u : Variable). slice_get (f u) i) (same_Some w v e) ∙ there)
    by_test false e rest =
        ap (slice_get (f w ++ flat_map f vs)) (let z : length (f w) + first_leaf (λ u. length (f u)) key vs + i ≡ length (f w) + (first_leaf (λ u. length (f u)) key vs + i) = omega arith in z)
        ∙ past_front (f w) (flat_map f vs) _
        ∙ rest e
