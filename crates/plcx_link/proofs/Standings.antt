-- What stands at a place of a body, and what is known of it.
use Rattle.std.proofs.Common.{◌≡◌, ℕ, zero, suc, ◌+◌, ◌<◌, ◌||◌, Bool, true, false, not, List, [], ◌∷◌, cond, take, nat_eq, is_some, is_none, map, Option, Some, None, option_map, slice_get, refl, ap, ◌∙◌, arith}
use Rattle.std.specs.List.{list_any, position_from}
use Rattle.std.proofs.lemmas.Option.{slice_get-map}
use Rattle.std.proofs.lemmas.Bool.Decides.{nat_tests}
use Rattle.plcx_funcs.specs.declared.func.Func.{Func}
use Rattle.plcx_funcs.specs.Names.{function_named}
use Rattle.plcx_std.specs.declared.kind.StdKind.{StdKind}
use Rattle.plcx_std.specs.Kind.{kind_named}
use Rattle.plcx_model.specs.declared.body.Kind.{Kind}
use Rattle.plcx_model.specs.declared.body.Kind.TheVariants as kind
use Rattle.plcx_model.specs.declared.body.BodyElement.{BodyElement}
use Rattle.plcx_model.specs.declared.project.Pou.{Pou}
use Rattle.plcx_rules.specs.declared.callee.Callee.TheVariants as callee
use Rattle.plcx_rules.specs.Callees.{callee_named, names_function, function_or, standard_or, block_named}
use Rattle.plcx_rules.specs.Sources.{output_place}
use Rattle.plcx_link.specs.declared.body.Resolved.{Resolved}
use Rattle.plcx_link.specs.Bodies.{callee_in, resolved, both, StandingIn, standing}
use Rattle.plcx_link.specs.Outputs.{calls_function, output_place_by, output_at}
use Rattle.plcx_link.specs.Faults.{stands_at}

-- what the code keeps beside each element
pub joined_is : (pous : List Pou) (p : Pou) (es : List BodyElement) (place : ℕ) → both (slice_get es place) (slice_get (map (resolved pous p) es) place) ≡ option_map (standing pous p) (slice_get es place)
joined_is pous p es place = ap (both (slice_get es place)) (slice_get-map (resolved pous p) es place) ∙ by (slice_get es place)
  where
    by : (o : Option BodyElement) → both o (option_map (resolved pous p) o) ≡ option_map (standing pous p) o
    by None = refl
    by (Some e) = refl

-- the same of what the code looks up
pub joined_by : (pous : List Pou) (p : Pou) (es : List BodyElement) (place : ℕ) (o : Option BodyElement) (r : Option Resolved) → o ≡ slice_get es place → r ≡ slice_get (map (resolved pous p) es) place → both o r ≡ option_map (standing pous p) (slice_get es place)
joined_by pous p es place o r first second = rw (first, second) (joined_is pous p es place)

-- ---- functions

of_other : (f : Option Func) (k : Option StdKind) (b : Option ℕ) → calls_function (function_or f (standard_or k (option_map callee.Block b))) ≡ is_some f
of_other (Some f) k b = refl
of_other None (Some k) b = refl
of_other None None None = refl
of_other None None (Some place) = refl

pub function_is : (pous : List Pou) (name : List ℕ) → calls_function (callee_named pous name) ≡ names_function name
unfolding callee_named
function_is pous name = of_other (function_named name) (kind_named name) (block_named pous name)

-- the place of an output, by what a block calls
pub output_is : (pous : List Pou) (k : Kind) (name : List ℕ) → output_place_by (calls_function (callee_in pous k)) k name ≡ output_place k name
unfolding callee_in output_place
output_is pous kind.Skipped name = refl
output_is pous kind.LeftRail name = refl
output_is pous (kind.RightRail input) name = refl
output_is pous (kind.Contact input text mods) name = refl
output_is pous (kind.Coil input text mods) name = refl
output_is pous (kind.In text mods) name = refl
output_is pous (kind.Out input text mods) name = refl
output_is pous (kind.Block type_name instance inputs in_outs outputs) name = ap (λ function. output_place_by function (kind.Block type_name instance inputs in_outs outputs) name) (function_is pous type_name)
output_is pous (kind.Connector own input) name = refl
output_is pous (kind.Continuation own) name = refl
output_is pous (kind.Label own) name = refl
output_is pous (kind.Jump label input) name = refl
output_is pous (kind.Return input) name = refl

-- what stands at a place is an element of the body
pub record Stands (pous : List Pou) (p : Pou) (o : Option BodyElement) (s : StandingIn) : Type 0 where
  pub there : o ≡ Some s.element
  pub is : s.resolved ≡ resolved pous p s.element

stands_by : (pous : List Pou) (p : Pou) (o : Option BodyElement) (s : StandingIn) → Some s ≡ option_map (standing pous p) o → Stands pous p o s
stands_by pous p None s h = cc
stands_by pous p (Some e) s h = let same : s ≡ standing pous p e = cc in rw same (record { there = refl; is = refl })

pub stands : (pous : List Pou) (p : Pou) (es : List BodyElement) (place : ℕ) (s : StandingIn) → Some s ≡ option_map (standing pous p) (slice_get es place) → Stands pous p (slice_get es place) s
stands pous p es place s h = stands_by pous p (slice_get es place) s h

pub output_there : (pous : List Pou) (p : Pou) (es : List BodyElement) (place : ℕ) (name : List ℕ) (s : StandingIn) → Some s ≡ option_map (standing pous p) (slice_get es place) → output_place_by (calls_function s.resolved.callee) s.element.kind name ≡ output_at es name place
output_there pous p es place name s h =
    let all = stands pous p es place s h in
    rw (all.there, all.is) (output_is pous s.element.kind name)

pub nothing : {X Y : Type 0} (f : X → Y) (o : Option X) → None ≡ option_map f o → o ≡ None
nothing f None h = refl
nothing f (Some x) h = cc

pub none_there : (pous : List Pou) (p : Pou) (es : List BodyElement) (place : ℕ) (name : List ℕ) → None ≡ option_map (standing pous p) (slice_get es place) → None ≡ output_at es name place
none_there pous p es place name h = rw (nothing (standing pous p) (slice_get es place) h) refl

-- ---- first places

pub same_number : (n m : ℕ) → n ≡ m → nat_eq n m ≡ true
same_number n m h = grind (arith, nat_tests)

other_number : (n m : ℕ) → n < m → nat_eq n m ≡ false
other_number n m h = grind (arith, nat_tests)

here : {X : Type 0} (t : X → Bool) (n i : ℕ) (b : Bool) (later : Option ℕ) (rest : Bool) → b ≡ true → not (stands_at (cond b (Some n) later) (n + 0)) ≡ false
here t n i b later rest is = let e : n ≡ n + 0 = omega arith in rw (is, same_number n (n + 0) e) refl

past : (n i : ℕ) (b : Bool) (later : Option ℕ) (rest : Bool) → not (stands_at later (n + 1 + i)) ≡ rest → not (stands_at (cond b (Some n) later) (n + suc i)) ≡ (b || rest)
past n i true later rest h = rw (other_number n (n + suc i) (omega arith)) refl
past n i false later rest h = let e : n + suc i ≡ n + 1 + i = omega arith in rw e h

-- an element is the first of its like where none before it is like it
pub first_at : {X : Type 0} (t : X → Bool) (n i : ℕ) (xs : List X) (x : X) → slice_get xs i ≡ Some x → t x ≡ true → not (stands_at (position_from t n xs) (n + i)) ≡ list_any t (take i xs)
first_at t n i [] x h is = cc
first_at t n zero (y ∷ ys) x h is = let same : y ≡ x = cc in here t n 0 (t y) (position_from t (n + 1) ys) false (rw same is)
first_at t n (suc i) (y ∷ ys) x h is = past n i (t y) (position_from t (n + 1) ys) (list_any t (take i ys)) (first_at t (n + 1) i ys x h is)

-- the same at the front
pub first_of_all : {X : Type 0} (t : X → Bool) (xs : List X) (i : ℕ) (x : X) → slice_get xs i ≡ Some x → t x ≡ true → not (stands_at (position_from t 0 xs) i) ≡ list_any t (take i xs)
first_of_all t xs i x h is = let e : 0 + i ≡ i = omega arith in rw e at (first_at t 0 i xs x h is)

some_or : (b : Bool) (n : ℕ) (o : Option ℕ) (rest : Bool) → is_none o ≡ not rest → is_none (cond b (Some n) o) ≡ not (b || rest)
some_or true n o rest h = refl
some_or false n o rest h = h

none_from : {X : Type 0} (t : X → Bool) (n : ℕ) (xs : List X) → is_none (position_from t n xs) ≡ not (list_any t xs)
none_from t n [] = refl
none_from t n (x ∷ xs) = some_or (t x) n (position_from t (n + 1) xs) (list_any t xs) (none_from t (n + 1) xs)

-- none is found exactly where none is there
pub none_of_all : {X : Type 0} (t : X → Bool) (xs : List X) → is_none (position_from t 0 xs) ≡ not (list_any t xs)
none_of_all t xs = none_from t 0 xs
