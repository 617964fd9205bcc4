-- Sizes by levels.
use Rattle.std.proofs.Common.{◌≡◌, ℕ, zero, suc, ◌+◌, ◌≤◌, ◌<◌, Bool, true, false, cond, List, [], ◌∷◌, Option, Some, None, map, drop, option_map, get_or, slice_get, replicate, length, refl, sym, ap, ap₂, subst, ◌∙◌, arith}
use Rattle.std.specs.Prelude.{nat_lt, nat_le}
use Rattle.std.specs.List.{sum_by}
use Rattle.std.proofs.lemmas.Bool.Decides.{nat_tests}
use Rattle.std.proofs.lemmas.List.Sums.{sum_by-cons}
use Rattle.std.proofs.lemmas.List.{at_drop_more, at_drop_all}
use Rattle.plcx_types.specs.Limits.{max_text_leaves}
use Rattle.plcx_std.specs.declared.kind.StdKind.{StdKind}
use Rattle.plcx_std.specs.declared.kind.StdKind.TheVariants as kind
use Rattle.plcx_meaning.specs.Layout.{Variable, variables_of, World, Meaning, Elementary, Composed, is_kept}
use Rattle.plcx_meaning.specs.Standard.{pin_blocks}
use Rattle.plcx_meaning.specs.Ready.{variable_size, size}
use Rattle.plcx_conditions.specs.Placed.{Pou, bare_pou, bare, Declared, declared, bare_variable}
use Rattle.plcx_conditions.specs.Known.{world_of}
use Rattle.plcx_conditions.specs.Declarations.{is_large}
use Rattle.plcx_conditions.proofs.Units.{variables_bare}
use Rattle.plcx_known.specs.declared.types.VarType.{VarType}
use Rattle.plcx_known.specs.declared.types.VarType.TheVariants as type
use Rattle.plcx_known.specs.Types.{type_of, variables_in}
use Rattle.plcx_known.specs.Owned.{Typed, typed, own_of}
use Rattle.plcx_known.specs.Parts.{owners_of}
use Rattle.plcx_known.specs.Sizes.{most, capped, size_at, pin_count, type_weight, weight, next_sizes, sizes}
use Rattle.plcx_known.proofs.Places.{get_map}
use Rattle.plcx_known.proofs.Standing.{plain, meaning_is}
use Rattle.plcx_known.proofs.LongChains.{at_or, get_or_map}

-- ---- sizes

no_variables : (n : ℕ) (world : World) → size n world [] ≡ 0
no_variables zero world = refl
no_variables (suc n) world = refl

pins_size : (n : ℕ) (world : World) (k : StdKind) → size n world (variables_of (pin_blocks k)) ≡ pin_count n k
pins_size zero world k = refl
pins_size (suc n) world kind.Ton = refl
pins_size (suc n) world kind.Tof = refl
pins_size (suc n) world kind.Tp = refl
pins_size (suc n) world kind.Ctu = refl
pins_size (suc n) world kind.Ctd = refl
pins_size (suc n) world kind.Ctud = refl
pins_size (suc n) world kind.Sr = refl
pins_size (suc n) world kind.Rs = refl
pins_size (suc n) world kind.RTrig = refl
pins_size (suc n) world kind.FTrig = refl

-- what a meaning counts for
abbrev counted : (List Variable → ℕ) → Meaning → ℕ
counted inner m = elim m [ Elementary t ↦ 1 | Composed vs ↦ suc (inner vs) ]

module _ (pous : List Pou) where
  abbrev size_in : ℕ → Pou → ℕ
  size_in n p = size n (world_of (bare pous)) (variables_of (bare_pou p).blocks)

  abbrev Told : ℕ → Type 0
  Told n = sizes n (owners_of pous) ≡ map (size_in n) pous

  block_size : (n : ℕ) → Told n → (place : ℕ) → size n (world_of (bare pous)) (variables_in (slice_get (bare pous) place)) ≡ size_at (sizes n (owners_of pous)) place
  block_size n told place =
      ap (λ o. size n (world_of (bare pous)) (variables_in o)) (get_map bare_pou pous place) ∙ by (slice_get pous place)
      ∙ sym (ap (λ (ls : List ℕ). size_at ls place) told ∙ get_or_map (size_in n) 0 pous place)
    where
      by : (o : Option Pou) → size n (world_of (bare pous)) (variables_in (option_map bare_pou o)) ≡ at_or (size_in n) 0 o
      by None = no_variables n (world_of (bare pous))
      by (Some p) = refl

  plain_size : (n : ℕ) → Told n → (t : VarType) → counted (size n (world_of (bare pous))) (plain (bare pous) t) ≡ type_weight n (sizes n (owners_of pous)) t
  plain_size n told type.Unknown = ap suc (no_variables n (world_of (bare pous)))
  plain_size n told (type.Elementary t) = refl
  plain_size n told (type.Standard k) = ap suc (pins_size n (world_of (bare pous)) k)
  plain_size n told (type.Block place) = ap suc (block_size n told place)

  one_variable : (n : ℕ) → Told n → (d : Declared) → variable_size (size n (world_of (bare pous))) (world_of (bare pous)) (bare_variable d) ≡ weight n (sizes n (owners_of pous)) (typed (bare pous) d)
  one_variable n told d =
      ap (λ m. cond (is_kept d.class) (counted (size n (world_of (bare pous))) m) 0) (meaning_is (bare pous) d.declaration.ty.name)
      ∙ ap (λ (x : ℕ). cond (is_kept d.class) x 0) (plain_size n told (type_of (bare pous) d.declaration.ty.name))

  each_variable : (n : ℕ) → Told n → (ds : List Declared) → sum_by (variable_size (size n (world_of (bare pous))) (world_of (bare pous))) (map bare_variable ds) ≡ sum_by (weight n (sizes n (owners_of pous))) (map (typed (bare pous)) ds)
  each_variable n told [] = refl
  each_variable n told (d ∷ ds) =
      sum_by-cons (variable_size (size n (world_of (bare pous))) (world_of (bare pous))) (bare_variable d) (map bare_variable ds)
      ∙ ap₂ (λ (x y : ℕ). x + y) (one_variable n told d) (each_variable n told ds)
      ∙ sym (sum_by-cons (weight n (sizes n (owners_of pous))) (typed (bare pous) d) (map (typed (bare pous)) ds))

  pou_size : (n : ℕ) → Told n → (p : Pou) → sum_by (weight n (sizes n (owners_of pous))) (own_of (bare pous) p) ≡ size_in (suc n) p
  pou_size n told p = sym (ap (sum_by (variable_size (size n (world_of (bare pous))) (world_of (bare pous)))) (variables_bare p) ∙ each_variable n told (declared p))

  none : (ps : List Pou) → map (λ (ts : List Typed). 0) (map (own_of (bare pous)) ps) ≡ map (size_in 0) ps
  none [] = refl
  none (p ∷ ps) = ap (λ ns. 0 ∷ ns) (none ps)

  deeper : (n : ℕ) → Told n → (ps : List Pou) → map (λ (ts : List Typed). sum_by (weight n (sizes n (owners_of pous))) ts) (map (own_of (bare pous)) ps) ≡ map (size_in (suc n)) ps
  deeper n told [] = refl
  deeper n told (p ∷ ps) = ap₂ (λ (x : ℕ) xs. x ∷ xs) (pou_size n told p) (deeper n told ps)

  pub sizes_are : (n : ℕ) → sizes n (owners_of pous) ≡ map (size_in n) pous
  sizes_are zero = none pous
  sizes_are (suc n) = deeper n (sizes_are n) pous

-- ---- sizes that are capped

capped_by : (m n : ℕ) → cond (nat_le n m) n m ≤ m
capped_by m n = grind (arith, nat_tests)

pub capped_most : (n : ℕ) → capped n ≤ most
unfolding capped
capped_most n = capped_by most n

once : (m n : ℕ) → n ≤ m → cond (nat_le n m) n m ≡ n
once m n h = grind (arith, nat_tests)

pub within : (n : ℕ) → n ≤ most → capped n ≡ n
unfolding capped
within n h = once most n h

added_by : (m a b c d : ℕ) → cond (nat_le a m) a m ≡ cond (nat_le c m) c m → cond (nat_le b m) b m ≡ cond (nat_le d m) d m → cond (nat_le (a + b) m) (a + b) m ≡ cond (nat_le (c + d) m) (c + d) m
added_by m a b c d h k = grind (arith, nat_tests)

pub added : (a b c d : ℕ) → capped a ≡ capped c → capped b ≡ capped d → capped (a + b) ≡ capped (c + d)
unfolding capped
added a b c d h k = added_by most a b c d h k

pub capped_twice : (n : ℕ) → capped (capped n) ≡ capped n
capped_twice n = within (capped n) (capped_most n)

size_capped : (ls : List ℕ) (place : ℕ) → capped (size_at (map capped ls) place) ≡ capped (size_at ls place)
size_capped [] place = refl
size_capped (n ∷ ls) zero = capped_twice n
size_capped (n ∷ ls) (suc place) = size_capped ls place

one_more : (n : ℕ) → suc n ≡ 1 + n
one_more n = omega arith

type_capped : (n : ℕ) (ls : List ℕ) (t : VarType) → capped (type_weight n (map capped ls) t) ≡ capped (type_weight n ls t)
type_capped n ls type.Unknown = refl
type_capped n ls (type.Elementary t) = refl
type_capped n ls (type.Standard k) = refl
type_capped n ls (type.Block place) = ap capped (one_more (size_at (map capped ls) place)) ∙ added 1 (size_at (map capped ls) place) 1 (size_at ls place) refl (size_capped ls place) ∙ sym (ap capped (one_more (size_at ls place)))

weight_capped : (n : ℕ) (ls : List ℕ) (t : Typed) → capped (weight n (map capped ls) t) ≡ capped (weight n ls t)
weight_capped n ls t = by (is_kept t.variable.class)
  where
    by : (b : Bool) → capped (cond b (type_weight n (map capped ls) t.type) 0) ≡ capped (cond b (type_weight n ls t.type) 0)
    by true = type_capped n ls t.type
    by false = refl

sum_capped : (n : ℕ) (ls : List ℕ) (ts : List Typed) → capped (sum_by (weight n (map capped ls)) ts) ≡ capped (sum_by (weight n ls) ts)
sum_capped n ls [] = refl
sum_capped n ls (t ∷ ts) =
    ap capped (sum_by-cons (weight n (map capped ls)) t ts)
    ∙ added (weight n (map capped ls) t) (sum_by (weight n (map capped ls)) ts) (weight n ls t) (sum_by (weight n ls) ts) (weight_capped n ls t) (sum_capped n ls ts)
    ∙ sym (ap capped (sum_by-cons (weight n ls) t ts))

-- one level deeper
pub next_capped : (n : ℕ) (ls : List ℕ) (owners : List (List Typed)) → map (λ (ts : List Typed). capped (sum_by (weight n (map capped ls)) ts)) owners ≡ map capped (next_sizes n owners ls)
next_capped n ls [] = refl
next_capped n ls (ts ∷ owners) = ap₂ (λ (x : ℕ) xs. x ∷ xs) (sum_capped n ls ts) (next_capped n ls owners)

large_by : (m n : ℕ) → nat_lt m (cond (nat_le n (suc m)) n (suc m)) ≡ nat_lt m n
large_by m n = grind (arith, nat_tests)

large_one : (n : ℕ) → nat_lt max_text_leaves (capped n) ≡ nat_lt max_text_leaves n
unfolding capped
large_one n = large_by max_text_leaves n

pub large_are : (pous : List Pou) → map (nat_lt max_text_leaves) (map capped (sizes 18 (owners_of pous))) ≡ map (λ (p : Pou). is_large (bare pous) (bare_pou p)) pous
large_are pous = ap (λ (ls : List ℕ). map (nat_lt max_text_leaves) (map capped ls)) (sizes_are pous 18) ∙ each pous
  where
    each : (ps : List Pou) → map (nat_lt max_text_leaves) (map capped (map (size_in pous 18) ps)) ≡ map (λ (p : Pou). is_large (bare pous) (bare_pou p)) ps
    each [] = refl
    each (p ∷ ps) = ap₂ (λ (x : Bool) xs. x ∷ xs) (large_one (size_in pous 18 p)) (each ps)

-- ---- one variable more

grown_more : (size x rest : ℕ) → capped (capped (size + capped x) + rest) ≡ capped (size + (x + rest))
grown_more size x rest =
    let same : size + x + rest ≡ size + (x + rest) = omega arith in
    added (capped (size + capped x)) rest (size + x) rest (capped_twice (size + capped x) ∙ added size (capped x) size x refl (capped_twice x)) refl ∙ ap capped same

pub one_grows : {X : Type 0} (f : X → Typed) (w : Typed → ℕ) (xs : List X) (i : ℕ) (x : X) (size more after whole : ℕ) → i < length xs → x ≡ get_or xs i x → more ≡ capped (w (f x)) → after ≡ capped (size + more)
    → capped (size + sum_by w (map f (drop i xs))) ≡ whole → (capped (after + sum_by w (map f (drop (i + 1) xs))) ≡ whole) × (after ≤ most)
one_grows f w xs i x size more after whole less at weighs is h =
    let rest : ℕ = sum_by w (map f (drop (i + 1) xs)) in
    let same : after ≡ capped (size + capped (w (f x))) = is ∙ ap (λ (n : ℕ). capped (size + n)) weighs in (
      ap (λ (n : ℕ). capped (n + rest)) same
          ∙ grown_more size (w (f x)) rest
          ∙ ap (λ (n : ℕ). capped (size + n)) (sym (sum_by-cons w (f x) (map f (drop (i + 1) xs))))
          ∙ ap (λ y. capped (size + sum_by w (map f (y ∷ drop (i + 1) xs)))) at
          ∙ sym (at_drop_more (λ ys. capped (size + sum_by w (map f ys))) xs i x less)
          ∙ h,
      subst (λ (n : ℕ). n ≤ most) (sym is) (capped_most (size + more)),
    )

pub all_grown : {X : Type 0} (f : X → Typed) (w : Typed → ℕ) (xs : List X) (i : ℕ) (size whole : ℕ) → length xs ≤ i → size ≤ most → capped (size + sum_by w (map f (drop i xs))) ≡ whole → size ≡ whole
all_grown f w xs i size whole more few h =
    let none : size + 0 ≡ size = omega arith in
    sym (ap capped none ∙ within size few) ∙ sym (at_drop_all (λ ys. capped (size + sum_by w (map f ys))) xs i more) ∙ h

-- no sizes yet
pub all_small : (owners : List (List Typed)) → replicate (length owners) 0 ≡ map capped (sizes 0 owners)
unfolding capped
all_small [] = refl
all_small (ts ∷ owners) = ap (λ ns. 0 ∷ ns) (all_small owners)
