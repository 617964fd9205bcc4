-- The first of what is broken.
use Rattle.std.proofs.Common.{◌≡◌, ℕ, ◌+◌, ◌*◌, ◌≤◌, ◌<◌, ◌⊎◌, inl, inr, Bool, true, false, cond, ◌&&◌, ◌||◌, List, [], ◌∷◌, ◌++◌, Option, Some, None, refl, sym, ap, ap₂, subst, ◌∙◌, arith}
use Rattle.std.specs.Prelude.{nat_eq, nat_lt, nat_le, if◌then◌else◌}
use Rattle.std.specs.List.{Contains}
use Rattle.std.proofs.lemmas.Bool.{cases_order, leb-true, leb-false}
use Rattle.std.proofs.lemmas.Bool.Decides.{nat_tests}
use Rattle.plcx_types.specs.Lists.{Each}
use Rattle.plcx_meaning.proofs.Lists.{contains_first, contains_later, each_at, each_weaker}
use Rattle.plcx_conditions.specs.declared.broken.Condition.{Condition}
use Rattle.plcx_conditions.specs.declared.broken.Condition.TheVariants as c
use Rattle.plcx_conditions.specs.declared.broken.Broken.{Broken}
use Rattle.plcx_conditions.specs.Broken.{broken, rank, ComesFirst, IsFirst}
use Rattle.plcx_conditions.specs.First.{comes_first, sooner, first_of}

-- places and conditions in one number
key : Broken → ℕ
key b = 4 * b.at + rank b.condition

small_rank : (k : Condition) → rank k ≤ 3
small_rank c.Name = omega arith
small_rank c.Types = omega arith
small_rank c.Recursion = omega arith
small_rank c.Literal = omega arith

by_numbers : (a r b s : ℕ) → r ≤ 3 → s ≤ 3 → (nat_lt a b || nat_eq a b && nat_le r s) ≡ nat_le (4 * a + r) (4 * b + s)
by_numbers a r b s h k = grind (arith, nat_tests)

comes_is : (a b : Broken) → comes_first a b ≡ nat_le (key a) (key b)
unfolding key
comes_is a b = by_numbers a.at (rank a.condition) b.at (rank b.condition) (small_rank a.condition) (small_rank b.condition)

comes_related : (a b : Broken) → key a ≤ key b → ComesFirst a b
unfolding key
comes_related a b h = by_numbers' a.at (rank a.condition) b.at (rank b.condition) (small_rank a.condition) (small_rank b.condition) h
  where
    by_numbers' : (x r y s : ℕ) → r ≤ 3 → s ≤ 3 → 4 * x + r ≤ 4 * y + s → (x < y) ⊎ ((x ≡ y) × (r ≤ s))
    by_numbers' x r y s p q le = elim (cases_order x y) [ inl e ↦ inr (e, omega arith) | inr o ↦ elim o [ inl less ↦ inl less | inr more ↦ absurd (omega arith) ] ]

-- ---- the first of both

joined : (a b d : Broken) (ab bd ad : Bool) → nat_le (key a) (key b) ≡ ab → nat_le (key b) (key d) ≡ bd → nat_le (key a) (key d) ≡ ad
    → cond ab (cond ad (Some a) (Some d)) (cond bd (Some b) (Some d)) ≡ cond bd (cond ab (Some a) (Some b)) (cond ad (Some a) (Some d))
joined a b d true true true p q r = refl
joined a b d true true false p q r = let x = leb-true _ _ p in let y = leb-true _ _ q in let z = leb-false _ _ r in absurd (omega arith)
joined a b d true false ad p q r = refl
joined a b d false true ad p q r = refl
joined a b d false false true p q r = let x = leb-false _ _ p in let y = leb-false _ _ q in let z = leb-true _ _ r in absurd (omega arith)
joined a b d false false false p q r = refl

as_keys : (a b : Broken) → (if comes_first a b then Some a else Some b) ≡ cond (nat_le (key a) (key b)) (Some a) (Some b)
as_keys a b = ap (λ t. cond t (Some a) (Some b)) (comes_is a b)

outer : (a b d : Broken) (t : Bool) → sooner (cond t (Some a) (Some b)) (Some d) ≡ cond t (cond (nat_le (key a) (key d)) (Some a) (Some d)) (cond (nat_le (key b) (key d)) (Some b) (Some d))
unfolding sooner
outer a b d true = as_keys a d
outer a b d false = as_keys b d

inner : (a b d : Broken) (t : Bool) → sooner (Some a) (cond t (Some b) (Some d)) ≡ cond t (cond (nat_le (key a) (key b)) (Some a) (Some b)) (cond (nat_le (key a) (key d)) (Some a) (Some d))
unfolding sooner
inner a b d true = as_keys a b
inner a b d false = as_keys a d

-- which of three comes first doesn't depend on the order in which they are looked at
pub sooner_assoc : (o p q : Option Broken) → sooner (sooner o p) q ≡ sooner o (sooner p q)
unfolding sooner
sooner_assoc None p q = refl
sooner_assoc (Some a) None q = refl
sooner_assoc (Some a) (Some b) None = by_test (comes_first a b)
  where
    by_test : (t : Bool) → sooner (cond t (Some a) (Some b)) None ≡ cond t (Some a) (Some b)
    by_test true = refl
    by_test false = refl
sooner_assoc (Some a) (Some b) (Some d) =
    ap (λ o. sooner o (Some d)) (as_keys a b) ∙ outer a b d (nat_le (key a) (key b))
    ∙ joined a b d (nat_le (key a) (key b)) (nat_le (key b) (key d)) (nat_le (key a) (key d)) refl refl refl
    ∙ sym (ap (sooner (Some a)) (as_keys b d) ∙ inner a b d (nat_le (key b) (key d)))

pub sooner_none : (o : Option Broken) → sooner o None ≡ o
unfolding sooner
sooner_none None = refl
sooner_none (Some b) = refl

-- the first of two lists
pub first_append : (xs ys : List Broken) → first_of (xs ++ ys) ≡ sooner (first_of xs) (first_of ys)
unfolding first_of sooner
first_append [] ys = by (first_of ys)
  where
    by : (o : Option Broken) → o ≡ sooner None o
    by o = refl
first_append (x ∷ xs) ys = ap (sooner (Some x)) (first_append xs ys) ∙ sym (sooner_assoc (Some x) (first_of xs) (first_of ys))

-- ---- the first of all

record Least (all : List Broken) (b : Broken) : Type 0 where
  among : Contains all b
  least : Each (λ (d : Broken). key b ≤ key d) all

each_more : (b d : Broken) (all : List Broken) → key b ≤ key d → Each (λ (e : Broken). key d ≤ key e) all → Each (λ (e : Broken). key b ≤ key e) all
each_more b d all h = each_weaker (λ (e : Broken). key d ≤ key e) (λ (e : Broken). key b ≤ key e) all (λ e k. omega arith)

first_less : (x : Broken) (all : List Broken) (d b : Broken) (t : Bool) → nat_le (key x) (key d) ≡ t → Least all d → cond t (Some x) (Some d) ≡ Some b → Least (x ∷ all) b
first_less x all d b true e h is = let same : x ≡ b = cc in subst (Least (x ∷ all)) same (record { among = contains_first x all; least = (omega arith, each_more x d all (leb-true _ _ e) h.least) })
first_less x all d b false e h is =
    let same : d ≡ b = cc in
    let less = leb-false _ _ e in
    subst (Least (x ∷ all)) same (record { among = contains_later x all d h.among; least = (omega arith, h.least) })

some_first : (x : Broken) (o : Option Broken) → sooner (Some x) o ≡ None → ⊥
unfolding sooner
some_first x None h = absurd (cc)
some_first x (Some d) h = by (comes_first x d) h
  where
    by : (t : Bool) → cond t (Some x) (Some d) ≡ None → ⊥
    by true e = absurd (cc)
    by false e = absurd (cc)

-- nothing comes first where there is nothing
pub nothing : (all : List Broken) → first_of all ≡ None → all ≡ []
unfolding first_of
nothing [] h = refl
nothing (x ∷ all) h = absurd (some_first x (first_of all) h)

first_least : (all : List Broken) (b : Broken) → first_of all ≡ Some b → Least all b
unfolding first_of sooner
first_least [] b h = absurd (cc)
first_least (x ∷ all) b h = by (first_of all) refl h (λ d e. first_least all d e)
  where
    by : (o : Option Broken) → first_of all ≡ o → sooner (Some x) o ≡ Some b → ((d : Broken) → first_of all ≡ Some d → Least all d) → Least (x ∷ all) b
    by None e k rest = let same : x ≡ b = cc in let none = nothing all e in subst (Least (x ∷ all)) same (subst (λ ys. Least (x ∷ ys) x) (sym none) (record { among = contains_first x []; least = (omega arith, tt) }))
    by (Some d) e k rest = first_less x all d b (nat_le (key x) (key d)) refl (rest d e) (sym (as_keys x d) ∙ k)

pub first_is : (all : List Broken) (b : Broken) → first_of all ≡ Some b → IsFirst all b
first_is all b h = let l = first_least all b h in record { among = l.among; first = each_weaker (λ (d : Broken). key b ≤ key d) (ComesFirst b) all (λ d k. comes_related b d k) l.least }

-- there is one where there is something, and one alone
pub some_is : (all : List Broken) → (all ≡ []) ⊎ ((b : Broken) × IsFirst all b)
some_is all = by (first_of all) refl
  where
    by : (o : Option Broken) → first_of all ≡ o → (all ≡ []) ⊎ ((b : Broken) × IsFirst all b)
    by None e = inl (nothing all e)
    by (Some b) e = inr (b, first_is all b e)

same_rank : (k l : Condition) → rank k ≡ rank l → k ≡ l
same_rank c.Name c.Name h = refl
same_rank c.Name c.Types h = absurd (omega arith)
same_rank c.Name c.Recursion h = absurd (omega arith)
same_rank c.Name c.Literal h = absurd (omega arith)
same_rank c.Types c.Name h = absurd (omega arith)
same_rank c.Types c.Types h = refl
same_rank c.Types c.Recursion h = absurd (omega arith)
same_rank c.Types c.Literal h = absurd (omega arith)
same_rank c.Recursion c.Name h = absurd (omega arith)
same_rank c.Recursion c.Types h = absurd (omega arith)
same_rank c.Recursion c.Recursion h = refl
same_rank c.Recursion c.Literal h = absurd (omega arith)
same_rank c.Literal c.Name h = absurd (omega arith)
same_rank c.Literal c.Types h = absurd (omega arith)
same_rank c.Literal c.Recursion h = absurd (omega arith)
same_rank c.Literal c.Literal h = refl

both_first : (b d : Broken) → ComesFirst b d → ComesFirst d b → b ≡ d
both_first b d (inl x) (inl y) = absurd (omega arith)
both_first b d (inl x) (inr y) = let e = y.0 in absurd (omega arith)
both_first b d (inr x) (inl y) = let e = x.0 in absurd (omega arith)
both_first b d (inr x) (inr y) =
    let place = x.0 in
    let le = x.1 in let ge = y.1 in
    let condition = same_rank b.condition d.condition (omega arith) in
    ap₂ broken condition place

pub one_first : (all : List Broken) (b d : Broken) → IsFirst all b → IsFirst all d → b ≡ d
one_first all b d h k = both_first b d (each_at (ComesFirst b) all d h.first k.among) (each_at (ComesFirst d) all b k.first h.among)
