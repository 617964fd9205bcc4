-- A plan has one order of its instances, and its events one list of rows' places.
use Rattle.std.proofs.Common.{◌≡◌, ◌<◌, ◌≤◌, ◌+◌, ◌∙◌, ◌∷◌, ◌⊎◌, inl, inr, ℕ, suc, Bool, true, false, List, [], slice_index_or, refl, sym, ap, ap₂, subst, arith}
use Rattle.std.specs.Prelude.{◌&&◌, nat_eq, if◌then◌else◌}
use Rattle.std.specs.List.{sum_by}
use Rattle.std.specs.List.Sorted.{IsSorted}
use Rattle.std.specs.Ordering.{nat_cmp, ordering_then, is_lt, MatchOrdering}
use Rattle.std.specs.Cmp.{ranks}
use Rattle.std.specs.declared.cmp.Ordering.{Ordering}
use Rattle.std.specs.declared.cmp.Ordering.TheVariants.{Less, Equal, Greater}
use Rattle.std.proofs.lemmas.Bool.{and_parts, and_from, eqb-true, eq-eqb}
use Rattle.std.proofs.lemmas.List.Sums.{sum_by-cons}
use Rattle.std.proofs.lemmas.List.Sorted.{sum_by-IsPermutation}
use Rattle.plcx_types.specs.Lists.{Each}
use Rattle.plcx_tasks.specs.declared.planning.TaskPlan.{TaskPlan}
use Rattle.plcx_tasks.specs.declared.ticking.TaskEvent.{TaskEvent}
use Rattle.plcx_tasks.specs.Orders.{ranks_of, places_from, AreRowPlaces}

-- two numbers by what they are compared as
compared : (x y : ℕ) (o : Ordering) → nat_cmp x y ≡ o → MatchOrdering o (x < y) (x ≡ y) (y < x)
compared x y o e = subst (λ r. MatchOrdering r (x < y) (x ≡ y) (y < x)) e (ranks x y)

-- ranks by three numbers, which tell them apart
module _ {R : Type 0} (priority task instance : R → ℕ) (by_parts : (a b : R) → priority a ≡ priority b → task a ≡ task b → instance a ≡ instance b → a ≡ b) where
  abbrev cmp : R → R → Ordering
  cmp a b = ordering_then (nat_cmp (priority a) (priority b)) (ordering_then (nat_cmp (task a) (task b)) (nat_cmp (instance a) (instance b)))

  -- a rank is another or stands before it
  abbrev IsLast : R → R → Type 0
  IsLast a b = (task a < task b) ⊎ ((task a ≡ task b) × (instance a ≤ instance b))

  abbrev IsBefore : R → R → Type 0
  IsBefore a b = (priority a < priority b) ⊎ ((priority a ≡ priority b) × IsLast a b)

  last_of : (a b : R) → is_lt (ordering_then (nat_cmp (task b) (task a)) (nat_cmp (instance b) (instance a))) ≡ false → IsLast a b
  last_of a b h = by (nat_cmp (task b) (task a)) refl h
    where
      least : (o : Ordering) → nat_cmp (instance b) (instance a) ≡ o → is_lt o ≡ false → instance a ≤ instance b
      least Less e k = absurd (cc)
      least Equal e k = let z = compared (instance b) (instance a) Equal e in omega arith
      least Greater e k = let z = compared (instance b) (instance a) Greater e in omega arith

      by : (o : Ordering) → nat_cmp (task b) (task a) ≡ o → is_lt (ordering_then o (nat_cmp (instance b) (instance a))) ≡ false → IsLast a b
      by Less e k = absurd (cc)
      by Equal e k = inr (sym (compared (task b) (task a) Equal e), least (nat_cmp (instance b) (instance a)) refl k)
      by Greater e k = inl (compared (task b) (task a) Greater e)

  before_of : (a b : R) → is_lt (cmp b a) ≡ false → IsBefore a b
  before_of a b h = by (nat_cmp (priority b) (priority a)) refl h
    where
      by : (o : Ordering) → nat_cmp (priority b) (priority a) ≡ o → is_lt (ordering_then o (ordering_then (nat_cmp (task b) (task a)) (nat_cmp (instance b) (instance a)))) ≡ false → IsBefore a b
      by Less e k = absurd (cc)
      by Equal e k = inr (sym (compared (priority b) (priority a) Equal e), last_of a b k)
      by Greater e k = inl (compared (priority b) (priority a) Greater e)

  itself : (a : R) → IsBefore a a
  itself a = inr (refl, inr (refl, omega arith))

  last_on : (a b c : R) → IsLast a b → IsLast b c → IsLast a c
  last_on a b c (inl p) (inl q) = inl (omega arith)
  last_on a b c (inl p) (inr q) = let e = q.0 in inl (omega arith)
  last_on a b c (inr p) (inl q) = let e = p.0 in inl (omega arith)
  last_on a b c (inr p) (inr q) = let x = p.1 in let y = q.1 in inr (p.0 ∙ q.0, omega arith)

  before_on : (a b c : R) → IsBefore a b → IsBefore b c → IsBefore a c
  before_on a b c (inl p) (inl q) = inl (omega arith)
  before_on a b c (inl p) (inr q) = let e = q.0 in inl (omega arith)
  before_on a b c (inr p) (inl q) = let e = p.0 in inl (omega arith)
  before_on a b c (inr p) (inr q) = inr (p.0 ∙ q.0, last_on a b c p.1 q.1)

  last_same : (a b : R) → IsLast a b → IsLast b a → (task a ≡ task b) × (instance a ≡ instance b)
  last_same a b (inl p) (inl q) = absurd (omega arith)
  last_same a b (inl p) (inr q) = let e = q.0 in absurd (omega arith)
  last_same a b (inr p) (inl q) = let e = p.0 in absurd (omega arith)
  last_same a b (inr p) (inr q) = let x = p.1 in let y = q.1 in (p.0, omega arith)

  before_same : (a b : R) → IsBefore a b → IsBefore b a → a ≡ b
  before_same a b (inl p) (inl q) = absurd (omega arith)
  before_same a b (inl p) (inr q) = let e = q.0 in absurd (omega arith)
  before_same a b (inr p) (inl q) = let e = p.0 in absurd (omega arith)
  before_same a b (inr p) (inr q) = let r = last_same a b p.1 q.1 in by_parts a b p.0 r.0 r.1

  -- the first of a sorted list stands before all
  tail_sorted : (x : R) (xs : List R) → IsSorted cmp (x ∷ xs) → IsSorted cmp xs
  tail_sorted x xs h k d low lt =
      let next : suc k + 1 ≡ suc (k + 1) = omega arith in
      subst (λ n. is_lt (cmp (slice_index_or (x ∷ xs) n d) (slice_index_or xs k d)) ≡ false) next (h (suc k) d (omega arith) (omega arith))

  all_before : (a x : R) (xs : List R) → IsBefore a x → IsSorted cmp (x ∷ xs) → Each (IsBefore a) xs
  all_before a x [] le h = tt
  all_before a x (y ∷ xs) le h =
      let next : IsBefore a y = before_on a x y le (before_of x y (h 0 x (omega arith) (omega arith))) in
      (next, all_before a y xs next (tail_sorted x (y ∷ xs) h))

  -- both lists have the same ranks, however they are counted
  abbrev AreSameRanks : List R → List R → Type 0
  AreSameRanks xs ys = (f : R → ℕ) → sum_by f xs ≡ sum_by f ys

  abbrev same_rank : R → R → Bool
  same_rank a b = nat_eq (priority a) (priority b) && (nat_eq (task a) (task b) && nat_eq (instance a) (instance b))

  abbrev count : R → R → ℕ
  count a r = if same_rank r a then 1 else 0

  same_is : (a b : R) → same_rank a b ≡ true → a ≡ b
  same_is a b h =
      let p = and_parts (nat_eq (priority a) (priority b)) (nat_eq (task a) (task b) && nat_eq (instance a) (instance b)) h in
      let q = and_parts (nat_eq (task a) (task b)) (nat_eq (instance a) (instance b)) p.1 in
      by_parts a b (eqb-true _ _ p.0) (eqb-true _ _ q.0) (eqb-true _ _ q.1)

  same_self : (a : R) → same_rank a a ≡ true
  same_self a = and_from _ _ (eq-eqb (priority a) (priority a) refl) (and_from _ _ (eq-eqb (task a) (task a) refl) (eq-eqb (instance a) (instance a) refl))

  -- what is counted among ranks has what all of them have
  counted : (P : R → Type 0) (a : R) (xs : List R) → Each P xs → 1 ≤ sum_by (count a) xs → P a
  counted P a [] h le = absurd (let z = le in omega arith)
  counted P a (x ∷ xs) h le = by (same_rank x a) refl (λ more. counted P a xs h.1 more)
    where
      by : (b : Bool) → same_rank x a ≡ b → (1 ≤ sum_by (count a) xs → P a) → P a
      by true e rest = subst P (same_is x a e) h.0
      by false e rest =
          let none : count a x ≡ 0 = ap (λ b. if b then 1 else 0) e in
          let all = sum_by-cons (count a) x xs in
          rest (omega arith)

  first_counts : (a : R) (xs : List R) → 1 ≤ sum_by (count a) (a ∷ xs)
  first_counts a xs =
      let one : count a a ≡ 1 = ap (λ b. if b then 1 else 0) (same_self a) in
      let all = sum_by-cons (count a) a xs in
      omega arith

  one_sorted : (xs ys : List R) → IsSorted cmp xs → IsSorted cmp ys → AreSameRanks xs ys → xs ≡ ys
  one_sorted [] [] sx sy same = refl
  one_sorted [] (y ∷ ys) sx sy same = absurd (let a = same (count y) in let b = first_counts y ys in omega arith)
  one_sorted (x ∷ xs) [] sx sy same = absurd (let a = same (count x) in let b = first_counts x xs in omega arith)
  one_sorted (x ∷ xs) (y ∷ ys) sx sy same =
      let x_first : Each (IsBefore x) (x ∷ xs) = (itself x, all_before x x xs (itself x) sx) in
      let y_first : Each (IsBefore y) (y ∷ ys) = (itself y, all_before y y ys (itself y) sy) in
      let y_in : 1 ≤ sum_by (count y) (x ∷ xs) = (let a = same (count y) in let b = first_counts y ys in omega arith) in
      let x_in : 1 ≤ sum_by (count x) (y ∷ ys) = (let a = same (count x) in let b = first_counts x xs in omega arith) in
      let first : x ≡ y = before_same x y (counted (IsBefore x) y (x ∷ xs) x_first y_in) (counted (IsBefore y) x (y ∷ ys) y_first x_in) in
      ap₂ (λ (z : R) (zs : List R). z ∷ zs) first (one_sorted xs ys (tail_sorted x xs sx) (tail_sorted y ys sy) (λ f. rest f first (same f)))
    where
      rest : (f : R → ℕ) → x ≡ y → sum_by f (x ∷ xs) ≡ sum_by f (y ∷ ys) → sum_by f xs ≡ sum_by f ys
      rest f first a =
          let b = sum_by-cons f x xs in
          let c = sum_by-cons f y ys in
          let e : f x ≡ f y = ap f first in
          omega arith

pub one_places : (plan : TaskPlan) (events : List TaskEvent) (ps qs : List (ℕ × ℕ)) → AreRowPlaces plan events ps → AreRowPlaces plan events qs → ps ≡ qs
one_places plan events ps qs h k =
    let same : h.order ≡ k.order =
    one_sorted (λ r. r.priority) (λ r. r.task) (λ r. r.instance)
    (λ a b p t i. ap₂ (λ x y. record { priority = x; task = y; instance = a.instance }) p t ∙ ap (λ x. record { priority = b.priority; task = b.task; instance = x }) i)
    h.order k.order h.is.sorted k.is.sorted (λ f. sum_by-IsPermutation f (ranks_of plan) h.order h.is.all ∙ sym (sum_by-IsPermutation f (ranks_of plan) k.order k.is.all)) in
    h.places_are ∙ ap (λ o. places_from plan o 1 [] events) same ∙ sym k.places_are
