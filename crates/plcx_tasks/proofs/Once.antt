-- Each instance stands once among the ranks, in whatever order.
use Rattle.std.proofs.Common.{◌≡◌, ◌+◌, ◌<◌, ◌∙◌, ℕ, zero, suc, Bool, true, false, nat_eq, List, [], ◌∷◌, Option, Some, None, length, refl, sym, ap, subst, arith, if◌then◌else◌}
use Rattle.std.specs.Prelude.{filter, slice_get, IsPermutation}
use Rattle.std.specs.List.{All, sum_by}
use Rattle.std.proofs.lemmas.Bool.{eq-eqb, ne_eqb}
use Rattle.std.proofs.lemmas.List.Sums.{sum_by-cons}
use Rattle.std.proofs.lemmas.List.Sorted.{sum_by-IsPermutation, All-permutation}
use Rattle.plcx_types.specs.Lists.{Each}
use Rattle.plcx_tasks.specs.declared.planning.Task.{Task}
use Rattle.plcx_tasks.specs.declared.planning.Instance.{Instance}
use Rattle.plcx_tasks.specs.declared.planning.TaskPlan.{TaskPlan}
use Rattle.plcx_tasks.specs.declared.ranking.Rank.{Rank}
use Rattle.plcx_tasks.specs.Orders.{rank_of, ranks_from, ranks_of}
use Rattle.plcx_tasks.specs.Steps.{AreWithin}
use Rattle.std.proofs.lemmas.Option.{slice_get_within}

-- the rank is of the instance of this number
abbrev pub is_of : ℕ → Rank → Bool
is_of i r = nat_eq r.instance i

-- the ranks of an instance, if it is there
abbrev pub rank_if : List Task → ℕ → Option Instance → List Rank
rank_if tasks i None = []
rank_if tasks i (Some x) = rank_of tasks i x ∷ []

none_below : (tasks : List Task) (j k : ℕ) (xs : List Instance) → j < k → filter (is_of j) (ranks_from tasks k xs) ≡ []
none_below tasks j k [] lt = refl
none_below tasks j k (x ∷ xs) lt = let no : nat_eq k j ≡ false = ne_eqb k j (λ e. omega arith) in rw no (none_below tasks j (k + 1) xs (omega arith))

once_from : (tasks : List Task) (i k n : ℕ) (xs : List Instance) → n ≡ i + k → filter (is_of n) (ranks_from tasks k xs) ≡ rank_if tasks n (slice_get xs i)
once_from tasks i k n [] is = refl
once_from tasks zero k n (x ∷ xs) is =
    let same : k ≡ n = omega (arith, is) in
    let yes : nat_eq k k ≡ true = eq-eqb k k refl in
    let here : filter (is_of k) (ranks_from tasks k (x ∷ xs)) ≡ rank_of tasks k x ∷ [] = rw yes (ap (λ rs. rank_of tasks k x ∷ rs) (none_below tasks k (k + 1) xs (omega arith))) in
    subst (λ m. filter (is_of m) (ranks_from tasks k (x ∷ xs)) ≡ rank_of tasks m x ∷ []) same here
once_from tasks (suc i) k n (x ∷ xs) is =
    let no : nat_eq k n ≡ false = ne_eqb k n (λ e. omega (arith, is, e)) in
    rw no (once_from tasks i (k + 1) n xs (omega (arith, is)))

pub once_in_ranks : (plan : TaskPlan) (i : ℕ) → filter (is_of i) (ranks_of plan) ≡ rank_if plan.tasks i (slice_get plan.instances i)
once_in_ranks plan i = once_from plan.tasks i 0 i plan.instances (omega arith)

-- what holds of all items, by their places and one by one
all_each : {X : Type 0} (P : X → Type 0) (xs : List X) → All P xs → Each P xs
all_each P [] h = tt
all_each P (x ∷ xs) h = (h zero x (omega arith), all_each P xs (λ k d lt. h (suc k) d (omega (arith, lt))))

each_all : {X : Type 0} (P : X → Type 0) (xs : List X) → Each P xs → All P xs
each_all P [] h k d lt = absurd (omega (arith, lt))
each_all P (x ∷ xs) h zero d lt = h.0
each_all P (x ∷ xs) h (suc k) d lt = each_all P xs h.1 k d (omega (arith, lt))

moved_each : {X : Type 0} (P : X → Type 0) (xs ys : List X) → IsPermutation xs ys → Each P xs → Each P ys
moved_each P xs ys moved all = all_each P ys (All-permutation P xs ys moved (each_all P xs all))

-- one for what passes
abbrev count_one : {X : Type 0} → (X → Bool) → X → ℕ
count_one p x = if p x then 1 else 0

counted : {X : Type 0} (b : Bool) (x : X) (xs : List X) (n : ℕ) → length xs ≡ n → length (if b then x ∷ xs else xs) ≡ (if b then 1 else 0) + n
counted true x xs n h = omega (arith, h)
counted false x xs n h = let same : n ≡ 0 + n = omega arith in h ∙ same

filter_count : {X : Type 0} (p : X → Bool) (xs : List X) → length (filter p xs) ≡ sum_by (count_one p) xs
filter_count p [] = refl
filter_count p (x ∷ xs) = counted (p x) x (filter p xs) (sum_by (count_one p) xs) (filter_count p xs) ∙ sym (sum_by-cons (count_one p) x xs)

same_count : {X : Type 0} (p : X → Bool) (xs ys : List X) → IsPermutation xs ys → length (filter p ys) ≡ length (filter p xs)
same_count p xs ys moved = filter_count p ys ∙ sum_by-IsPermutation (count_one p) xs ys moved ∙ sym (filter_count p xs)

-- what holds of all that pass a test, in the list itself
passed : {X : Type 0} (p : X → Bool) (Q : X → Type 0) (x : X) (xs : List X) → (b : Bool) → p x ≡ b → Each Q (if b then x ∷ xs else xs) → (p x ≡ true → Q x) × Each Q xs
passed p Q x xs true is all = (λ _. all.0, all.1)
passed p Q x xs false is all = (λ yes. absurd (let no : true ≡ false = sym yes ∙ is in cc), all)

all_from_filter : {X : Type 0} (p : X → Bool) (Q : X → Type 0) (xs : List X) → Each Q (filter p xs) → Each (λ x. p x ≡ true → Q x) xs
all_from_filter p Q [] all = tt
all_from_filter p Q (x ∷ xs) all = let here = passed p Q x (filter p xs) (p x) refl all in (here.0, all_from_filter p Q xs here.1)

kept : {X : Type 0} (p : X → Bool) (Q : X → Type 0) (x : X) (xs : List X) → (b : Bool) → p x ≡ b → (p x ≡ true → Q x) → Each Q xs → Each Q (if b then x ∷ xs else xs)
kept p Q x xs true is here all = (here is, all)
kept p Q x xs false is here all = all

all_to_filter : {X : Type 0} (p : X → Bool) (Q : X → Type 0) (xs : List X) → Each (λ x. p x ≡ true → Q x) xs → Each Q (filter p xs)
all_to_filter p Q [] all = tt
all_to_filter p Q (x ∷ xs) all = kept p Q x (filter p xs) (p x) refl all.0 (all_to_filter p Q xs all.1)

single : {X : Type 0} (v : X) (xs : List X) → length xs ≡ 1 → Each (λ x. x ≡ v) xs → xs ≡ v ∷ []
single v [] one all = absurd (cc)
single v (x ∷ []) one all = ap (λ y. y ∷ []) all.0
single v (x ∷ y ∷ xs) one all = absurd (let few : suc (suc (length xs)) ≡ 1 = one in omega (arith, few))

nothing : {X : Type 0} (xs : List X) → length xs ≡ 0 → xs ≡ []
nothing [] none = refl
nothing (x ∷ xs) none = absurd (cc)

-- what passes a test is one and the same, in whatever order
pub same_one : {X : Type 0} (p : X → Bool) (v : X) (xs ys : List X) → IsPermutation xs ys → filter p xs ≡ v ∷ [] → filter p ys ≡ v ∷ []
same_one p v xs ys moved is =
    let those : Each (λ x. x ≡ v) (filter p xs) = rw is (refl, tt) in
    single v (filter p ys) (same_count p xs ys moved ∙ ap length is)
    (all_to_filter p (λ x. x ≡ v) ys (moved_each (λ x. p x ≡ true → x ≡ v) xs ys moved (all_from_filter p (λ x. x ≡ v) xs those)))

pub same_none : {X : Type 0} (p : X → Bool) (xs ys : List X) → IsPermutation xs ys → filter p xs ≡ [] → filter p ys ≡ []
same_none p xs ys moved is = nothing (filter p ys) (same_count p xs ys moved ∙ ap length is)

found : (plan : TaskPlan) (order : List Rank) (i : ℕ) → IsPermutation (ranks_of plan) order → (o : Option Instance) → filter (is_of i) (ranks_of plan) ≡ rank_if plan.tasks i o → filter (is_of i) order ≡ rank_if plan.tasks i o
found plan order i moved None is = same_none (is_of i) (ranks_of plan) order moved is
found plan order i moved (Some x) is = same_one (is_of i) (rank_of plan.tasks i x) (ranks_of plan) order moved is

pub once_in_order : (plan : TaskPlan) (order : List Rank) (i : ℕ) → IsPermutation (ranks_of plan) order → filter (is_of i) order ≡ rank_if plan.tasks i (slice_get plan.instances i)
once_in_order plan order i moved = found plan order i moved (slice_get plan.instances i) (once_in_ranks plan i)

-- a rank is that of an instance of the plan
pub record IsRank (xs : List Instance) (k : ℕ) (r : Rank) : Type 0 where
  pub place : ℕ
  pub x : Instance
  pub instance_is : r.instance ≡ place + k
  pub there : slice_get xs place ≡ Some x
  pub task_is : r.task ≡ x.task

later : (x : Instance) (xs : List Instance) (k : ℕ) (rs : List Rank) → Each (IsRank xs (k + 1)) rs → Each (IsRank (x ∷ xs) k) rs
later x xs k [] all = tt
later x xs k (r ∷ rs) all = (record { place = suc all.0.place; x = all.0.x; instance_is = all.0.instance_is ∙ omega arith; there = all.0.there; task_is = all.0.task_is }, later x xs k rs all.1)

all_ranks : (tasks : List Task) (k : ℕ) (xs : List Instance) → Each (IsRank xs k) (ranks_from tasks k xs)
all_ranks tasks k [] = tt
all_ranks tasks k (x ∷ xs) = (record { place = 0; x = x; instance_is = omega arith; there = refl; task_is = refl }, later x xs k (ranks_from tasks (k + 1) xs) (all_ranks tasks (k + 1) xs))

pub ranks_are : (plan : TaskPlan) → Each (IsRank plan.instances 0) (ranks_of plan)
ranks_are plan = all_ranks plan.tasks 0 plan.instances

pub order_is : (plan : TaskPlan) (order : List Rank) → IsPermutation (ranks_of plan) order → Each (IsRank plan.instances 0) order
order_is plan order moved = moved_each (IsRank plan.instances 0) (ranks_of plan) order moved (ranks_are plan)

within_all : (xs : List Instance) (n : ℕ) → n ≡ length xs → (rs : List Rank) → Each (IsRank xs 0) rs → Each (AreWithin n) rs
within_all xs n long [] all = tt
within_all xs n long (r ∷ rs) all =
    let low : all.0.place < length xs = slice_get_within xs all.0.place all.0.x all.0.there in
    let at = all.0.instance_is in
    (omega (arith, low, at, long), within_all xs n long rs all.1)

-- the ranks are of so many instances as there are
pub order_within : (plan : TaskPlan) (order : List Rank) (n : ℕ) → n ≡ length plan.instances → IsPermutation (ranks_of plan) order → Each (AreWithin n) order
order_within plan order n long moved = within_all plan.instances n long order (order_is plan order moved)

pub ranks_within : (plan : TaskPlan) (ranks : List Rank) (n : ℕ) → n ≡ length plan.instances → ranks ≡ ranks_of plan → Each (AreWithin n) ranks
ranks_within plan ranks n long is = subst (Each (AreWithin n)) (sym is) (within_all plan.instances n long (ranks_of plan) (ranks_are plan))
