-- The steps of events are, to each instance, its own events, and their places are those of the rows.
use Rattle.std.proofs.Common.{◌≡◌, ◌<◌, ◌+◌, ◌∙◌, ℕ, ℤ, Bool, true, false, nat_eq, List, [], ◌∷◌, ◌++◌, Option, Some, None, length, map, refl, sym, ap, ap₂, subst, if◌then◌else◌}
use Rattle.std.specs.Prelude.{filter, slice_get}
use Rattle.std.specs.List.{flat_map}
use Rattle.std.proofs.lemmas.Bool.{eq-eqb}
use Rattle.std.proofs.lemmas.Grind.{flat_map-append}
use Rattle.std.proofs.lemmas.List.{map-append, append-nil}
use Rattle.plcx_types.specs.Lists.{Each}
use Rattle.plcx_scan.specs.Events.{Event, Warm, Cold}
use Rattle.plcx_tasks.specs.declared.planning.Task.{Task}
use Rattle.plcx_tasks.specs.declared.planning.Instance.{Instance}
use Rattle.plcx_tasks.specs.declared.planning.TaskPlan.{TaskPlan}
use Rattle.plcx_tasks.specs.declared.ticking.TaskInput.{TaskInput}
use Rattle.plcx_tasks.specs.declared.ticking.TaskEvent.{TaskEvent}
use Rattle.plcx_tasks.specs.declared.ticking.TaskEvent.TheVariants as event
use Rattle.plcx_tasks.specs.declared.ranking.Rank.{Rank}
use Rattle.plcx_tasks.specs.declared.scheduling.OwnEvent.TheVariants as own
use Rattle.plcx_tasks.specs.declared.scheduling.Restart.{Restart}
use Rattle.plcx_tasks.specs.declared.scheduling.Restart.TheVariants as restart
use Rattle.plcx_tasks.specs.declared.scheduling.Step.{Step}
use Rattle.plcx_tasks.specs.Tasks.{runs, given, waiting, own_event, own_from, own_if, own_events}
use Rattle.plcx_tasks.specs.Orders.{rank_of, ranks_of, IsInOrder, told_at, row_place, places_from, AreRowPlaces}
use Rattle.plcx_tasks.specs.Steps.{event_of, own_of, own_in, step_of, step_place, scan_at, restart_at, steps_at, steps_from, AreSteps, AreWithin, AreStepsWithin}
use Rattle.plcx_tasks.proofs.Once.{is_of, rank_if, once_in_ranks, once_in_order, order_within, ranks_within}

-- what the event is to an instance, if it is there
abbrev pub event_if : List Task → ℕ → List TaskEvent → TaskEvent → Option Instance → List Event
event_if tasks i before e None = []
event_if tasks i before e (Some x) = own_event tasks x.task i before e

-- and events
abbrev pub events_if : List Task → ℕ → List TaskEvent → List TaskEvent → Option Instance → List Event
events_if tasks i before es None = []
events_if tasks i before es (Some x) = own_from tasks x.task i before es

-- only the ranks of an instance give steps of it
module _ (f : Rank → List Step) (i : ℕ) (apart : (r : Rank) → nat_eq r.instance i ≡ false → own_in (f r) i ≡ []) where
  one_more : (r : Rank) (rs : List Rank) (b : Bool) → nat_eq r.instance i ≡ b → own_in (flat_map f rs) i ≡ own_in (flat_map f (filter (is_of i) rs)) i
      → own_in (f r) i ++ own_in (flat_map f rs) i ≡ own_in (flat_map f (if b then r ∷ filter (is_of i) rs else filter (is_of i) rs)) i
  one_more r rs true is rest = ap (λ es. own_in (f r) i ++ es) rest ∙ sym (flat_map-append (own_of i) (f r) (flat_map f (filter (is_of i) rs)))
  one_more r rs false is rest = ap (λ es. es ++ own_in (flat_map f rs) i) (apart r is) ∙ rest

  pub own_filtered : (rs : List Rank) → own_in (flat_map f rs) i ≡ own_in (flat_map f (filter (is_of i) rs)) i
  own_filtered [] = refl
  own_filtered (r ∷ rs) = flat_map-append (own_of i) (f r) (flat_map f rs) ∙ one_more r rs (nat_eq r.instance i) refl (own_filtered rs)

-- steps of another instance are none of it
other_step : (b : Bool) (s : Step) (i : ℕ) → nat_eq s.instance i ≡ false → own_in (if b then s ∷ [] else []) i ≡ []
other_step true s i apart = ap (λ (e : Bool). (if e then event_of s.what ∷ [] else []) ++ []) apart
other_step false s i apart = refl

scan_apart : (tasks : List Task) (number : ℕ) (time : ℤ) (inputs : List TaskInput) (before : List TaskEvent) (i : ℕ) (r : Rank) → nat_eq r.instance i ≡ false → own_in (scan_at tasks number time inputs before r) i ≡ []
scan_apart tasks number time inputs before i r apart = other_step (runs tasks time before r.task) (step_of number r.instance (own.Scan time (given r.instance (waiting tasks r.task r.instance before) inputs))) i apart

own_step : (b : Bool) (s : Step) (i : ℕ) → nat_eq s.instance i ≡ true → own_in (if b then s ∷ [] else []) i ≡ (if b then event_of s.what ∷ [] else [])
own_step true s i same = ap (λ (e : Bool). (if e then event_of s.what ∷ [] else []) ++ []) same
own_step false s i same = refl

tick_own : (tasks : List Task) (number : ℕ) (time : ℤ) (inputs : List TaskInput) (before : List TaskEvent) (i : ℕ) (o : Option Instance)
    → own_in (flat_map (scan_at tasks number time inputs before) (rank_if tasks i o)) i ≡ event_if tasks i before (event.Tick time inputs) o
tick_own tasks number time inputs before i None = refl
tick_own tasks number time inputs before i (Some x) =
    ap (λ ss. own_in ss i) (append-nil (scan_at tasks number time inputs before (rank_of tasks i x)))
    ∙ own_step (runs tasks time before x.task) (step_of number i (own.Scan time (given i (waiting tasks x.task i before) inputs))) i (eq-eqb i i refl)

map_flat : {A B : Type 0} (f : A → B) (xs : List A) → map f xs ≡ flat_map (λ x. f x ∷ []) xs
map_flat f [] = refl
map_flat f (x ∷ xs) = ap (λ ys. f x ∷ ys) (map_flat f xs)

-- a restart gives a step of each instance
restarts_own : (plan : TaskPlan) (number i : ℕ) (before : List TaskEvent) (again : Restart) (e : TaskEvent) → ((o : Option Instance) → own_in (flat_map (λ r. restart_at number again r ∷ []) (rank_if plan.tasks i o)) i ≡ event_if plan.tasks i before e o)
    → own_in (map (restart_at number again) (ranks_of plan)) i ≡ event_if plan.tasks i before e (slice_get plan.instances i)
restarts_own plan number i before again e is =
    ap (λ ss. own_in ss i) (map_flat (restart_at number again) (ranks_of plan))
    ∙ own_filtered (λ r. restart_at number again r ∷ []) i (λ r apart. other_step true (restart_at number again r) i apart) (ranks_of plan)
    ∙ ap (λ rs. own_in (flat_map (λ r. restart_at number again r ∷ []) rs) i) (once_in_ranks plan i)
    ∙ is (slice_get plan.instances i)

warm_own : (tasks : List Task) (number i : ℕ) (before : List TaskEvent) (o : Option Instance) → own_in (flat_map (λ r. restart_at number restart.Warm r ∷ []) (rank_if tasks i o)) i ≡ event_if tasks i before event.Warm o
warm_own tasks number i before None = refl
warm_own tasks number i before (Some x) = ap (λ (e : Bool). (if e then Warm ∷ [] else []) ++ []) (eq-eqb i i refl)

cold_own : (tasks : List Task) (number i : ℕ) (before : List TaskEvent) (o : Option Instance) → own_in (flat_map (λ r. restart_at number restart.Cold r ∷ []) (rank_if tasks i o)) i ≡ event_if tasks i before event.Cold o
cold_own tasks number i before None = refl
cold_own tasks number i before (Some x) = ap (λ (e : Bool). (if e then Cold ∷ [] else []) ++ []) (eq-eqb i i refl)

-- the steps of an event are to an instance what the event is to it
event_own : (plan : TaskPlan) (order : List Rank) → IsInOrder plan order → (number i : ℕ) (before : List TaskEvent) (e : TaskEvent) → own_in (steps_at plan order number before e) i ≡ event_if plan.tasks i before e (slice_get plan.instances i)
event_own plan order is number i before (event.Tick time inputs) =
    own_filtered (scan_at plan.tasks number time inputs before) i (λ r apart. scan_apart plan.tasks number time inputs before i r apart) order
    ∙ ap (λ rs. own_in (flat_map (scan_at plan.tasks number time inputs before) rs) i) (once_in_order plan order i is.all)
    ∙ tick_own plan.tasks number time inputs before i (slice_get plan.instances i)
event_own plan order is number i before event.Warm = restarts_own plan number i before restart.Warm event.Warm (λ o. warm_own plan.tasks number i before o)
event_own plan order is number i before event.Cold = restarts_own plan number i before restart.Cold event.Cold (λ o. cold_own plan.tasks number i before o)

joined : (tasks : List Task) (i : ℕ) (before : List TaskEvent) (e : TaskEvent) (es : List TaskEvent) (o : Option Instance) → event_if tasks i before e o ++ events_if tasks i (e ∷ before) es o ≡ events_if tasks i before (e ∷ es) o
joined tasks i before e es None = refl
joined tasks i before e es (Some x) = refl

nothing_own : (tasks : List Task) (i : ℕ) (before : List TaskEvent) (o : Option Instance) → [] ≡ events_if tasks i before [] o
nothing_own tasks i before None = refl
nothing_own tasks i before (Some x) = refl

steps_own : (plan : TaskPlan) (order : List Rank) → IsInOrder plan order → (number i : ℕ) (before es : List TaskEvent) → own_in (steps_from plan order number before es) i ≡ events_if plan.tasks i before es (slice_get plan.instances i)
steps_own plan order is number i before [] = nothing_own plan.tasks i before (slice_get plan.instances i)
steps_own plan order is number i before (e ∷ es) =
    flat_map-append (own_of i) (steps_at plan order number before e) (steps_from plan order (number + 1) (e ∷ before) es)
    ∙ ap₂ (λ xs ys. xs ++ ys) (event_own plan order is number i before e) (steps_own plan order is (number + 1) i (e ∷ before) es)
    ∙ joined plan.tasks i before e es (slice_get plan.instances i)

events_are : (tasks : List Task) (i : ℕ) (es : List TaskEvent) (o : Option Instance) → events_if tasks i [] es o ≡ own_if tasks i es o
events_are tasks i es None = refl
events_are tasks i es (Some x) = refl

-- the steps are to each instance its own events
pub own_steps : (plan : TaskPlan) (events : List TaskEvent) (steps : List Step) → AreSteps plan events steps → (i : ℕ) → own_in steps i ≡ own_events plan events i
own_steps plan events steps are i =
    ap (λ ss. own_in ss i) are.steps_are ∙ steps_own plan are.order are.is 1 i [] events ∙ events_are plan.tasks i events (slice_get plan.instances i)

-- THE PLACES OF ROWS

scan_place : (number : ℕ) (b : Bool) (r : Rank) (what : Step) (ss : List Step) (rs : List Rank) → step_place what ≡ row_place number r → map step_place ss ≡ map (row_place number) rs
    → map step_place ((if b then what ∷ [] else []) ++ ss) ≡ map (row_place number) (if b then r ∷ rs else rs)
scan_place number true r what ss rs same rest = ap₂ (λ p ps. p ∷ ps) same rest
scan_place number false r what ss rs same rest = rest

scan_places : (tasks : List Task) (number : ℕ) (time : ℤ) (inputs : List TaskInput) (before : List TaskEvent) (rs : List Rank)
    → map step_place (flat_map (scan_at tasks number time inputs before) rs) ≡ map (row_place number) (filter (λ (r : Rank). runs tasks time before r.task) rs)
scan_places tasks number time inputs before [] = refl
scan_places tasks number time inputs before (r ∷ rs) =
    scan_place number (runs tasks time before r.task) r (step_of number r.instance (own.Scan time (given r.instance (waiting tasks r.task r.instance before) inputs)))
    (flat_map (scan_at tasks number time inputs before) rs) (filter (λ (q : Rank). runs tasks time before q.task) rs) refl (scan_places tasks number time inputs before rs)

restart_places : (number : ℕ) (again : Restart) (rs : List Rank) → map step_place (map (restart_at number again) rs) ≡ map (row_place number) rs
restart_places number again [] = refl
restart_places number again (r ∷ rs) = ap (λ ps. row_place number r ∷ ps) (restart_places number again rs)

event_places : (plan : TaskPlan) (order : List Rank) (number : ℕ) (before : List TaskEvent) (e : TaskEvent) → map step_place (steps_at plan order number before e) ≡ map (row_place number) (told_at plan order before e)
event_places plan order number before (event.Tick time inputs) = scan_places plan.tasks number time inputs before order
event_places plan order number before event.Warm = restart_places number restart.Warm (ranks_of plan)
event_places plan order number before event.Cold = restart_places number restart.Cold (ranks_of plan)

all_places : (plan : TaskPlan) (order : List Rank) (number : ℕ) (before es : List TaskEvent) → map step_place (steps_from plan order number before es) ≡ places_from plan order number before es
all_places plan order number before [] = refl
all_places plan order number before (e ∷ es) =
    map-append step_place (steps_at plan order number before e) (steps_from plan order (number + 1) (e ∷ before) es)
    ∙ ap₂ (λ xs ys. xs ++ ys) (event_places plan order number before e) (all_places plan order (number + 1) (e ∷ before) es)

pub row_places : (plan : TaskPlan) (events : List TaskEvent) (steps : List Step) → AreSteps plan events steps → AreRowPlaces plan events (map step_place steps)
row_places plan events steps are = record { order = are.order; is = are.is; places_are = ap (λ ss. map step_place ss) are.steps_are ∙ all_places plan are.order 1 [] events }

-- EACH STEP IS OF AN INSTANCE

each_join : {X : Type 0} (P : X → Type 0) (xs ys : List X) → Each P xs → Each P ys → Each P (xs ++ ys)
each_join P [] ys hs is = is
each_join P (x ∷ xs) ys hs is = (hs.0, each_join P xs ys hs.1 is)

scan_within : (n : ℕ) (b : Bool) (s : Step) → s.instance < n → Each (AreStepsWithin n) (if b then s ∷ [] else [])
scan_within n true s low = (low, tt)
scan_within n false s low = tt

scans_within : (n : ℕ) (tasks : List Task) (number : ℕ) (time : ℤ) (inputs : List TaskInput) (before : List TaskEvent) (rs : List Rank) → Each (AreWithin n) rs
    → Each (AreStepsWithin n) (flat_map (scan_at tasks number time inputs before) rs)
scans_within n tasks number time inputs before [] all = tt
scans_within n tasks number time inputs before (r ∷ rs) all =
    each_join (AreStepsWithin n) (scan_at tasks number time inputs before r) (flat_map (scan_at tasks number time inputs before) rs)
    (scan_within n (runs tasks time before r.task) (step_of number r.instance (own.Scan time (given r.instance (waiting tasks r.task r.instance before) inputs))) all.0)
    (scans_within n tasks number time inputs before rs all.1)

restarts_within : (n number : ℕ) (again : Restart) (rs : List Rank) → Each (AreWithin n) rs → Each (AreStepsWithin n) (map (restart_at number again) rs)
restarts_within n number again [] all = tt
restarts_within n number again (r ∷ rs) all = (all.0, restarts_within n number again rs all.1)

event_within : (plan : TaskPlan) (order : List Rank) → IsInOrder plan order → (number : ℕ) (before : List TaskEvent) (e : TaskEvent) → Each (AreStepsWithin (length plan.instances)) (steps_at plan order number before e)
event_within plan order is number before (event.Tick time inputs) =
    scans_within (length plan.instances) plan.tasks number time inputs before order (order_within plan order (length plan.instances) refl is.all)
event_within plan order is number before event.Warm = restarts_within (length plan.instances) number restart.Warm (ranks_of plan) (ranks_within plan (ranks_of plan) (length plan.instances) refl refl)
event_within plan order is number before event.Cold = restarts_within (length plan.instances) number restart.Cold (ranks_of plan) (ranks_within plan (ranks_of plan) (length plan.instances) refl refl)

all_within : (plan : TaskPlan) (order : List Rank) → IsInOrder plan order → (number : ℕ) (before es : List TaskEvent) → Each (AreStepsWithin (length plan.instances)) (steps_from plan order number before es)
all_within plan order is number before [] = tt
all_within plan order is number before (e ∷ es) =
    each_join (AreStepsWithin (length plan.instances)) (steps_at plan order number before e) (steps_from plan order (number + 1) (e ∷ before) es)
    (event_within plan order is number before e) (all_within plan order is (number + 1) (e ∷ before) es)

pub steps_within : (plan : TaskPlan) (events : List TaskEvent) (steps : List Step) → AreSteps plan events steps → (n : ℕ) → n ≡ length plan.instances → Each (AreStepsWithin n) steps
steps_within plan events steps are n long =
    subst (λ m. Each (AreStepsWithin m) steps) (sym long) (subst (Each (AreStepsWithin (length plan.instances))) (sym are.steps_are) (all_within plan are.order are.is 1 [] events))
