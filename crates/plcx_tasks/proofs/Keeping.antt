-- What is kept from one event to the next.
use Rattle.std.proofs.Common.{◌≡◌, ◌<◌, ◌+◌, ◌∙◌, append_assoc, get_or, drop, ℕ, ℤ, zero, suc, Bool, true, false, nat_eq, List, [], ◌∷◌, ◌++◌, Option, Some, map, refl, sym, ap, ap₂, subst, arith, length, if◌then◌else◌}
use Rattle.std.specs.Prelude.{filter, slice_get, take, reverse}
use Rattle.std.specs.List.{flat_map}
use Rattle.std.proofs.lemmas.Bool.{eq-eqb}
use Rattle.std.proofs.lemmas.List.{take_more, drop_more, reverse-append}
use Rattle.std.proofs.lemmas.Option.{get_or_from_slice_get}
use Rattle.plcx_types.specs.Lists.{Each}
use Rattle.plcx_scan.specs.declared.event.Input.{Input}
use Rattle.plcx_tasks.specs.declared.planning.Task.{Task}
use Rattle.plcx_tasks.specs.declared.planning.Instance.{Instance}
use Rattle.plcx_tasks.specs.declared.planning.TaskPlan.{TaskPlan}
use Rattle.plcx_tasks.specs.declared.ticking.TaskInput.{TaskInput}
use Rattle.plcx_tasks.specs.declared.ticking.TaskEvent.{TaskEvent}
use Rattle.plcx_tasks.specs.declared.ticking.TaskEvent.TheVariants as event
use Rattle.plcx_tasks.specs.declared.ranking.Rank.{Rank}
use Rattle.plcx_tasks.specs.declared.clocking.Clock.{Clock}
use Rattle.plcx_tasks.specs.declared.scheduling.OwnEvent.TheVariants as own
use Rattle.plcx_tasks.specs.declared.scheduling.Restart.{Restart}
use Rattle.plcx_tasks.specs.declared.scheduling.Restart.TheVariants as restart
use Rattle.plcx_tasks.specs.declared.scheduling.Step.{Step}
use Rattle.plcx_tasks.specs.Tasks.{is_due, last_run, runs, input_of, with_input, given, waiting}
use Rattle.plcx_tasks.specs.Orders.{ranks_of}
use Rattle.plcx_tasks.specs.Steps.{scan_at, steps_at, clock_at, is_clock_due, clock_after, is_set, kept_for, scan_of, step_of, left_behind, AreKept, Keeps, IsLed, Leads, LeadsIn, restart_at, restart_event, steps_from}
use Rattle.plcx_tasks.proofs.Once.{is_of, rank_if, once_in_ranks, IsRank, order_is}

-- CLOCKS

abbrev the_clock : ℤ → Option ℤ → Clock
the_clock interval last = record { interval = interval; last = last }

stepped : (interval time : ℤ) (last : Option ℤ) (b : Bool) → (if b then the_clock interval (Some time) else the_clock interval last) ≡ the_clock interval (if b then Some time else last)
stepped interval time last true = refl
stepped interval time last false = refl

clocks_step : (time : ℤ) (inputs : List TaskInput) (before : List TaskEvent) (tasks : List Task) → map (clock_after time) (map (clock_at before) tasks) ≡ map (clock_at (event.Tick time inputs ∷ before)) tasks
clocks_step time inputs before [] = refl
clocks_step time inputs before (task ∷ tasks) =
    ap₂ (λ (c : Clock) cs. c ∷ cs) (stepped task.interval time (last_run task.interval before) (is_due task.interval time (last_run task.interval before))) (clocks_step time inputs before tasks)

-- the flags of the tasks say which a tick runs
flags_say : (time : ℤ) (before : List TaskEvent) (tasks : List Task) (t : ℕ) → is_set (slice_get (map (is_clock_due time) (map (clock_at before) tasks)) t) ≡ runs tasks time before t
flags_say time before [] t = refl
flags_say time before (task ∷ tasks) zero = refl
flags_say time before (task ∷ tasks) (suc t) = flags_say time before tasks t

-- WHAT IS GIVEN

pub given_more : (i : ℕ) (past : List Input) (xs : List TaskInput) (x : TaskInput) → given i past (xs ++ x ∷ []) ≡ (if nat_eq x.instance i then with_input (given i past xs) (input_of x) else given i past xs)
given_more i past [] x = refl
given_more i past (y ∷ ys) x = given_more i (if nat_eq y.instance i then with_input past (input_of y) else past) ys x

-- THE SCANS OF A TICK

one_scan : (tasks : List Task) (number : ℕ) (time : ℤ) (inputs : List TaskInput) (before : List TaskEvent) (due : List Bool) (pending : List (List Input)) (r : Rank)
    → is_set (slice_get due r.task) ≡ runs tasks time before r.task → kept_for pending r.instance ≡ given r.instance (waiting tasks r.task r.instance before) inputs
    → scan_of due pending number time r ≡ scan_at tasks number time inputs before r
one_scan tasks number time inputs before due pending r flag kept = ap₂ (λ (b : Bool) (ins : List Input). if b then step_of number r.instance (own.Scan time ins) ∷ [] else []) flag kept

-- what is kept for the instances at a tick, once its inputs are taken
abbrev pub TakenIn : TaskPlan → List TaskEvent → List TaskInput → List (List Input) → Type 0
TakenIn plan before inputs pending = (i : ℕ) (x : Instance) → slice_get plan.instances i ≡ Some x → slice_get pending i ≡ Some (given i (waiting plan.tasks x.task i before) inputs)

rank_kept : (plan : TaskPlan) (before : List TaskEvent) (inputs : List TaskInput) (pending : List (List Input)) → TakenIn plan before inputs pending → (r : Rank) → IsRank plan.instances 0 r
    → kept_for pending r.instance ≡ given r.instance (waiting plan.tasks r.task r.instance before) inputs
rank_kept plan before inputs pending taken r is =
    let at : r.instance ≡ is.place = is.instance_is ∙ omega arith in
    let there : slice_get plan.instances r.instance ≡ Some is.x = ap (slice_get plan.instances) at ∙ is.there in
    get_or_from_slice_get pending r.instance (given r.instance (waiting plan.tasks r.task r.instance before) inputs) []
    (taken r.instance is.x there ∙ ap (λ t. Some (given r.instance (waiting plan.tasks t r.instance before) inputs)) (sym is.task_is))

scans_are : (plan : TaskPlan) (number : ℕ) (time : ℤ) (inputs : List TaskInput) (before : List TaskEvent) (due : List Bool) (pending : List (List Input)) → ((t : ℕ) → is_set (slice_get due t) ≡ runs plan.tasks time before t)
    → TakenIn plan before inputs pending → (rs : List Rank) → Each (IsRank plan.instances 0) rs → flat_map (scan_of due pending number time) rs ≡ flat_map (scan_at plan.tasks number time inputs before) rs
scans_are plan number time inputs before due pending flags taken [] all = refl
scans_are plan number time inputs before due pending flags taken (r ∷ rs) all =
    ap₂ (λ (a b : List Step). a ++ b) (one_scan plan.tasks number time inputs before due pending r (flags r.task) (rank_kept plan before inputs pending taken r all.0))
    (scans_are plan number time inputs before due pending flags taken rs all.1)

-- WHAT IS LEFT

left_one : (due : List Bool) (i : ℕ) (past : List Input) (r : Rank) (rs : List Rank) (b : Bool) → nat_eq r.instance i ≡ b → ((p : List Input) → left_behind due i p rs ≡ left_behind due i p (filter (is_of i) rs))
    → left_behind due i (if b then (if is_set (slice_get due r.task) then [] else past) else past) rs ≡ left_behind due i past (if b then r ∷ filter (is_of i) rs else filter (is_of i) rs)
left_one due i past r rs true is rest =
    let left = if is_set (slice_get due r.task) then [] else past in
    rest left ∙ ap (λ (b : Bool). left_behind due i (if b then left else past) (filter (is_of i) rs)) (sym is)
left_one due i past r rs false is rest = rest past

left_filtered : (due : List Bool) (i : ℕ) (rs : List Rank) (past : List Input) → left_behind due i past rs ≡ left_behind due i past (filter (is_of i) rs)
left_filtered due i [] past = refl
left_filtered due i (r ∷ rs) past = left_one due i past r rs (nat_eq r.instance i) refl (left_filtered due i rs)

pub left_is : (plan : TaskPlan) (due : List Bool) (i : ℕ) (x : Instance) (past : List Input) → slice_get plan.instances i ≡ Some x → left_behind due i past (ranks_of plan) ≡ (if is_set (slice_get due x.task) then [] else past)
left_is plan due i x past there =
    left_filtered due i (ranks_of plan) past ∙ ap (left_behind due i past) (once_in_ranks plan i ∙ ap (rank_if plan.tasks i) there)
    ∙ ap (λ (b : Bool). if b then (if is_set (slice_get due x.task) then [] else past) else past) (eq-eqb i i refl)

-- A TICK

pub taken_in : (plan : TaskPlan) (before : List TaskEvent) (inputs : List TaskInput) (old new : List (List Input)) → AreKept plan before old
    → ((i : ℕ) (past : List Input) → slice_get old i ≡ Some past → slice_get new i ≡ Some (given i past inputs)) → TakenIn plan before inputs new
taken_in plan before inputs old new kept given_is i x there = given_is i (waiting plan.tasks x.task i before) (kept.kept i x there)

pub tick_led : (ranks order : List Rank) (number : ℕ) (time : ℤ) (inputs : List TaskInput) (clocks clocks_new : List Clock) (due : List Bool) (pending taken left : List (List Input)) (steps more : List Step)
    → ((i : ℕ) (past : List Input) → slice_get pending i ≡ Some past → slice_get taken i ≡ Some (given i past inputs)) → due ≡ map (is_clock_due time) clocks → more ≡ steps ++ flat_map (scan_of due taken number time) order
    → ((i : ℕ) (past : List Input) → slice_get taken i ≡ Some past → slice_get left i ≡ Some (left_behind due i past ranks)) → length left ≡ length pending → clocks_new ≡ map (clock_after time) clocks
    → Leads ranks order number (event.Tick time inputs) clocks pending clocks_new left steps more
tick_led ranks order number time inputs clocks clocks_new due pending taken left steps more given_is due_is more_is left_by long clocks_are plan before ranks_is is keeps =
    let taken_is = taken_in plan before inputs pending taken keeps.kept given_is in
    let flags : (t : ℕ) → is_set (slice_get due t) ≡ runs plan.tasks time before t = λ t. ap (λ (d : List Bool). is_set (slice_get d t)) (due_is ∙ ap (map (is_clock_due time)) keeps.clocks_are) ∙ flags_say time before plan.tasks t in
    record {
      steps_are = more_is ∙ ap (λ (ss : List Step). steps ++ ss) (scans_are plan number time inputs before due taken flags taken_is order (order_is plan order is.all));
      keeps = record {
        clocks_are = clocks_are ∙ ap (map (clock_after time)) keeps.clocks_are ∙ clocks_step time inputs before plan.tasks;
        kept = record {
          long = long ∙ keeps.kept.long;
          kept = λ i x there.
              left_by i (given i (waiting plan.tasks x.task i before) inputs) (taken_is i x there)
              ∙ ap Some (ap (left_behind due i (given i (waiting plan.tasks x.task i before) inputs)) ranks_is ∙ left_is plan due i x (given i (waiting plan.tasks x.task i before) inputs) there
              ∙ ap (λ (b : Bool). if b then [] else given i (waiting plan.tasks x.task i before) inputs) (flags x.task));
        };
      };
    }

-- RESTARTS

pub restart_led : (plan : TaskPlan) (ranks order : List Rank) (number : ℕ) (again : Restart) (clocks clocks_new : List Clock) (pending pending_new : List (List Input)) (steps more : List Step)
    → more ≡ steps ++ map (restart_at number again) ranks → Keeps plan [] clocks_new pending_new → LeadsIn plan ranks order number (restart_event again) clocks pending clocks_new pending_new steps more
restart_led plan ranks order number restart.Warm clocks clocks_new pending pending_new steps more is begun before ranks_is in_order keeps = record {
  steps_are = is ∙ ap (λ (rs : List Rank). steps ++ map (restart_at number restart.Warm) rs) ranks_is;
  keeps = record { clocks_are = begun.clocks_are; kept = record { long = begun.kept.long; kept = begun.kept.kept } };
}
restart_led plan ranks order number restart.Cold clocks clocks_new pending pending_new steps more is begun before ranks_is in_order keeps = record {
  steps_are = is ∙ ap (λ (rs : List Rank). steps ++ map (restart_at number restart.Cold) rs) ranks_is;
  keeps = record { clocks_are = begun.clocks_are; kept = record { long = begun.kept.long; kept = begun.kept.kept } };
}

-- EVENTS IN TURN

-- so many events, the last of them first
abbrev pub before : List TaskEvent → ℕ → List TaskEvent
before events n = reverse (take n events)

before_more : (events : List TaskEvent) (k : ℕ) (e : TaskEvent) → k < length events → e ≡ get_or events k e → before events (k + 1) ≡ e ∷ before events k
before_more events k e lt is = ap reverse (take_more events k e lt ∙ ap (λ (x : TaskEvent). take k events ++ x ∷ []) (sym is)) ∙ reverse-append (take k events) (e ∷ [])

pub led_keeps : (plan : TaskPlan) (order : List Rank) (events : List TaskEvent) (k : ℕ) (e : TaskEvent) → k < length events → e ≡ get_or events k e → (number : ℕ) (clocks : List Clock) (pending : List (List Input)) (steps more : List Step)
    → IsLed plan order number (before events k) e clocks pending steps more → Keeps plan (before events (k + 1)) clocks pending
led_keeps plan order events k e lt is number clocks pending steps more led = subst (λ (es : List TaskEvent). Keeps plan es clocks pending) (sym (before_more events k e lt is)) led.keeps

pub led_steps : (plan : TaskPlan) (order : List Rank) (events : List TaskEvent) (k : ℕ) (e : TaskEvent) → k < length events → e ≡ get_or events k e → (clocks : List Clock) (pending : List (List Input)) (steps more whole : List Step)
    → IsLed plan order (k + 1) (before events k) e clocks pending steps more → steps ++ steps_from plan order (k + 1) (before events k) (drop k events) ≡ whole
    → more ++ steps_from plan order (k + 1 + 1) (before events (k + 1)) (drop (k + 1) events) ≡ whole
led_steps plan order events k e lt is clocks pending steps more whole led so_far =
    let rest = drop (k + 1) events in
    let next = steps_from plan order (k + 1 + 1) (e ∷ before events k) rest in
    ap₂ (λ (a b : List Step). a ++ b) led.steps_are (ap (λ (es : List TaskEvent). steps_from plan order (k + 1 + 1) es rest) (before_more events k e lt is))
    ∙ append_assoc steps (steps_at plan order (k + 1) (before events k) e) next
    ∙ ap (λ (es : List TaskEvent). steps ++ steps_from plan order (k + 1) (before events k) es) (sym (drop_more events k e lt ∙ ap (λ (x : TaskEvent). x ∷ rest) (sym is)))
    ∙ so_far
