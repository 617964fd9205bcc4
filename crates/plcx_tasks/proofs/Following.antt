-- The own events of each instance can come next to its side, where the events can come to all.
use Rattle.std.proofs.Common.{◌≡◌, ◌≤◌, ◌∙◌, ℕ, ℤ, zero, suc, Bool, true, false, nat_eq, nat_abs, List, [], ◌∷◌, ◌++◌, Option, Some, None, map, refl, sym, ap, subst, arith, if◌then◌else◌}
use Rattle.std.specs.Prelude.{slice_get, length}
use Rattle.std.proofs.lemmas.Bool.{eqb-true}
use Rattle.std.specs.Option.{option_map}
use Rattle.std.proofs.lemmas.Option.{slice_get-map, slice_get_within}
use Rattle.plcx_types.specs.Lists.{Each}
use Rattle.plcx_state.specs.Layouts.{Laid}
use Rattle.plcx_state.specs.declared.layout.Leaf.{Leaf}
use Rattle.plcx_scan.specs.declared.event.Input.{Input}
use Rattle.plcx_scan.specs.Events.{Event, Scan, IsNext, IsInput, CanFollow}
use Rattle.plcx_tasks.specs.declared.planning.Task.{Task}
use Rattle.plcx_tasks.specs.declared.planning.Instance.{Instance}
use Rattle.plcx_tasks.specs.declared.planning.TaskPlan.{TaskPlan}
use Rattle.plcx_tasks.specs.declared.ticking.TaskInput.{TaskInput}
use Rattle.plcx_tasks.specs.declared.ticking.TaskEvent.{TaskEvent}
use Rattle.plcx_tasks.specs.declared.ticking.TaskEvent.TheVariants as event
use Rattle.plcx_tasks.specs.Tasks.{runs, input_of, with_input, given, waiting, own_from, own_if, own_events, IsTaskInput, AreTicks}
use Rattle.plcx_tasks.specs.Runs.{CanRun}
use Rattle.plcx_tasks.specs.Steps.{IsGivenWithin, IsEventWithin}

-- an input in the place of another one for its leaf
replaced : (leaves : List Leaf) (y x : Input) → x.leaf ≡ y.leaf → IsInput leaves x → IsInput leaves (record y { value = x.value })
replaced leaves y x same fits = record { leaf = fits.leaf; there = ap (slice_get leaves) (sym same) ∙ fits.there; settable = fits.settable; typed = fits.typed; range = fits.range }

put_fits : (leaves : List Leaf) (x y : Input) (ys more : List Input) (b : Bool) → nat_eq x.leaf y.leaf ≡ b → IsInput leaves x → IsInput leaves y → Each (IsInput leaves) ys → Each (IsInput leaves) more
    → Each (IsInput leaves) (if b then record y { value = x.value } ∷ ys else y ∷ more)
put_fits leaves x y ys more true is own fits others rest = (replaced leaves y x (eqb-true x.leaf y.leaf is) own, others)
put_fits leaves x y ys more false is own fits others rest = (fits, rest)

with_fits : (leaves : List Leaf) (ys : List Input) (x : Input) → Each (IsInput leaves) ys → IsInput leaves x → Each (IsInput leaves) (with_input ys x)
with_fits leaves [] x all fits = (fits, tt)
with_fits leaves (y ∷ ys) x all fits = put_fits leaves x y ys (with_input ys x) (nat_eq x.leaf y.leaf) refl fits all.0 all.1 (with_fits leaves ys x all.1 fits)

-- an input of the instance fits its leaves
own_fits : (lays : List Laid) (i : ℕ) (own : Laid) → slice_get lays i ≡ Some own → (x : TaskInput) → x.instance ≡ i → IsTaskInput lays x → IsInput own.leaves (input_of x)
own_fits lays i own there x at fits =
    let same : Some fits.own ≡ Some own = sym fits.there ∙ ap (slice_get lays) at ∙ there in
    let is : fits.own ≡ own = cc in
    subst (λ (l : Laid). IsInput l.leaves (input_of x)) is fits.fits

one_given : (lays : List Laid) (i : ℕ) (own : Laid) → slice_get lays i ≡ Some own → (past : List Input) (x : TaskInput) (b : Bool) → nat_eq x.instance i ≡ b → Each (IsInput own.leaves) past → IsTaskInput lays x
    → Each (IsInput own.leaves) (if b then with_input past (input_of x) else past)
one_given lays i own there past x true is all fits = with_fits own.leaves past (input_of x) all (own_fits lays i own there x (eqb-true x.instance i is) fits)
one_given lays i own there past x false is all fits = all

given_fits : (lays : List Laid) (i : ℕ) (own : Laid) → slice_get lays i ≡ Some own → (past : List Input) (xs : List TaskInput) → Each (IsInput own.leaves) past → Each (IsTaskInput lays) xs → Each (IsInput own.leaves) (given i past xs)
given_fits lays i own there past [] all fits = all
given_fits lays i own there past (x ∷ xs) all fits =
    given_fits lays i own there (if nat_eq x.instance i then with_input past (input_of x) else past) xs (one_given lays i own there past x (nat_eq x.instance i) refl all fits.0) fits.1

kept_fits : (leaves : List Leaf) (b : Bool) (inputs : List Input) → Each (IsInput leaves) inputs → Each (IsInput leaves) (if b then [] else inputs)
kept_fits leaves true inputs all = tt
kept_fits leaves false inputs all = all

sooner : (last from : ℕ) (time : ℤ) → last ≤ from → IsNext from time → IsNext last time
sooner last from time le next = record { time_is = next.time_is; not_before = (let later = next.not_before in omega (arith, le, later)); within = next.within }

-- a tick that runs the task is a scan, and the others leave what follows to come
one_follows : (leaves : List Leaf) (last from : ℕ) (time : ℤ) (inputs : List Input) (es : List Event) (b : Bool) → last ≤ from → IsNext from time → Each (IsInput leaves) inputs
    → ((l : ℕ) → l ≤ nat_abs time → CanFollow leaves l es) → CanFollow leaves last ((if b then Scan time inputs ∷ [] else []) ++ es)
one_follows leaves last from time inputs es true le next fits rest = ((sooner last from time le next, fits), rest (nat_abs time) (omega arith))
one_follows leaves last from time inputs es false le next fits rest = rest last (let later = next.not_before in omega (arith, le, later))

follows : (lays : List Laid) (i : ℕ) (own : Laid) → slice_get lays i ≡ Some own → (tasks : List Task) (task : ℕ) (before es : List TaskEvent) (last from : ℕ) → last ≤ from
    → Each (IsInput own.leaves) (waiting tasks task i before) → AreTicks lays from es → CanFollow own.leaves last (own_from tasks task i before es)
follows lays i own there tasks task before [] last from le fits ticks = tt
follows lays i own there tasks task before (event.Tick time inputs ∷ es) last from le fits ticks =
    let all = given_fits lays i own there (waiting tasks task i before) inputs fits ticks.0.1 in
    one_follows own.leaves last from time (given i (waiting tasks task i before) inputs) (own_from tasks task i (event.Tick time inputs ∷ before) es) (runs tasks time before task) le ticks.0.0 all
    (λ l at. follows lays i own there tasks task (event.Tick time inputs ∷ before) es l (nat_abs time) at
    (kept_fits own.leaves (runs tasks time before task) (given i (waiting tasks task i before) inputs) all) ticks.1)
follows lays i own there tasks task before (event.Warm ∷ es) last from le fits ticks = (tt, follows lays i own there tasks task (event.Warm ∷ before) es last from le tt ticks.1)
follows lays i own there tasks task before (event.Cold ∷ es) last from le fits ticks = (tt, follows lays i own there tasks task (event.Cold ∷ before) es last from le tt ticks.1)

if_follows : (lays : List Laid) (i : ℕ) (own : Laid) → slice_get lays i ≡ Some own → (tasks : List Task) (o : Option Instance) (es : List TaskEvent) (last from : ℕ) → last ≤ from → AreTicks lays from es
    → CanFollow own.leaves last (own_if tasks i es o)
if_follows lays i own there tasks None es last from le ticks = tt
if_follows lays i own there tasks (Some x) es last from le ticks = follows lays i own there tasks x.task [] es last from le tt ticks

each_get : {X : Type 0} (P : X → Type 0) (xs : List X) (i : ℕ) (x : X) → slice_get xs i ≡ Some x → Each P xs → P x
each_get P [] i x e h = absurd (cc)
each_get P (y ∷ xs) zero x e h = let same : y ≡ x = cc in subst P same h.0
each_get P (y ∷ xs) (suc i) x e h = each_get P xs i x e h.1

-- the own events of the instances can come next to their sides
pub own_follow : {S : Type 0} (laid : S → Laid) (last : S → ℕ) (plan : TaskPlan) (sides : List S) (events : List TaskEvent) → CanRun laid last sides events
    → (i : ℕ) (s : S) → slice_get sides i ≡ Some s → CanFollow (laid s).leaves (last s) (own_events plan events i)
own_follow {S} laid last plan sides events can i s there =
    if_follows (map laid sides) i (laid s) (slice_get-map laid sides i ∙ ap (λ (o : Option S). option_map laid o) there) plan.tasks (slice_get plan.instances i) events (last s) can.from
    (each_get (λ (t : S). last t ≤ can.from) sides i s there can.none_after) can.ticks

-- and inputs are for instances that are there
given_within : (lays : List Laid) (xs : List TaskInput) → Each (IsTaskInput lays) xs → Each (IsGivenWithin (length lays)) xs
given_within lays [] all = tt
given_within lays (x ∷ xs) all = (slice_get_within lays x.instance all.0.own all.0.there, given_within lays xs all.1)

pub events_within : (lays : List Laid) (from : ℕ) (es : List TaskEvent) → AreTicks lays from es → Each (IsEventWithin (length lays)) es
events_within lays from [] ticks = tt
events_within lays from (event.Tick time inputs ∷ es) ticks = (given_within lays inputs ticks.0.1, events_within lays (nat_abs time) es ticks.1)
events_within lays from (event.Warm ∷ es) ticks = (tt, events_within lays from es ticks.1)
events_within lays from (event.Cold ∷ es) ticks = (tt, events_within lays from es ticks.1)
