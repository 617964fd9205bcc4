-- TOF over its calls.
use Rattle.std.proofs.Common.{◌≡◌, Bool, true, false, not, ◌||◌, List, [], ◌∷◌, refl, ap, ◌∙◌, sym, subst, arith, ℤ, pos, ◌-ℤ◌, ◌≤ℤ◌, Option, Some, None}
use Rattle.std.specs.Prelude.{if◌then◌else◌, int_lt, unwrap_or}
use Rattle.std.specs.List.{list_any}
use Rattle.std.proofs.lemmas.Int.{ints}
use Rattle.plcx_std.specs.declared.leaves.Timer.{Timer}
use Rattle.plcx_std.specs.Step.{since, limit, tof}
use Rattle.plcx_std.specs.History.{TimerCall, NotBefore, NeverFall, Shown, first_time, last_run, or_reached, first_reached, shown_at_rest, tof_shows}
use Rattle.plcx_std.specs.Calls.{after_tof, timer_shown}
use Rattle.plcx_std.proofs.OnDelays.{since_is}

-- the start of a rest and the limit that it reached, call by call
abbrev rest_from : List TimerCall → Option ℤ
rest_from [] = None
rest_from (c ∷ earlier) = if c.input then None else Some (unwrap_or (rest_from earlier) c.time)

abbrev reached_from : ℤ → List TimerCall → Option ℤ
reached_from start [] = None
reached_from start (c ∷ earlier) = if c.input then None else or_reached (reached_from start earlier) (c.time -ℤ start) (limit c.preset)

abbrev rest_of : List TimerCall → List TimerCall
rest_of calls = last_run (λ d. not d.input) calls

pushed_rest : (input : Bool) (c : TimerCall) (rest : List TimerCall) → first_time (if not input then c ∷ rest else []) ≡ (if input then None else Some (unwrap_or (first_time rest) c.time))
pushed_rest true c rest = refl
pushed_rest false c rest = refl

rest_is : (calls : List TimerCall) → first_time (rest_of calls) ≡ rest_from calls
rest_is [] = refl
rest_is (c ∷ earlier) = pushed_rest c.input c (rest_of earlier) ∙ ap (λ r. if c.input then None else Some (unwrap_or r c.time)) (rest_is earlier)

pushed_reached : (input : Bool) (start : ℤ) (c : TimerCall) (rest : List TimerCall) → first_reached start (if not input then c ∷ rest else []) ≡ (if input then None else or_reached (first_reached start rest) (c.time -ℤ start) (limit c.preset))
pushed_reached true start c rest = refl
pushed_reached false start c rest = refl

reached_is : (start : ℤ) (calls : List TimerCall) → first_reached start (rest_of calls) ≡ reached_from start calls
reached_is start [] = refl
reached_is start (c ∷ earlier) = pushed_reached c.input start c (rest_of earlier) ∙ ap (λ r. if c.input then None else or_reached r (c.time -ℤ start) (limit c.preset)) (reached_is start earlier)

abbrev shown_from : Bool → ℤ → ℤ → List TimerCall → Option ℤ → Shown
shown_from input now preset earlier start =
    if input then record { output = true; elapsed = pos 0 } else if list_any (λ d. d.input) earlier then shown_at_rest (now -ℤ unwrap_or start now) (or_reached (reached_from (unwrap_or start now) earlier) (now -ℤ unwrap_or start now) (limit preset)) else record { output = false; elapsed = pos 0 }

-- what is shown, call by call, is what the definition says
shown_is : (input : Bool) (now preset : ℤ) (earlier : List TimerCall) → shown_from input now preset earlier (rest_from earlier) ≡ tof_shows (record { time = now; input = input; preset = preset } ∷ earlier)
shown_is true now preset earlier = refl
shown_is false now preset earlier =
    let start = unwrap_or (first_time (rest_of earlier)) now in
    let F : Option ℤ → Shown = λ r. if list_any (λ d. d.input) earlier then shown_at_rest (now -ℤ start) (or_reached r (now -ℤ start) (limit preset)) else record { output = false; elapsed = pos 0 } in
    ap (shown_from false now preset earlier) (sym (rest_is earlier)) ∙ ap F (sym (reached_is start earlier))

rest_bound : (input : Bool) (start time now : ℤ) → start ≤ℤ time → time ≤ℤ now → unwrap_or (if input then None else Some start) now ≤ℤ now
rest_bound true start time now h k = omega (arith, ints)
rest_bound false start time now h k = omega (arith, ints)

rested_before : (now : ℤ) (earlier : List TimerCall) → NotBefore now earlier → NeverFall earlier → unwrap_or (rest_from earlier) now ≤ℤ now
rested_before now [] h fall = omega (arith, ints)
rested_before now (c ∷ earlier) h fall = rest_bound c.input _ c.time now (rested_before c.time earlier fall.0 fall.1) h

-- the run goes on
record Waits (l : Timer) (from : ℤ) : Type 0 where
  memory : l.memory ≡ false
  running : l.running ≡ true
  start : l.start ≡ from

-- no run is
record Ends (l : Timer) (shown : ℤ) : Type 0 where
  memory : l.memory ≡ false
  running : l.running ≡ false
  elapsed : l.elapsed ≡ shown

abbrev AtRest : Timer → ℤ → Option ℤ → Type 0
AtRest l start None = Waits l start
AtRest l start (Some reached) = Ends l reached

record RestGives (l : Timer) (start elapsed : ℤ) (reached : Option ℤ) : Type 0 where
  state : AtRest l start reached
  shown : timer_shown l ≡ shown_at_rest elapsed reached

abbrev timed : Timer → ℤ → ℤ → Timer
timed l e q = if int_lt e q then record l { output = true; elapsed = e } else record l { output = false; elapsed = q; running = false }

decided : (l : Timer) (start e q : ℤ) (t : Bool) → Waits l start → RestGives (if t then record l { output = true; elapsed = e } else record l { output = false; elapsed = q; running = false }) start e (if t then None else Some q)
decided l start e q true h = record { state = record { memory = h.memory; running = h.running; start = h.start }; shown = refl }
decided l start e q false h = record { state = record { memory = h.memory; running = refl; elapsed = refl }; shown = refl }

decided_now : (l : Timer) (start now q : ℤ) → start ≤ℤ now → Waits l start → RestGives (timed l (since start now) q) start (now -ℤ start) (or_reached None (now -ℤ start) q)
decided_now l start now q bound h =
    let P : ℤ → Type 0 = λ e. RestGives (timed l e q) start (now -ℤ start) (or_reached None (now -ℤ start) q) in
    subst P (sym (since_is start now bound)) (decided l start (now -ℤ start) q (int_lt (now -ℤ start) q) h)

abbrev fallen : Timer → ℤ → ℤ → Timer
fallen l preset now = tof (record l { input = false; preset = preset }) now

abbrev waiting : Timer → ℤ → ℤ → Timer
waiting l preset start = record { input = false; preset = preset; output = l.output; elapsed = l.elapsed; memory = false; running = true; start = start }

rest_step : (l : Timer) (preset now start : ℤ) (reached : Option ℤ) → start ≤ℤ now → AtRest l start reached → RestGives (fallen l preset now) start (now -ℤ start) (or_reached reached (now -ℤ start) (limit preset))
rest_step l preset now start None bound h = rw h.memory (rw h.running (rw h.start (decided_now (waiting l preset start) start now (limit preset) bound (record { memory = refl; running = refl; start = refl }))))
rest_step l preset now start (Some reached) bound h = rw h.memory (rw h.running (rw h.elapsed (record { state = record { memory = refl; running = refl; elapsed = refl }; shown = refl })))

held_step : (l : Timer) (preset now : ℤ) → now ≤ℤ now → l.memory ≡ true → RestGives (fallen l preset now) now (now -ℤ now) (or_reached None (now -ℤ now) (limit preset))
held_step l preset now bound h = rw h (decided_now (waiting l preset now) now now (limit preset) bound (record { memory = refl; running = refl; start = refl }))

quiet_step : (l : Timer) (preset now : ℤ) → Ends l (pos 0) → RestGives (fallen l preset now) now now (Some (pos 0))
quiet_step l preset now h = rw h.memory (rw h.running (rw h.elapsed (record { state = record { memory = refl; running = refl; elapsed = refl }; shown = refl })))

-- the leaves, by whether some call had IN TRUE, the start of the rest, and the limit that was reached
abbrev OffState : Timer → Bool → Option ℤ → (ℤ → Option ℤ) → Type 0
OffState l false start reached = Ends l (pos 0)
OffState l true None reached = (l.memory ≡ true) × ((start : ℤ) → reached start ≡ None)
OffState l true (Some start) reached = AtRest l start (reached start)

record OffGives (l : Timer) (input : Bool) (preset now : ℤ) (some_on : Bool) (start : Option ℤ) (reached : ℤ → Option ℤ) : Type 0 where
  state : OffState l (input || some_on) (if input then None else Some (unwrap_or start now)) (λ b. if input then None else or_reached (reached b) (now -ℤ b) (limit preset))
  shown : timer_shown l ≡ (if input then record { output = true; elapsed = pos 0 } else if some_on then shown_at_rest (now -ℤ unwrap_or start now) (or_reached (reached (unwrap_or start now)) (now -ℤ unwrap_or start now) (limit preset)) else record { output = false; elapsed = pos 0 })

off_step : (l : Timer) (input : Bool) (preset now : ℤ) (some_on : Bool) (start : Option ℤ) (reached : ℤ → Option ℤ) → unwrap_or start now ≤ℤ now → OffState l some_on start reached → OffGives (tof (record l { input = input; preset = preset }) now) input preset now some_on start reached
off_step l true preset now some_on start reached bound h = record { state = (refl, λ b. refl); shown = refl }
off_step l false preset now false start reached bound h = let g = quiet_step l preset now h in record { state = g.state; shown = g.shown }
off_step l false preset now true None reached bound h =
    let P : Option ℤ → Type 0 = λ r. RestGives (fallen l preset now) now (now -ℤ now) (or_reached r (now -ℤ now) (limit preset)) in
    let g = subst P (sym (h.1 now)) (held_step l preset now bound h.0) in
    record { state = g.state; shown = g.shown }
off_step l false preset now true (Some start) reached bound h = let g = rest_step l preset now start (reached start) bound h in record { state = g.state; shown = g.shown }

off_state : (calls : List TimerCall) → NeverFall calls → OffState (after_tof calls) (list_any (λ d. d.input) calls) (rest_from calls) (λ b. reached_from b calls)
off_state [] fall = record { memory = refl; running = refl; elapsed = refl }
off_state (c ∷ earlier) fall =
    (off_step (after_tof earlier) c.input c.preset c.time (list_any (λ d. d.input) earlier) (rest_from earlier) (λ b. reached_from b earlier) (rested_before c.time earlier fall.0 fall.1) (off_state earlier fall.1)).state

pub tof_law : (calls : List TimerCall) → NeverFall calls → timer_shown (after_tof calls) ≡ tof_shows calls
tof_law [] fall = refl
tof_law (c ∷ earlier) fall =
    (off_step (after_tof earlier) c.input c.preset c.time (list_any (λ d. d.input) earlier) (rest_from earlier) (λ b. reached_from b earlier) (rested_before c.time earlier fall.0 fall.1) (off_state earlier fall.1)).shown
    ∙ shown_is c.input c.time c.preset earlier
