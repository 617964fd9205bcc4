-- TP over its calls.
use Rattle.std.proofs.Common.{◌≡◌, Bool, true, false, not, ◌&&◌, List, [], ◌∷◌, refl, ap, ◌∙◌, sym, subst, arith, ℤ, pos, ◌-ℤ◌, ◌≤ℤ◌, Option, Some, None}
use Rattle.std.specs.Prelude.{if◌then◌else◌, int_lt, int_le, unwrap_or}
use Rattle.std.proofs.lemmas.Int.{ints}
use Rattle.plcx_std.specs.declared.leaves.Timer.{Timer}
use Rattle.plcx_std.specs.Step.{since, limit, tp, pulse_begun, pulse_shown}
use Rattle.plcx_std.specs.History.{TimerCall, NotBefore, NeverFall, was, shown_of_pulse, tp_shows}
use Rattle.plcx_std.proofs.PulseSteps.{next_pulse, pulse, pulse_limit, rest_after, shows_by_steps, shows_as_told}
use Rattle.plcx_std.specs.Calls.{after_tp, timer_shown}
use Rattle.plcx_std.proofs.OnDelays.{since_is}

le_is_not_lt : (a b : ℤ) → int_le a b ≡ not (int_lt b a)
le_is_not_lt a b = grind (arith, ints)

begun_bound : (t : Bool) (time now : ℤ) → time ≤ℤ now → unwrap_or (if t then Some time else None) now ≤ℤ now
begun_bound true time now h = h
begun_bound false time now h = omega (arith, ints)

open_bound : (t u : Bool) (start time now : ℤ) → start ≤ℤ time → time ≤ℤ now → unwrap_or (if t then Some start else if u then Some time else None) now ≤ℤ now
open_bound true u start time now h k = omega (arith, ints)
open_bound false u start time now h k = begun_bound u time now k

next_bound : (before : Option ℤ) (c : TimerCall) (rises : Bool) (now : ℤ) → unwrap_or before c.time ≤ℤ c.time → c.time ≤ℤ now → unwrap_or (next_pulse before c rises) now ≤ℤ now
next_bound None c rises now h k = begun_bound (rises && int_lt (pos 0) (limit c.preset)) c.time now k
next_bound (Some start) c rises now h k = open_bound (int_lt (c.time -ℤ start) (limit c.preset)) (rises && int_lt (pos 0) (limit c.preset)) start c.time now h k

pulse_before : (now : ℤ) (earlier : List TimerCall) → NotBefore now earlier → NeverFall earlier → unwrap_or (pulse earlier) now ≤ℤ now
pulse_before now [] h fall = omega (arith, ints)
pulse_before now (c ∷ earlier) h fall = next_bound (pulse earlier) c _ now (pulse_before c.time earlier fall.0 fall.1) h

-- the leaves within a pulse of that start, or with no pulse
record Pulses (l : Timer) (from : ℤ) : Type 0 where
  running : l.running ≡ true
  start : l.start ≡ from

record Rests (l : Timer) (shown : ℤ) : Type 0 where
  running : l.running ≡ false
  elapsed : l.elapsed ≡ shown

abbrev PulseState : Timer → Option ℤ → ℤ → Type 0
PulseState l None rest = Rests l rest
PulseState l (Some start) rest = Pulses l start

record PulseGives (l : Timer) (now : ℤ) (open_at : Option ℤ) (rest : ℤ) : Type 0 where
  state : PulseState l open_at rest
  shown : timer_shown l ≡ shown_of_pulse now open_at rest

-- the leaves with all but the start of an old run given
abbrev leaves : Bool → ℤ → Bool → ℤ → Bool → Bool → ℤ → Timer
leaves input preset output elapsed memory running start = record { input = input; preset = preset; output = output; elapsed = elapsed; memory = memory; running = running; start = start }

-- the last two steps
abbrev later : Bool → Timer → ℤ → Timer
later input l now = record (pulse_shown (pulse_begun l now) now) { memory = input }

at_once : (l : Timer) (now : ℤ) → l.running ≡ true → l.start ≡ now → now ≤ℤ now → timer_shown (pulse_shown l now) ≡ record { output = true; elapsed = now -ℤ now }
at_once l now h k bound = rw h (rw k (ap (λ e. record { output = true; elapsed = e }) (since_is now now bound)))

begin_by : (preset now start : ℤ) (output : Bool) (t : Bool) → now ≤ℤ now → PulseGives (record (pulse_shown (if t then leaves true preset output (pos 0) false true now else leaves true preset output (pos 0) false false start) now) { memory = true }) now (if t then Some now else None) (pos 0)
begin_by preset now start output true bound = record { state = record { running = refl; start = refl }; shown = at_once (leaves true preset output (pos 0) false true now) now refl refl bound }
begin_by preset now start output false bound = record { state = record { running = refl; elapsed = refl }; shown = refl }

idle_step : (input memory output : Bool) (preset now start rest : ℤ) → now ≤ℤ now → PulseGives (later input (leaves input preset output rest memory false start) now) now (if (input && not memory) && int_lt (pos 0) (limit preset) then Some now else None) (if input && memory then rest else pos 0)
idle_step true true output preset now start rest bound = record { state = record { running = refl; elapsed = refl }; shown = refl }
idle_step true false output preset now start rest bound = begin_by preset now start output (int_lt (pos 0) (limit preset)) bound
idle_step false true output preset now start rest bound = record { state = record { running = refl; elapsed = refl }; shown = refl }
idle_step false false output preset now start rest bound = record { state = record { running = refl; elapsed = refl }; shown = refl }

-- within a pulse nothing begins
kept_step : (input memory output : Bool) (preset elapsed now start rest : ℤ) → start ≤ℤ now → PulseGives (later input (leaves input preset output elapsed memory true start) now) now (Some start) rest
kept_step true true output preset elapsed now start rest bound = record { state = record { running = refl; start = refl }; shown = ap (λ e. record { output = true; elapsed = e }) (since_is start now bound) }
kept_step true false output preset elapsed now start rest bound = record { state = record { running = refl; start = refl }; shown = ap (λ e. record { output = true; elapsed = e }) (since_is start now bound) }
kept_step false true output preset elapsed now start rest bound = record { state = record { running = refl; start = refl }; shown = ap (λ e. record { output = true; elapsed = e }) (since_is start now bound) }
kept_step false false output preset elapsed now start rest bound = record { state = record { running = refl; start = refl }; shown = ap (λ e. record { output = true; elapsed = e }) (since_is start now bound) }

-- a pulse that was open goes on, or ends and leaves room for another
open_by : (input memory output : Bool) (preset elapsed now start : ℤ) (t : Bool) → start ≤ℤ now → now ≤ℤ now → PulseGives (later input (if not t then leaves input preset output (limit preset) memory false start else leaves input preset output elapsed memory true start) now) now (if t then Some start else if (input && not memory) && int_lt (pos 0) (limit preset) then Some now else None) (if input && memory then limit preset else pos 0)
open_by input memory output preset elapsed now start true bound same = kept_step input memory output preset elapsed now start (if input && memory then limit preset else pos 0) bound
open_by input memory output preset elapsed now start false bound same = idle_step input memory output preset now start (limit preset) same

open_step : (input memory output : Bool) (preset elapsed now start : ℤ) → start ≤ℤ now → now ≤ℤ now → PulseGives (tp (leaves input preset output elapsed memory true start) now) now (if int_lt (now -ℤ start) (limit preset) then Some start else if (input && not memory) && int_lt (pos 0) (limit preset) then Some now else None) (if input && memory then limit preset else pos 0)
open_step input memory output preset elapsed now start bound same =
    let P : Bool → Type 0 = λ t. PulseGives (later input (if t then leaves input preset output (limit preset) memory false start else leaves input preset output elapsed memory true start) now) now (if int_lt (now -ℤ start) (limit preset) then Some start else if (input && not memory) && int_lt (pos 0) (limit preset) then Some now else None) (if input && memory then limit preset else pos 0) in
    let ended : int_le (limit preset) (since start now) ≡ not (int_lt (now -ℤ start) (limit preset)) = ap (λ e. int_le (limit preset) e) (since_is start now bound) ∙ le_is_not_lt (limit preset) (now -ℤ start) in
    let g = open_by input memory output preset elapsed now start (int_lt (now -ℤ start) (limit preset)) bound same in
    subst P (sym ended) (record { state = g.state; shown = g.shown })

pulse_step : (l : Timer) (c : TimerCall) (memory : Bool) (before : Option ℤ) (rest : ℤ) → l.memory ≡ memory → unwrap_or before c.time ≤ℤ c.time → c.time ≤ℤ c.time → PulseState l before rest → PulseGives (tp (record l { input = c.input; preset = c.preset }) c.time) c.time (next_pulse before c (c.input && not memory)) (if c.input && memory then pulse_limit before c rest else pos 0)
pulse_step l c memory None rest m bound same h = rw m (rw h.running (rw h.elapsed (idle_step c.input memory l.output c.preset c.time l.start rest same)))
pulse_step l c memory (Some start) rest m bound same h = rw m (rw h.running (rw h.start (open_step c.input memory l.output c.preset l.elapsed c.time start bound same)))

pulse_memory : (calls : List TimerCall) → (after_tp calls).memory ≡ was (λ d. d.input) calls
pulse_memory [] = refl
pulse_memory (c ∷ earlier) = refl

same_time : (z : ℤ) → z ≤ℤ z
same_time z = omega (arith, ints)

pulse_state : (calls : List TimerCall) → NeverFall calls → PulseState (after_tp calls) (pulse calls) (rest_after calls)
pulse_state [] fall = record { running = refl; elapsed = refl }
pulse_state (c ∷ earlier) fall =
    (pulse_step (after_tp earlier) c (was (λ d. d.input) earlier) (pulse earlier) (rest_after earlier) (pulse_memory earlier) (pulse_before c.time earlier fall.0 fall.1) (same_time c.time) (pulse_state earlier fall.1)).state

by_steps : (calls : List TimerCall) → NeverFall calls → timer_shown (after_tp calls) ≡ shows_by_steps calls
by_steps [] fall = refl
by_steps (c ∷ earlier) fall =
    (pulse_step (after_tp earlier) c (was (λ d. d.input) earlier) (pulse earlier) (rest_after earlier) (pulse_memory earlier) (pulse_before c.time earlier fall.0 fall.1) (same_time c.time) (pulse_state earlier fall.1)).shown

pub tp_law : (calls : List TimerCall) → NeverFall calls → timer_shown (after_tp calls) ≡ tp_shows calls
tp_law calls fall = by_steps calls fall ∙ shows_as_told calls
