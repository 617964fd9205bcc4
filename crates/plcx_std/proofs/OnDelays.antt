-- TON over its calls.
use Rattle.std.proofs.Common.{◌≡◌, Bool, true, false, List, [], ◌∷◌, refl, ap, ◌∙◌, sym, arith, ℤ, pos, ◌-ℤ◌, ◌≤ℤ◌, Option, Some, None}
use Rattle.std.specs.Prelude.{if◌then◌else◌, int_le, unwrap_or, is_some}
use Rattle.std.proofs.lemmas.Int.{ints}
use Rattle.plcx_std.specs.declared.leaves.OnDelay.{OnDelay}
use Rattle.plcx_std.specs.Step.{since, limit, lesser, ton}
use Rattle.plcx_std.specs.History.{TimerCall, NotBefore, NeverFall, Shown, first_time, last_run, run_start, shown_in_run, ton_shows}
use Rattle.plcx_std.specs.Calls.{after_ton, on_delay_shown}

pub since_is : (start now : ℤ) → start ≤ℤ now → since start now ≡ now -ℤ start
since_is start now h = grind (arith, ints)

-- the start of a run, call by call
abbrev run_from : List TimerCall → Option ℤ
run_from [] = None
run_from (c ∷ earlier) = if c.input then Some (unwrap_or (run_from earlier) c.time) else None

pushed_run : (input : Bool) (c : TimerCall) (run : List TimerCall) → first_time (if input then c ∷ run else []) ≡ (if input then Some (unwrap_or (first_time run) c.time) else None)
pushed_run true c run = refl
pushed_run false c run = refl

run_is : (calls : List TimerCall) → run_start calls ≡ run_from calls
run_is [] = refl
run_is (c ∷ earlier) = pushed_run c.input c (last_run (λ d. d.input) earlier) ∙ ap (λ r. if c.input then Some (unwrap_or r c.time) else None) (run_is earlier)

-- the start of a run, where this call belongs to it, is not after this call
run_bound : (input : Bool) (start time now : ℤ) → start ≤ℤ time → time ≤ℤ now → unwrap_or (if input then Some start else None) now ≤ℤ now
run_bound true start time now h k = omega (arith, ints)
run_bound false start time now h k = omega (arith, ints)

pub started_before : (now : ℤ) (earlier : List TimerCall) → NotBefore now earlier → NeverFall earlier → unwrap_or (run_from earlier) now ≤ℤ now
started_before now [] h fall = omega (arith, ints)
started_before now (c ∷ earlier) h fall = run_bound c.input _ c.time now (started_before c.time earlier fall.0 fall.1) h

-- the stored run is that of the calls
record Follows (l : OnDelay) (run : Option ℤ) : Type 0 where
  running : l.running ≡ is_some run
  start : l.start ≡ unwrap_or run (pos 0)

follow_step : (l : OnDelay) (input : Bool) (preset now : ℤ) (run : Option ℤ) → Follows l run → Follows (ton (record l { input = input; preset = preset }) now) (if input then Some (unwrap_or run now) else None)
follow_step l false preset now run h = record { running = refl; start = refl }
follow_step l true preset now None h = rw h.running (record { running = refl; start = refl })
follow_step l true preset now (Some s) h = rw h.running (record { running = refl; start = h.start })

follows : (calls : List TimerCall) → Follows (after_ton calls) (run_from calls)
follows [] = record { running = refl; start = refl }
follows (c ∷ earlier) = follow_step (after_ton earlier) c.input c.preset c.time (run_from earlier) (follows earlier)

abbrev shown_by : ℤ → ℤ → Shown
shown_by p e = record { output = int_le p e; elapsed = lesser e p }

shown_at : (preset now start : ℤ) → start ≤ℤ now → shown_by (limit preset) (since start now) ≡ shown_by (limit preset) (now -ℤ start)
shown_at preset now start h = ap (shown_by (limit preset)) (since_is start now h)

show_step : (l : OnDelay) (input : Bool) (preset now : ℤ) (run : Option ℤ) → unwrap_or run now ≤ℤ now → Follows l run → on_delay_shown (ton (record l { input = input; preset = preset }) now) ≡ shown_in_run (record { time = now; input = input; preset = preset }) (if input then Some (unwrap_or run now) else None)
show_step l false preset now run bound h = refl
show_step l true preset now None bound h = rw h.running (shown_at preset now now bound)
show_step l true preset now (Some s) bound h = rw h.running (rw h.start (shown_at preset now s bound))

pub ton_law : (calls : List TimerCall) → NeverFall calls → on_delay_shown (after_ton calls) ≡ ton_shows calls
ton_law [] fall = refl
ton_law (c ∷ earlier) fall =
    show_step (after_ton earlier) c.input c.preset c.time (run_from earlier) (started_before c.time earlier fall.0 fall.1) (follows earlier)
    ∙ ap (shown_in_run c) (sym (run_is (c ∷ earlier)))
