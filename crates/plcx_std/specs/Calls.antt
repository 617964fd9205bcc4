-- The leaves of a standard block after a list of calls on default leaves, between which inputs alone are set. A list has its last call first.
use Rattle.std.specs.Prelude.{pos, Bool, false, List, [], ◌∷◌}
use Rattle.plcx_std.specs.declared.leaves.OnDelay.{OnDelay}
use Rattle.plcx_std.specs.declared.leaves.Timer.{Timer}
use Rattle.plcx_std.specs.declared.leaves.UpCounter.{UpCounter}
use Rattle.plcx_std.specs.declared.leaves.DownCounter.{DownCounter}
use Rattle.plcx_std.specs.declared.leaves.UpDownCounter.{UpDownCounter}
use Rattle.plcx_std.specs.declared.leaves.Latch.{Latch}
use Rattle.plcx_std.specs.declared.leaves.Edge.{Edge}
use Rattle.plcx_std.specs.Step.{r_trig, f_trig, sr, rs, ctu, ctd, ton, tof, tp}
use Rattle.plcx_std.specs.History.{LatchCall, CounterCall, TimerCall, Shown}

-- an R_TRIG or F_TRIG before any call
abbrev pub default_edge : Edge
default_edge = record { clock = false; output = false; memory = false }

-- an R_TRIG after calls with these values of CLK
abbrev pub after_r_trig : List Bool → Edge
after_r_trig [] = default_edge
after_r_trig (clock ∷ earlier) = r_trig (record (after_r_trig earlier) { clock = clock })

-- an F_TRIG after calls with these values of CLK
abbrev pub after_f_trig : List Bool → Edge
after_f_trig [] = default_edge
after_f_trig (clock ∷ earlier) = f_trig (record (after_f_trig earlier) { clock = clock })

-- an SR or RS before any call
abbrev pub default_latch : Latch
default_latch = record { set = false; reset = false; output = false }

-- an SR after these calls
abbrev pub after_sr : List LatchCall → Latch
after_sr [] = default_latch
after_sr (c ∷ earlier) = sr (record (after_sr earlier) { set = c.set; reset = c.reset })

-- an RS after these calls
abbrev pub after_rs : List LatchCall → Latch
after_rs [] = default_latch
after_rs (c ∷ earlier) = rs (record (after_rs earlier) { set = c.set; reset = c.reset })

-- a CTU before any call
abbrev pub default_up : UpCounter
default_up = record { up = false; reset = false; preset = pos 0; output = false; count = pos 0; memory = false }

-- a CTU after these calls
abbrev pub after_ctu : List CounterCall → UpCounter
after_ctu [] = default_up
after_ctu (c ∷ earlier) = ctu (record (after_ctu earlier) { up = c.input; reset = c.over; preset = c.preset })

-- a CTD before any call
abbrev pub default_down : DownCounter
default_down = record { down = false; load = false; preset = pos 0; output = false; count = pos 0; memory = false }

-- a CTD after these calls
abbrev pub after_ctd : List CounterCall → DownCounter
after_ctd [] = default_down
after_ctd (c ∷ earlier) = ctd (record (after_ctd earlier) { down = c.input; load = c.over; preset = c.preset })

-- a CTUD before any call
abbrev pub default_up_down : UpDownCounter
default_up_down = record { up = false; down = false; reset = false; load = false; preset = pos 0; output_up = false; output_down = false; count = pos 0; memory_up = false; memory_down = false }

-- a TON before any call
abbrev pub default_on_delay : OnDelay
default_on_delay = record { input = false; preset = pos 0; output = false; elapsed = pos 0; running = false; start = pos 0 }

-- a TON after these calls
abbrev pub after_ton : List TimerCall → OnDelay
after_ton [] = default_on_delay
after_ton (c ∷ earlier) = ton (record (after_ton earlier) { input = c.input; preset = c.preset }) c.time

-- a TOF or TP before any call
abbrev pub default_timer : Timer
default_timer = record { input = false; preset = pos 0; output = false; elapsed = pos 0; memory = false; running = false; start = pos 0 }

-- a TOF after these calls
abbrev pub after_tof : List TimerCall → Timer
after_tof [] = default_timer
after_tof (c ∷ earlier) = tof (record (after_tof earlier) { input = c.input; preset = c.preset }) c.time

-- a TP after these calls
abbrev pub after_tp : List TimerCall → Timer
after_tp [] = default_timer
after_tp (c ∷ earlier) = tp (record (after_tp earlier) { input = c.input; preset = c.preset }) c.time

-- what a TON, a TOF or a TP shows of its leaves
abbrev pub on_delay_shown : OnDelay → Shown
on_delay_shown l = record { output = l.output; elapsed = l.elapsed }

-- what a TOF or a TP shows
abbrev pub timer_shown : Timer → Shown
timer_shown l = record { output = l.output; elapsed = l.elapsed }
