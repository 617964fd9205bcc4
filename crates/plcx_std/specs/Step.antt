-- One call of each standard block. A leaf that a line does not set stays as it is.
use Rattle.std.specs.Prelude.{ℤ, pos, negsuc, ◌+ℤ◌, ◌-ℤ◌, int_lt, int_le, Bool, true, false, ◌&&◌, ◌||◌, not, if◌then◌else◌}
use Rattle.plcx_std.specs.declared.leaves.OnDelay.{OnDelay}
use Rattle.plcx_std.specs.declared.leaves.Timer.{Timer}
use Rattle.plcx_std.specs.declared.leaves.UpCounter.{UpCounter}
use Rattle.plcx_std.specs.declared.leaves.DownCounter.{DownCounter}
use Rattle.plcx_std.specs.declared.leaves.UpDownCounter.{UpDownCounter}
use Rattle.plcx_std.specs.declared.leaves.Latch.{Latch}
use Rattle.plcx_std.specs.declared.leaves.Edge.{Edge}

-- the time from a start to now, and 0 where the start comes later
abbrev pub since : ℤ → ℤ → ℤ
since start now = if int_lt (pos 0) (now -ℤ start) then now -ℤ start else pos 0

-- the time that a preset stands for: a negative one for 0
abbrev pub limit : ℤ → ℤ
limit preset = if int_lt (pos 0) preset then preset else pos 0

-- the lesser of two
abbrev pub lesser : ℤ → ℤ → ℤ
lesser a b = if int_lt a b then a else b

-- TON: a run starts now where there is none
abbrev pub on_started : OnDelay → ℤ → OnDelay
on_started l now = if l.running then l else record l { running = true; start = now }

-- TON: within a run Q is whether the limit is reached
abbrev pub on_timed : OnDelay → ℤ → OnDelay
on_timed l now = record l { output = int_le (limit l.preset) (since l.start now); elapsed = lesser (since l.start now) (limit l.preset) }

-- TON
abbrev pub ton : OnDelay → ℤ → OnDelay
ton l now = if l.input then on_timed (on_started l now) now else record l { running = false; start = pos 0; output = false; elapsed = pos 0 }

-- TOF: a run starts now where the input has fallen
abbrev pub off_started : Timer → ℤ → Timer
off_started l now = if l.memory then record l { memory = false; running = true; start = now } else l

-- TOF: within a run Q stays until the limit is reached, which ends the run
abbrev pub off_timed : Timer → ℤ → Timer
off_timed l now =
    if l.running
    then (if int_lt (since l.start now) (limit l.preset)
    then record l { output = true; elapsed = since l.start now }
    else record l { output = false; elapsed = limit l.preset; running = false })
    else record l { output = false }

-- TOF
abbrev pub tof : Timer → ℤ → Timer
tof l now = if l.input then record l { memory = true; running = false; start = pos 0; output = true; elapsed = pos 0 } else off_timed (off_started l now) now

-- TP: a pulse ends at its limit
abbrev pub pulse_ended : Timer → ℤ → Timer
pulse_ended l now = if l.running && int_le (limit l.preset) (since l.start now) then record l { running = false; elapsed = limit l.preset } else l

-- TP: the input rises where no pulse is, and a pulse starts if its limit is above 0
abbrev pub pulse_begun : Timer → ℤ → Timer
pulse_begun l now = if l.input && not l.memory && not l.running
    then (if int_lt (pos 0) (limit l.preset) then record l { elapsed = pos 0; running = true; start = now } else record l { elapsed = pos 0 }) else l

-- TP: Q is whether a pulse is
abbrev pub pulse_shown : Timer → ℤ → Timer
pulse_shown l now = if l.running then record l { output = true; elapsed = since l.start now } else record l { output = false; elapsed = if l.input then l.elapsed else pos 0 }

-- TP
abbrev pub tp : Timer → ℤ → Timer
tp l now = record (pulse_shown (pulse_begun (pulse_ended l now) now) now) { memory = l.input }

-- an input is TRUE and was not before
abbrev pub rises : Bool → Bool → Bool
rises input memory = input && not memory

-- a count goes up to 32767 at most
abbrev pub one_more : ℤ → ℤ
one_more count = if int_lt count (pos 32767) then count +ℤ pos 1 else count

-- a count goes down to -32768 at least
abbrev pub one_less : ℤ → ℤ
one_less count = if int_lt (negsuc 32767) count then count -ℤ pos 1 else count

-- CV of a CTU
abbrev pub count_of_ctu : UpCounter → ℤ
count_of_ctu l = if l.reset then pos 0 else if rises l.up l.memory then one_more l.count else l.count

-- CTU
abbrev pub ctu : UpCounter → UpCounter
ctu l = record l { count = count_of_ctu l; output = int_le l.preset (count_of_ctu l); memory = l.up }

-- CV of a CTD
abbrev pub count_of_ctd : DownCounter → ℤ
count_of_ctd l = if l.load then l.preset else if rises l.down l.memory then one_less l.count else l.count

-- CTD
abbrev pub ctd : DownCounter → DownCounter
ctd l = record l { count = count_of_ctd l; output = int_le (count_of_ctd l) (pos 0); memory = l.down }

-- both edges at once leave the count as it is
abbrev pub count_by_edges : Bool → Bool → ℤ → ℤ
count_by_edges up down count = if up && down then count else if up then one_more count else if down then one_less count else count

-- CV of a CTUD
abbrev pub count_of_ctud : UpDownCounter → ℤ
count_of_ctud l = if l.reset then pos 0 else if l.load then l.preset else count_by_edges (rises l.up l.memory_up) (rises l.down l.memory_down) l.count

-- CTUD
abbrev pub ctud : UpDownCounter → UpDownCounter
ctud l = record l { count = count_of_ctud l; output_up = int_le l.preset (count_of_ctud l); output_down = int_le (count_of_ctud l) (pos 0); memory_up = l.up; memory_down = l.down }

-- SR
abbrev pub sr : Latch → Latch
sr l = record l { output = l.set || (not l.reset && l.output) }

-- RS
abbrev pub rs : Latch → Latch
rs l = record l { output = not l.reset && (l.set || l.output) }

-- R_TRIG
abbrev pub r_trig : Edge → Edge
r_trig l = record l { output = l.clock && not l.memory; memory = l.clock }

-- F_TRIG
abbrev pub f_trig : Edge → Edge
f_trig l = record l { output = not l.clock && not l.memory; memory = not l.clock }
