-- What a side tells over a list of events, whichever side it is.
use Rattle.std.specs.Prelude.{◌≡◌, ◌≤◌, ℕ, ℤ, Bool, true, false, List, [], ◌∷◌, if◌then◌else◌}
use Rattle.std.specs.List.{Contains}
use Rattle.plcx_types.specs.Limits.{max_event_time}
use Rattle.plcx_types.specs.Range.{InRange}
use Rattle.plcx_types.specs.Lists.{Each}
use Rattle.plcx_meaning.specs.Base.{Path, put, Stop, Outcome, Ended, Stopped, Stuck}
use Rattle.plcx_meaning.specs.Layout.{Leaf, Restart}

-- a value for one leaf before a scan
pub record Input : Type 0 where
  pub path : Path
  pub value : ℤ

-- a scan at a time, with its inputs, or a restart
pub data Event : Type 0 where
  Scan : (time : ℕ) → List Input → Event
  Again : Restart → Event

-- the inputs are written in their order
abbrev pub put_inputs : List Input → (Path → ℤ) → Path → ℤ
put_inputs [] s = s
put_inputs (i ∷ is) s = put_inputs is (put s i.path i.value)

-- A side: its leaves, how it begins from a retained state, what a scan with a budget at a time does, what a restart does, and its values.
pub record Machine (G : Type 0) : Type 0 where
  pub layout : List Leaf
  pub begin : (Path → ℤ) → G
  pub scan : (turns time : ℕ) → List Input → G → Outcome G (Unit {0})
  pub restart : Restart → G → G
  pub value : G → Path → ℤ

-- what is told of an event
pub data Told : Type 0 where
  TheEnd Halted Restarted NoStep : Told
  TheStop : Stop → Told

-- A side between two events: after a fault or out of turns it is halted. The time is that of its last scan, 0 before the first.
pub record Side (G : Type 0) : Type 0 where
  pub state : G
  pub halted : Bool
  pub last : ℕ

-- how a scan came out, as it is told
abbrev pub told_of : {G : Type 0} → Outcome G (Unit {0}) → Told
told_of (Ended g u) = TheEnd
told_of (Stopped s g) = TheStop s
told_of Stuck = NoStep

-- after a scan at a time
abbrev pub side_after : {G : Type 0} → ℕ → G → Outcome G (Unit {0}) → Side G
side_after time old (Ended g u) = record { state = g; halted = false; last = time }
side_after time old (Stopped s g) = record { state = g; halted = true; last = time }
side_after time old Stuck = record { state = old; halted = true; last = time }

-- Each scan has the whole budget. Until a restart a halted side changes nothing in a scan but its time; a restart keeps that.
abbrev pub tells : {G : Type 0} → Machine G → ℕ → Event → Side G → Told
tells m n (Scan time inputs) s = if s.halted then Halted else told_of (m.scan n time inputs s.state)
tells m n (Again r) s = Restarted

-- the side after an event, with a budget of turns
abbrev pub after : {G : Type 0} → Machine G → ℕ → Event → Side G → Side G
after m n (Scan time inputs) s = if s.halted then record s { last = time } else side_after time s.state (m.scan n time inputs s.state)
after m n (Again r) s = record { state = m.restart r s.state; halted = false; last = s.last }

-- what the time of the last scan is after an event
abbrev pub last_after : ℕ → Event → ℕ
last_after last (Scan time inputs) = time
last_after last (Again r) = last

-- a side before its first event, begun from a retained state
abbrev pub begin_side : {G : Type 0} → Machine G → (Path → ℤ) → Side G
begin_side m kept = record { state = m.begin kept; halted = false; last = 0 }

-- an input names a settable leaf and has a value of its type
abbrev pub IsInput : List Leaf → Input → Type 0
IsInput leaves i = (leaf : Leaf) × Contains leaves leaf × (leaf.settable ≡ true) × (leaf.path ≡ i.path) × InRange leaf.ty i.value

-- times lie within their limit and do not fall, from that of the last scan on
abbrev pub AreEvents : List Leaf → (last : ℕ) → List Event → Type 0
AreEvents leaves last [] = Unit {0}
AreEvents leaves last (Scan time inputs ∷ es) = (last ≤ time) × (time ≤ max_event_time) × Each (IsInput leaves) inputs × AreEvents leaves time es
AreEvents leaves last (Again r ∷ es) = AreEvents leaves last es

-- the events can come next to a side
abbrev pub CanFollow : {G : Type 0} → Machine G → Side G → List Event → Type 0
CanFollow m s es = AreEvents m.layout s.last es
