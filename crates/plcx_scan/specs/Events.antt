-- Events by the numbers of leaves: what they are in the words of the meaning, and which may come next.
use Rattle.std.specs.Prelude.{◌≡◌, ◌≤◌, ℕ, ℤ, pos, nat_abs, true, List, [], ◌∷◌, Option, Some, None, map, slice_get}
use Rattle.plcx_types.specs.Limits.{max_event_time}
use Rattle.plcx_types.specs.Lists.{Each}
use Rattle.plcx_types.specs.Range.{InRange}
use Rattle.plcx_meaning.specs.Base.{Path}
use Rattle.plcx_meaning.specs.Layout as layout
use Rattle.plcx_meaning.specs.Run as meant
use Rattle.plcx_state.specs.declared.layout.Leaf.{Leaf}
use Rattle.plcx_state.specs.Layouts.{meant_path}
use Rattle.plcx_scan.specs.declared.event.Input.{Input}

-- a scan at a time in milliseconds with its inputs in order, or a restart
pub data Event : Type 0 where
  Scan : ℤ → List Input → Event
  Warm : Event
  Cold : Event

-- the path of a leaf that was looked up, the empty one where there is none
abbrev pub path_of : Option Leaf → Path
path_of None = []
path_of (Some leaf) = meant_path leaf.path

-- an input: a value for the leaf at a path
abbrev pub meant_input : List Leaf → Input → meant.Input
meant_input leaves input = record { path = path_of (slice_get leaves input.leaf); value = input.value.n }

-- a scan at a time, with its inputs
abbrev pub scan_of : List Leaf → ℤ → List Input → meant.Event
scan_of leaves time inputs = meant.Scan (nat_abs time) (map (meant_input leaves) inputs)

-- an event in the words of the meaning
abbrev pub meant_event : List Leaf → Event → meant.Event
meant_event leaves (Scan time inputs) = scan_of leaves time inputs
meant_event leaves Warm = meant.Again layout.Warm
meant_event leaves Cold = meant.Again layout.Cold

-- and events, in order
abbrev pub meant_events : List Leaf → List Event → List meant.Event
meant_events leaves events = map (meant_event leaves) events

-- a time that may come next: not before the last one, and within its limit
pub record IsNext (last : ℕ) (time : ℤ) : Type 0 where
  pub time_is : time ≡ pos (nat_abs time)
  pub not_before : last ≤ nat_abs time
  pub within : nat_abs time ≤ max_event_time

-- a value of its type for a settable leaf
pub record IsInput (leaves : List Leaf) (input : Input) : Type 0 where
  pub leaf : Leaf
  pub there : slice_get leaves input.leaf ≡ Some leaf
  pub settable : leaf.settable ≡ true
  pub typed : input.value.ty ≡ leaf.ty
  pub range : InRange leaf.ty input.value.n

-- an event that may come next, where the last scan was at this time
abbrev pub CanBeNext : List Leaf → ℕ → Event → Type 0
CanBeNext leaves last (Scan time inputs) = IsNext last time × Each (IsInput leaves) inputs
CanBeNext leaves last Warm = Unit {0}
CanBeNext leaves last Cold = Unit {0}

-- the time of the last scan after an event
abbrev pub last_after : ℕ → Event → ℕ
last_after last (Scan time inputs) = nat_abs time
last_after last Warm = last
last_after last Cold = last

-- the time of the last scan after events
abbrev pub last_at_end : ℕ → List Event → ℕ
last_at_end last [] = last
last_at_end last (event ∷ events) = last_at_end (last_after last event) events

-- events that may come one after another
abbrev pub CanFollow : List Leaf → ℕ → List Event → Type 0
CanFollow leaves last [] = Unit {0}
CanFollow leaves last (event ∷ events) = CanBeNext leaves last event × CanFollow leaves (last_after last event) events
