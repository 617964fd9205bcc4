-- Serves proofs: how events are kept, the inputs of all scans in one list.
use Rattle.std.specs.Prelude.{◌≡◌, ◌+◌, ◌++◌, ℕ, List, [], ◌∷◌, Option, Some, None, length, take, drop}
use Rattle.plcx_scan.specs.declared.event.Entry.{Entry}
use Rattle.plcx_scan.specs.declared.event.Entry.TheVariants as entry
use Rattle.plcx_scan.specs.declared.event.Input.{Input}
use Rattle.plcx_scan.specs.Events.{Event, Scan, Warm, Cold}

-- how many inputs an entry has
abbrev pub count_of : Entry → ℕ
count_of (entry.Scan time count) = count
count_of entry.Warm = 0
count_of entry.Cold = 0

-- an entry and its inputs are an event
abbrev pub event_of : Entry → List Input → Event
event_of (entry.Scan time count) inputs = Scan time inputs
event_of entry.Warm inputs = Warm
event_of entry.Cold inputs = Cold

-- how many inputs entries have
abbrev pub count_all : List Entry → ℕ
count_all [] = 0
count_all (e ∷ es) = count_of e + count_all es

-- entries are events: each takes its inputs from the front of those that are left
abbrev pub events_of : List Entry → List Input → List Event
events_of [] inputs = []
events_of (e ∷ es) inputs = event_of e (take (count_of e) inputs) ∷ events_of es (drop (count_of e) inputs)

-- an event that was read, if any, is this entry, and its inputs stand behind those before it
abbrev pub WasRead : Option Event → List Input → List Input → Option Entry → Type 0
WasRead event before behind None = event ≡ None
WasRead event before behind (Some e) = (inputs : List Input) × (behind ≡ before ++ inputs) × (length inputs ≡ count_of e) × (event ≡ Some (event_of e inputs))
