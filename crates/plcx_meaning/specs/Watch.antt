-- What a watch hears of a program over a list of events.
use Rattle.std.specs.Prelude.{ℕ, List, [], ◌∷◌, ◌++◌, if◌then◌else◌}
use Rattle.plcx_meaning.specs.Base.{Outcome, Ended, Stopped, Stuck}
use Rattle.plcx_meaning.specs.Run.{Event, Scan, Again, Side, after}
use Rattle.plcx_meaning.specs.Diagram.{Pou, Project}
use Rattle.plcx_meaning.specs.Evaluate.{Heard, DiagramState, scan_does, diagram_machine}

-- what was heard before a fault, or before the turns were used up, stays heard
abbrev pub heard_of : Outcome DiagramState (Unit {0}) → List Heard
heard_of (Ended d u) = d.heard
heard_of (Stopped s d) = d.heard
heard_of Stuck = []

-- of a scan that is halted, and of a restart, nothing is heard
abbrev pub heard_at : Project → Pou → (turns : ℕ) → Event → Side DiagramState → List Heard
heard_at project p turns (Scan time inputs) s = if s.halted then [] else heard_of (scan_does project p turns time inputs s.state)
heard_at project p turns (Again r) s = []

-- of all events, one after another
abbrev pub heard_over : Project → Pou → (turns : ℕ) → List Event → Side DiagramState → List Heard
heard_over project p turns [] s = []
heard_over project p turns (e ∷ es) s = heard_at project p turns e s ++ heard_over project p turns es (after (diagram_machine project p) turns e s)

-- a state of which more was heard before
abbrev pub earlier : List Heard → DiagramState → DiagramState
earlier hs d = record d { heard = hs ++ d.heard }

-- and a piece of a scan
abbrev pub heard_earlier : {L : Type 0} → List Heard → Outcome DiagramState L → Outcome DiagramState L
heard_earlier hs (Ended d l) = Ended (earlier hs d) l
heard_earlier hs (Stopped s d) = Stopped s (earlier hs d)
heard_earlier hs Stuck = Stuck
