-- What a run leaves whose wires are counted.
use Rattle.std.specs.Prelude.{◌≡◌, ◌≤◌, ℕ, List, length, take}
use Rattle.plcx_meaning.specs.Evaluate.{DiagramState}
use Rattle.plcx_meaning.specs.Run.{Event, Side}
use Rattle.plcx_meaning.specs.Watch.{heard_over}
use Rattle.plcx_scan.specs.Sides.{BringsAll}
use Rattle.plcx_eval.specs.declared.side.DiagramSide.{DiagramSide}
use Rattle.plcx_eval.specs.Sides.{diagrams, program, machine_of, StandsFor}
use Rattle.plcx_cover.specs.declared.counting.CoverRow.{CoverRow}
use Rattle.plcx_cover.specs.Counts.{all_grown}

-- rows have grown by all outputs that are heard of what a side stands for over these events
abbrev pub Grows : (turns : ℕ) → List Event → DiagramSide → (before behind : List CoverRow) → Type 0
Grows turns es s before behind = (g : Side DiagramState) → StandsFor s g → behind ≡ all_grown (heard_over (diagrams s) (program s) turns es g) before

-- and so they have over a front of them
abbrev pub GrowsSome : (turns : ℕ) → List Event → DiagramSide → (before behind : List CoverRow) → Type 0
GrowsSome turns es s before behind = (count : ℕ) × (count ≤ length es) × Grows turns (take count es) s before behind

-- the events lead from what a side stood for to what it stands for now, and rows have grown by all outputs that are heard over them
pub record Covers (turns : ℕ) (es : List Event) (old new : DiagramSide) (before behind : List CoverRow) : Type 0 where
  pub brings : BringsAll (machine_of old) turns es (StandsFor old) (StandsFor new)
  pub grows : Grows turns es old before behind

-- and so does a front of the events
abbrev pub CoversSome : (turns : ℕ) → List Event → (old new : DiagramSide) → (before behind : List CoverRow) → Type 0
CoversSome turns es old new before behind = (count : ℕ) × (count ≤ length es) × Covers turns (take count es) old new before behind
