-- What a run does to each side, and what its rows tell of it: each instance's side goes over its own list alone.
use Rattle.std.specs.Prelude.{◌≡◌, ◌≤◌, ℕ, nat_eq, List, Some, map, filter, slice_get}
use Rattle.plcx_types.specs.Lists.{Each}
use Rattle.plcx_meaning.specs.Run as meant
use Rattle.plcx_meaning.specs.Run.{Machine}
use Rattle.plcx_meaning.specs.Traces.{Line, line}
use Rattle.plcx_state.specs.declared.layout.Leaf.{Leaf}
use Rattle.plcx_state.specs.Layouts.{Laid}
use Rattle.plcx_state.specs.Retains.{Pairwise, numbers}
use Rattle.plcx_scan.specs.Events.{Event, meant_events, last_at_end}
use Rattle.plcx_scan.specs.Rows.{shown_leaves}
use Rattle.plcx_scan.specs.Sides.{told, HasTypeOf, HasLines, BringsAll, BringsSome}
use Rattle.plcx_tasks.specs.declared.rows.TaskRow.{TaskRow}
use Rattle.plcx_tasks.specs.declared.ticking.TaskEvent.{TaskEvent}
use Rattle.plcx_tasks.specs.Tasks.{AreTicks}

-- which event a row is of, and which instance
abbrev pub place_of : TaskRow → ℕ × ℕ
place_of row = (row.event, row.instance)

-- a row in the words of the meaning
abbrev pub task_line : TaskRow → Line
task_line row = line (told row.outcome) (numbers row.values)

-- the lines of the rows of an instance
abbrev pub lines_of : ℕ → List TaskRow → List Line
lines_of instance rows = map task_line (filter (λ (row : TaskRow). nat_eq row.instance instance) rows)

-- the row has a value of its type for each of the shown ones among these leaves
abbrev pub HasShown : List Leaf → TaskRow → Type 0
HasShown leaves row = Pairwise HasTypeOf (shown_leaves leaves) row.values

-- and so for those of its instance
pub record IsTaskRow (lays : List Laid) (row : TaskRow) : Type 0 where
  pub own : Laid
  pub there : slice_get lays row.instance ≡ Some own
  pub values : HasShown own.leaves row

module _ {S G : Type 0} (machine : S → Machine G) (laid : S → Laid) (stands : S → meant.Side G → Type 0) where
  -- the rows of each instance have the lines of its own events, at each side that its side stood for
  abbrev pub HaveLines : (turns : ℕ) → List S → (ℕ → List Event) → List TaskRow → Type 0
  HaveLines turns sides own rows = (i : ℕ) (s : S) → slice_get sides i ≡ Some s
      → HasLines (machine s) turns (meant_events (laid s).leaves (own i)) (stands s) (lines_of i rows)

  -- the own events of each instance led its side on
  abbrev pub AreBrought : (turns : ℕ) → (old new : List S) → (ℕ → List Event) → Type 0
  AreBrought turns old new own = (i : ℕ) (s t : S) → slice_get old i ≡ Some s → slice_get new i ≡ Some t
      → BringsAll (machine s) turns (meant_events (laid s).leaves (own i)) (stands s) (stands t)

  -- a front of them did
  abbrev pub AreBroughtSome : (turns : ℕ) → (old new : List S) → (ℕ → List Event) → Type 0
  AreBroughtSome turns old new own = (i : ℕ) (s t : S) → slice_get old i ≡ Some s → slice_get new i ≡ Some t
      → BringsSome (machine s) turns (meant_events (laid s).leaves (own i)) (stands s) (stands t)

module _ {S : Type 0} (laid : S → Laid) (last : S → ℕ) where
  -- the time of the last scan of each side is that of its own events
  abbrev pub AreLast : (old new : List S) → (ℕ → List Event) → Type 0
  AreLast old new own = (i : ℕ) (s t : S) → slice_get old i ≡ Some s → slice_get new i ≡ Some t → last t ≡ last_at_end (last s) (own i)

  -- no scan of a side was after this time
  abbrev pub NoneIsAfter : ℕ → List S → Type 0
  NoneIsAfter time sides = Each (λ (s : S). last s ≤ time) sides

  -- the events can come next to the sides of these: ticks are not before the last scan of a side, and inputs fit
  pub record CanRun (sides : List S) (events : List TaskEvent) : Type 0 where
    pub from : ℕ
    pub none_after : NoneIsAfter from sides
    pub ticks : AreTicks (map laid sides) from events
