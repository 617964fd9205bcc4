-- The file of ticks that a run of tasks reads, and what sides leave over it. What the desk doesn't tell of a file is not known here either.
use Rattle.std.specs.Prelude.{◌≡◌, ℕ, List, Option, map, ⊤}
use Rattle.plcx_types.specs.Lists.{Each}
use Rattle.plcx_meaning.specs.Run as meant
use Rattle.plcx_meaning.specs.Run.{Machine}
use Rattle.plcx_state.specs.Layouts.{Laid}
use Rattle.plcx_scan.specs.Files.{records_of}
use Rattle.plcx_traced.specs.Files.{IsLoaded, IsLong}
use Rattle.plcx_tasks.specs.declared.planning.TaskPlan.{TaskPlan}
use Rattle.plcx_tasks.specs.declared.rows.TaskRow.{TaskRow}
use Rattle.plcx_tasks.specs.declared.ticking.TaskEvent.{TaskEvent}
use Rattle.plcx_tasks.specs.Tasks.{own_events}
use Rattle.plcx_tasks.specs.Orders.{AreRowPlaces}
use Rattle.plcx_tasks.specs.Runs.{place_of, HaveLines, IsTaskRow}
use Rattle.plcx_ticks.specs.Texts.{task_text}
use Rattle.plcx_ticks.specs.Ticks.{StandsForTicks, IsFirstWrong, meant_lays}
use Rattle.plcx_ticked.specs.declared.error.TicksError.{TicksError}
use Rattle.plcx_ticked.specs.declared.error.TicksError.TheVariants.{Read, Row, NoMemory}

-- a file of ticks stands for events of a plan whose instances have these leaves
pub record TellsTicks (told : Option (List ℕ)) (plan : TaskPlan) (lays : List Laid) (events : List TaskEvent) : Type 0 where
  pub bytes : List ℕ
  pub loaded : IsLoaded told bytes
  pub stands : StandsForTicks plan (meant_lays lays) bytes events

-- the row at which such a file is refused: the first that is wrong, counted from 1; 0 where the file is too long
pub data IsWrongRow (told : Option (List ℕ)) (plan : TaskPlan) (lays : List Laid) : ℕ → Type 0 where
  long : IsLong told → IsWrongRow told plan lays 0
  wrong : (bytes : List ℕ) → IsLoaded told bytes → {row : ℕ} → IsFirstWrong plan.instances (meant_lays lays) (records_of bytes) row → IsWrongRow told plan lays row

-- why a file of ticks gives no text; want of memory at any time
abbrev pub WhyNotTicked : Option (List ℕ) → Type 0 → TaskPlan → List Laid → TicksError → Type 0
WhyNotTicked told rose plan lays Read = rose
WhyNotTicked told rose plan lays (Row row) = IsWrongRow told plan lays row
WhyNotTicked told rose plan lays NoMemory = ⊤

module _ {S G : Type 0} (machine : S → Machine G) (laid : S → Laid) (stands : S → meant.Side G → Type 0) where
  -- these are the rows of the events for the sides of a plan's instances: those that the plan orders, each side's over its own list alone
  pub record AreRows (turns : ℕ) (plan : TaskPlan) (sides : List S) (events : List TaskEvent) (rows : List TaskRow) : Type 0 where
    pub places : AreRowPlaces plan events (map place_of rows)
    pub lines : HaveLines machine laid stands turns sides (own_events plan events) rows
    pub shown : Each (IsTaskRow (map laid sides)) rows

  -- the text is that of the rows of the events
  pub record HasRowsIn (turns : ℕ) (plan : TaskPlan) (lays : List Laid) (sides : List S) (events : List TaskEvent) (text : List ℕ) : Type 0 where
    pub rows : List TaskRow
    pub are_rows : AreRows turns plan sides events rows
    pub text_is : text ≡ task_text plan lays rows

  -- the events are those of a file
  pub record IsTicked (told : Option (List ℕ)) (turns : ℕ) (plan : TaskPlan) (lays : List Laid) (sides : List S) (text : List ℕ) : Type 0 where
    pub events : List TaskEvent
    pub tells : TellsTicks told plan lays events
    pub has : HasRowsIn turns plan lays sides events text
