-- The two files that a run reads: retained values and events. What the desk doesn't tell of a file is not known here either.
use Rattle.std.specs.Prelude.{◌≡◌, ◌≤◌, ◌<◌, ◌+◌, ℕ, List, length, Option, Some, None, IfSome, ◌⊎◌, ⊤}
use Rattle.plcx_io.specs.Told.{Tells}
use Rattle.plcx_types.specs.Limits.{max_file_bytes}
use Rattle.plcx_types.specs.Value.{Value}
use Rattle.plcx_meaning.specs.Layout.{Leaf as Meant}
use Rattle.plcx_meaning.specs.Run.{Event, Machine, Side}
use Rattle.plcx_state.specs.declared.layout.Leaf.{Leaf}
use Rattle.plcx_state.specs.Retains.{initially_kept}
use Rattle.plcx_state.specs.Lines as lines
use Rattle.plcx_state.specs.Lines.{StandsForRetained, file_lines}
use Rattle.plcx_scan.specs.Files as events
use Rattle.plcx_scan.specs.Files.{StandsForEvents, records_of}
use Rattle.plcx_scan.specs.Sides.{BringsAll, BringsSome}
use Rattle.plcx_scan.specs.Texts.{HasTrace}
use Rattle.plcx_traced.specs.declared.error.RunError.{RunError}
use Rattle.plcx_traced.specs.declared.error.RunError.TheVariants.{NoProgram, RetainedRead, Line, EventsRead, Row, NoMemory}

-- the bytes of a file, of which there are no more than a file may have
pub record IsLoaded (told : Option (List ℕ)) (bytes : List ℕ) : Type 0 where
  pub tells : Tells told bytes
  pub short : length bytes ≤ max_file_bytes

-- a file that is longer than a file may be
abbrev pub IsLong : Option (List ℕ) → Type 0
IsLong told = IfSome told (λ bytes. max_file_bytes < length bytes)

-- a file of retained values stands for a retained state of these leaves
pub record TellsRetained (told : Option (List ℕ)) (leaves : List Leaf) (kept : List (Option Value)) : Type 0 where
  pub bytes : List ℕ
  pub loaded : IsLoaded told bytes
  pub stands : StandsForRetained leaves bytes kept

-- the line at which such a file is refused: the first that is wrong, counted from 1; 0 where the file is too long
pub data IsWrongLine (told : Option (List ℕ)) (leaves : List Leaf) : ℕ → Type 0 where
  long : IsLong told → IsWrongLine told leaves 0
  wrong : (bytes : List ℕ) → IsLoaded told bytes → (place : ℕ) → lines.IsFirstWrong leaves (file_lines bytes) place → IsWrongLine told leaves (place + 1)

-- a file of events stands for events of a program with these leaves
pub record TellsEvents (told : Option (List ℕ)) (leaves : List Meant) (es : List Event) : Type 0 where
  pub bytes : List ℕ
  pub loaded : IsLoaded told bytes
  pub stands : StandsForEvents leaves bytes es

-- the row at which such a file is refused: the first that is wrong, counted from 1; 0 where the file is too long
pub data IsWrongRow (told : Option (List ℕ)) (leaves : List Meant) : ℕ → Type 0 where
  long : IsLong told → IsWrongRow told leaves 0
  wrong : (bytes : List ℕ) → IsLoaded told bytes → {row : ℕ} → events.IsFirstWrong leaves (records_of bytes) row → IsWrongRow told leaves row

-- the retained state that a run begins with: that of its file, or where none is named the initial values
abbrev pub Begins : (List ℕ → Option (List ℕ)) → List Leaf → Option (List ℕ) → List (Option Value) → Type 0
Begins told leaves None kept = kept ≡ initially_kept leaves
Begins told leaves (Some name) kept = TellsRetained (told name) leaves kept

-- why a file of retained values gives no state; want of memory at any time
abbrev pub WhyNotKept : Option (List ℕ) → Type 0 → List Leaf → RunError → Type 0
WhyNotKept told rose leaves RetainedRead = rose
WhyNotKept told rose leaves (Line line) = IsWrongLine told leaves line
WhyNotKept told rose leaves NoMemory = ⊤
WhyNotKept told rose leaves (NoProgram programs) = ⊥
WhyNotKept told rose leaves EventsRead = ⊥
WhyNotKept told rose leaves (Row row) = ⊥

-- why a run begins with none; want of memory alone where no file is named
abbrev pub WhyNotBegun : (List ℕ → Option (List ℕ)) → (List ℕ → Type 0) → List Leaf → Option (List ℕ) → RunError → Type 0
WhyNotBegun told rose leaves None e = e ≡ NoMemory
WhyNotBegun told rose leaves (Some name) e = WhyNotKept (told name) (rose name) leaves e

-- why a file of events gives none; want of memory at any time
abbrev pub WhyNotFollowed : Option (List ℕ) → Type 0 → List Meant → RunError → Type 0
WhyNotFollowed told rose leaves EventsRead = rose
WhyNotFollowed told rose leaves (Row row) = IsWrongRow told leaves row
WhyNotFollowed told rose leaves NoMemory = ⊤
WhyNotFollowed told rose leaves (NoProgram programs) = ⊥
WhyNotFollowed told rose leaves RetainedRead = ⊥
WhyNotFollowed told rose leaves (Line line) = ⊥

-- the text is the trace of each of the old sides over the events of a file, which lead to the new ones
pub record IsTraceOf {G : Type 0} (told : Option (List ℕ)) (m : Machine G) (turns : ℕ) (Old New : Side G → Type 0) (text : List ℕ) : Type 0 where
  pub events : List Event
  pub tells : TellsEvents told m.layout events
  pub trace : HasTrace m turns events Old text
  pub brings : BringsAll m turns events Old New

-- a front of the events of a file led from the old sides to the new ones
pub record IsFrontOf {G : Type 0} (told : Option (List ℕ)) (m : Machine G) (turns : ℕ) (Old New : Side G → Type 0) : Type 0 where
  pub events : List Event
  pub tells : TellsEvents told m.layout events
  pub brings : BringsSome m turns events Old New

-- where there is no trace, no event came; but where memory is wanted some may have come
abbrev pub Stops : {G : Type 0} → Option (List ℕ) → Machine G → (turns : ℕ) → (Old New : Side G → Type 0) → (same : Type 0) → RunError → Type 0
Stops told m turns Old New same NoMemory = same ⊎ IsFrontOf told m turns Old New
Stops told m turns Old New same (NoProgram programs) = same
Stops told m turns Old New same RetainedRead = same
Stops told m turns Old New same (Line line) = same
Stops told m turns Old New same EventsRead = same
Stops told m turns Old New same (Row row) = same
