-- Event files: what their records stand for, and the first of them that is wrong.
use Rattle.std.specs.Prelude.{◌≡◌, ◌≤◌, ◌<◌, ◌+◌, ℕ, true, List, [], ◌∷◌, map, take, length, codes}
use Rattle.std.specs.List.{Contains}
use Rattle.csv.specs.Reading.{records, default_config, strip_bom}
use Rattle.plcx_types.specs.Duration.{AreDigits, number}
use Rattle.plcx_types.specs.Limits.{max_event_time}
use Rattle.plcx_types.specs.Lists.{Each}
use Rattle.plcx_types.specs.Literal.{StandsForValue}
use Rattle.plcx_types.specs.Name.{in_lower_case}
use Rattle.plcx_types.specs.Value.{Value}
use Rattle.plcx_meaning.specs.Base.{are_distinct}
use Rattle.plcx_meaning.specs.Layout.{Leaf, Warm, Cold}
use Rattle.plcx_meaning.specs.Run.{Input, Event, Scan, Again, last_after}
use Rattle.plcx_state.specs.Retains.{Pairwise}

-- the fields of a record
abbrev pub Record : Type 0
Record = List (List ℕ)

-- the records of a file: commas between fields, double quotes, no trimming; a byte order mark before the first is skipped
abbrev pub records_of : List ℕ → List Record
records_of bytes = records default_config (strip_bom bytes)

-- a name stands for a settable leaf of the program, in any case
pub record IsColumn (leaves : List Leaf) (name : List ℕ) (leaf : Leaf) : Type 0 where
  pub among : Contains leaves leaf
  pub settable : leaf.settable ≡ true
  pub path_is : leaf.path ≡ in_lower_case name ∷ []

-- the first record: `event`, `time`, and names of settable leaves, each once
pub record IsHeader (leaves : List Leaf) (header : Record) (columns : List Leaf) : Type 0 where
  pub names : List (List ℕ)
  pub header_is : header ≡ codes "event" ∷ codes "time" ∷ names
  pub are_columns : Pairwise (IsColumn leaves) names columns
  pub once : are_distinct (map in_lower_case names) ≡ true

-- the most digits of a time
abbrev pub max_time_digits : ℕ
max_time_digits = 19

-- a time: decimal digits for a number within the limit
pub record IsTime (text : List ℕ) (time : ℕ) : Type 0 where
  pub digits : AreDigits max_time_digits text
  pub time_is : time ≡ number text
  pub within : time ≤ max_event_time

-- a text is a value for a leaf
pub record IsInput (leaf : Leaf) (text : List ℕ) (input : Input) : Type 0 where
  pub path_is : input.path ≡ leaf.path
  pub value : Value
  pub stands : StandsForValue leaf.ty text value
  pub number_is : input.value ≡ value.n

-- the fields of a scan: an empty one changes nothing, another one is a value
abbrev pub AreInputs : List Leaf → Record → List Input → Type 0
AreInputs [] [] [] = Unit {0}
AreInputs [] [] (input ∷ inputs) = ⊥
AreInputs [] (field ∷ fields) inputs = ⊥
AreInputs (leaf ∷ columns) [] inputs = ⊥
AreInputs (leaf ∷ columns) ([] ∷ fields) inputs = AreInputs columns fields inputs
AreInputs (leaf ∷ columns) ((byte ∷ bytes) ∷ fields) [] = ⊥
AreInputs (leaf ∷ columns) ((byte ∷ bytes) ∷ fields) (input ∷ inputs) = IsInput leaf (byte ∷ bytes) input × AreInputs columns fields inputs

-- a scan: `scan`, a time that is not before the last one, and a field for each column
pub record IsScan (columns : List Leaf) (last : ℕ) (row : Record) (time : ℕ) (inputs : List Input) : Type 0 where
  pub text : List ℕ
  pub fields : Record
  pub row_is : row ≡ codes "scan" ∷ text ∷ fields
  pub time_is : IsTime text time
  pub not_before : last ≤ time
  pub are_inputs : AreInputs columns fields inputs

-- a restart: its word, and as many empty fields as a scan has others
pub record IsRestart (columns : List Leaf) (word : List ℕ) (row : Record) : Type 0 where
  pub fields : Record
  pub row_is : row ≡ word ∷ fields
  pub long : length fields ≡ length columns + 1
  pub empty : Each (λ (field : List ℕ). field ≡ []) fields

-- a record stands for an event
abbrev pub IsEvent : List Leaf → (last : ℕ) → Record → Event → Type 0
IsEvent columns last row (Scan time inputs) = IsScan columns last row time inputs
IsEvent columns last row (Again Warm) = IsRestart columns (codes "warm") row
IsEvent columns last row (Again Cold) = IsRestart columns (codes "cold") row

-- records stand for events, in order
abbrev pub AreEvents : List Leaf → (last : ℕ) → List Record → List Event → Type 0
AreEvents columns last [] [] = Unit {0}
AreEvents columns last [] (event ∷ events) = ⊥
AreEvents columns last (row ∷ rows) [] = ⊥
AreEvents columns last (row ∷ rows) (event ∷ events) = IsEvent columns last row event × AreEvents columns (last_after last event) rows events

-- records with a header stand for events; no record stands for none
abbrev pub RecordsStandFor : List Leaf → List Record → List Event → Type 0
RecordsStandFor leaves [] events = events ≡ []
RecordsStandFor leaves (header ∷ rows) events = (columns : List Leaf) × IsHeader leaves header columns × AreEvents columns 0 rows events

-- a file stands for events of a program with these leaves: it has a header, and its other records are events
pub record StandsForEvents (leaves : List Leaf) (bytes : List ℕ) (events : List Event) : Type 0 where
  pub some : 1 ≤ length (records_of bytes)
  pub stands : RecordsStandFor leaves (records_of bytes) events

-- the records before it stand for events, and with it they stand for none
pub record IsWrong (leaves : List Leaf) (rows : List Record) (place : ℕ) : Type 0 where
  pub there : place < length rows
  pub events : List Event
  pub before : RecordsStandFor leaves (take place rows) events
  pub wrong : (more : List Event) → RecordsStandFor leaves (take (place + 1) rows) more → ⊥

-- the number of the first record that is wrong, from 1; a file without records is wrong at its first
pub data IsFirstWrong (leaves : List Leaf) (rows : List Record) : ℕ → Type 0 where
  nothing : rows ≡ [] → IsFirstWrong leaves rows 1
  wrong : (place : ℕ) → IsWrong leaves rows place → IsFirstWrong leaves rows (place + 1)
