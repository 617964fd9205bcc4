-- Serves proofs: what the reader of files of ticks answers.
use Rattle.std.specs.Prelude.{◌≡◌, ◌<◌, ◌+◌, ◌^◌, ⊤, ℕ, pos, Bool, true, not, ◌&&◌, nat_eq, nat_le, List, [], ◌∷◌, ◌++◌, Vec, Option, Some, None, map, take, drop, length, codes, slice_get, if◌then◌else◌}
use Rattle.std.specs.declared.alloc.Global.{Global}
use Rattle.std.specs.List.{list_any, position}
use Rattle.std.specs.Option.{option_map, option_and_then}
use Rattle.std.specs.Str.{bytes_eq}
use Rattle.plcx_types.specs.Name.{in_lower_case}
use Rattle.plcx_types.specs.ReadLiteral.{value_of}
use Rattle.plcx_types.specs.Value.{Value}
use Rattle.plcx_meaning.specs.Base.{are_distinct}
use Rattle.plcx_state.specs.declared.layout.Leaf.{Leaf}
use Rattle.plcx_state.specs.Layouts.{Laid}
use Rattle.plcx_scan.specs.declared.column.Column.{Column}
use Rattle.plcx_scan.specs.declared.reading.EventError.{EventError}
use Rattle.plcx_scan.specs.declared.reading.EventError.TheVariants.{Row, NoMemory}
use Rattle.plcx_scan.specs.Files.{Record}
use Rattle.plcx_scan.specs.ReadFiles.{field, has_word, is_word_alone, time_of, column_named, CanTell}
use Rattle.plcx_tasks.specs.declared.planning.Instance.{Instance}
use Rattle.plcx_tasks.specs.declared.ticking.TaskInput.{TaskInput}
use Rattle.plcx_tasks.specs.declared.ticking.TaskEvent.{TaskEvent}
use Rattle.plcx_tasks.specs.declared.ticking.TaskEvent.TheVariants as event
use Rattle.plcx_tasks.specs.Tasks.{tick_after}
use Rattle.plcx_ticks.specs.declared.column.TickColumn.{TickColumn}
use Rattle.plcx_ticks.specs.Ticks.{point, input_of}

-- the leaves of the instances, as the layouts have them
abbrev pub tables_of : List Laid → List (List Leaf)
tables_of lays = map (λ (l : Laid). l.leaves) lays

-- columns of a table can be told, and it has not too many leaves to be numbered
pub record IsTable (leaves : List Leaf) : Type 0 where
  pub tells : CanTell leaves
  pub few : length leaves < 2 ^ 32

-- the instance has this name, in any case
abbrev pub is_named : List ℕ → Instance → Bool
is_named name x = bytes_eq (in_lower_case x.name) (in_lower_case name)

-- the place of the instance of a name
unfoldable pub instance_named : List ℕ → List Instance → Option ℕ
instance_named name instances = position (is_named name) instances

-- the place of the first point
unfoldable pub point_in : List ℕ → Option ℕ
point_in text = position (nat_eq point) text

-- the column of a leaf of an instance
abbrev pub tick_column : ℕ → Column → TickColumn
tick_column i c = record { instance = i; leaf = c.leaf; ty = c.ty }

-- the column of a leaf's name, for the instance with these leaves
abbrev pub column_in : List ℕ → ℕ → List Leaf → Option TickColumn
column_in name i leaves = option_map (tick_column i) (column_named leaves name)

-- for the instance at a place
abbrev pub column_at : List (List Leaf) → List ℕ → ℕ → Option TickColumn
column_at tables name i = option_and_then (column_in name i) (slice_get tables i)

-- the column of a text with its first point at a place
abbrev pub column_from : List Instance → List (List Leaf) → List ℕ → ℕ → Option TickColumn
column_from instances tables text p = option_and_then (column_at tables (drop (p + 1) text)) (instance_named (take p text) instances)

-- the column of a text
unfoldable pub column_of : List Instance → List (List Leaf) → List ℕ → Option TickColumn
column_of instances tables text = option_and_then (column_from instances tables text) (point_in text)

-- the columns of texts
abbrev pub columns_from : List Instance → List (List Leaf) → List (List ℕ) → Option (List TickColumn)
columns_from instances tables [] = Some []
columns_from instances tables (name ∷ names) =
    option_and_then (λ (c : TickColumn). option_map (λ (cs : List TickColumn). c ∷ cs) (columns_from instances tables names)) (column_of instances tables name)

-- names that come once, and have not come before
abbrev pub are_new : List (List ℕ) → List (List ℕ) → Bool
are_new before [] = true
are_new before (key ∷ keys) = not (list_any (bytes_eq key) before) && are_new (key ∷ before) keys

-- a set has the names that have come
abbrev pub Notes : List (List ℕ) → List (Vec ℕ Global) → Type 0
Notes before keys = (q : List ℕ) → list_any (λ k. bytes_eq q k.items) keys ≡ list_any (bytes_eq q) before

-- the names of a header come once
abbrev pub are_once : Record → Bool
are_once header = are_distinct (map in_lower_case (drop 2 header))

-- the columns of a header
unfoldable pub columns_of : List Instance → List (List Leaf) → Record → Option (List TickColumn)
columns_of instances tables header =
    if has_word header 0 (codes "event") && has_word header 1 (codes "time") then (if are_once header then columns_from instances tables (drop 2 header) else None) else None

-- the inputs that a field gives: none where it is empty
abbrev pub field_inputs : TickColumn → List ℕ → Option (List TaskInput)
field_inputs c [] = Some []
field_inputs c (byte ∷ bytes) = option_map (λ (v : Value). input_of c v ∷ []) (value_of c.ty (byte ∷ bytes))

-- and those of all fields
abbrev pub inputs_of : List TickColumn → Record → Option (List TaskInput)
inputs_of [] fields = Some []
inputs_of (c ∷ cs) [] = None
inputs_of (c ∷ cs) (f ∷ fields) = option_and_then (λ (some : List TaskInput). option_map (λ (is : List TaskInput). some ++ is) (inputs_of cs fields)) (field_inputs c f)

-- a tick at this time
abbrev pub tick_at : ℕ → List TaskInput → TaskEvent
tick_at time inputs = event.Tick (pos time) inputs

-- a tick at a time that is not before the last one
abbrev pub tick_from : List TickColumn → ℕ → Record → ℕ → Option TaskEvent
tick_from columns last row time = if nat_le last time then option_map (tick_at time) (inputs_of columns (drop 2 row)) else None

-- a tick
unfoldable pub tick_event : List TickColumn → ℕ → Record → Option TaskEvent
tick_event columns last row = option_and_then (tick_from columns last row) (time_of (field row 1))

-- a restart
unfoldable pub restart_event : Record → Option TaskEvent
restart_event row = if is_word_alone row then (if has_word row 0 (codes "warm") then Some event.Warm else (if has_word row 0 (codes "cold") then Some event.Cold else None)) else None

-- a record as an event
unfoldable pub row_event : List TickColumn → ℕ → Record → Option TaskEvent
row_event columns last row =
    if nat_eq (length row) (length columns + 2) then (if has_word row 0 (codes "tick") then tick_event columns last row else restart_event row) else None

-- records as events
abbrev pub rows_events : List TickColumn → ℕ → List Record → Option (List TaskEvent)
rows_events columns last [] = Some []
rows_events columns last (row ∷ rows) =
    option_and_then (λ (event : TaskEvent). option_map (λ (events : List TaskEvent). event ∷ events) (rows_events columns (tick_after last event) rows)) (row_event columns last row)

-- the time of the last tick after events
abbrev pub tick_at_end : ℕ → List TaskEvent → ℕ
tick_at_end last [] = last
tick_at_end last (event ∷ events) = tick_at_end (tick_after last event) events

-- of these records those that are not left were read as these events, and the last tick among them was at this time
pub record AreRead (columns : List TickColumn) (rows left : List Record) (events : List TaskEvent) (last : ℕ) : Type 0 where
  pub left_are : left ≡ drop (length events) rows
  pub read : rows_events columns 0 (take (length events) rows) ≡ Some events
  pub last_is : last ≡ tick_at_end 0 events

-- the records before it are read as events, and with it they are not
pub record IsUnread (columns : List TickColumn) (rows : List Record) (place : ℕ) : Type 0 where
  pub there : place < length rows
  pub events : List TaskEvent
  pub before : rows_events columns 0 (take place rows) ≡ Some events
  pub unread : rows_events columns 0 (take (place + 1) rows) ≡ None

-- why the records behind a header are not read: the first that can't be; the header has the number 1
abbrev pub WhyNotRows : List TickColumn → List Record → EventError → Type 0
WhyNotRows columns rows (Row row) = (place : ℕ) × (row ≡ place + 2) × IsUnread columns rows place
WhyNotRows columns rows NoMemory = ⊤

-- records with a header as events
abbrev pub records_events : List Instance → List (List Leaf) → List Record → Option (List TaskEvent)
records_events instances tables [] = Some []
records_events instances tables (header ∷ rows) = option_and_then (λ (cs : List TickColumn). rows_events cs 0 rows) (columns_of instances tables header)

-- the records before it are read as events, and with it they are not
pub record IsUnreadFile (instances : List Instance) (tables : List (List Leaf)) (rows : List Record) (place : ℕ) : Type 0 where
  pub there : place < length rows
  pub events : List TaskEvent
  pub before : records_events instances tables (take place rows) ≡ Some events
  pub unread : records_events instances tables (take (place + 1) rows) ≡ None

-- why records are not read: there is none, or the first that can't be
pub data IsFirstUnread (instances : List Instance) (tables : List (List Leaf)) (rows : List Record) : ℕ → Type 0 where
  nothing : rows ≡ [] → IsFirstUnread instances tables rows 1
  unread : (place : ℕ) → IsUnreadFile instances tables rows place → IsFirstUnread instances tables rows (place + 1)

-- the number of that record; want of memory at any time
abbrev pub WhyNotRead : List Instance → List (List Leaf) → List Record → EventError → Type 0
WhyNotRead instances tables rows (Row row) = IsFirstUnread instances tables rows row
WhyNotRead instances tables rows NoMemory = ⊤
