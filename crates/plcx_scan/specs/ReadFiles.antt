-- Serves proofs: what the reader of event files answers.
use Rattle.std.specs.Prelude.{◌≡◌, ◌<◌, ◌+◌, ⊤, ℕ, take, pos, Bool, true, false, ◌&&◌, nat_eq, nat_lt, nat_le, List, [], ◌∷◌, ◌++◌, Option, Some, None, map, drop, length, codes, slice_get, slice_set, slice_index_or, if◌then◌else◌}
use Rattle.std.specs.List.{list_all}
use Rattle.std.specs.Option.{option_map, option_and_then}
use Rattle.std.specs.Str.{bytes_eq}
use Rattle.plcx_types.specs.Duration.{number}
use Rattle.plcx_types.specs.Limits.{max_event_time}
use Rattle.plcx_types.specs.Lists.{Each}
use Rattle.plcx_types.specs.Name.{in_lower_case}
use Rattle.plcx_types.specs.Numeral.{is_digit}
use Rattle.plcx_types.specs.ReadLiteral.{value_of}
use Rattle.plcx_types.specs.Value.{Value}
use Rattle.plcx_state.specs.declared.layout.Leaf.{Leaf}
use Rattle.plcx_meaning.specs.Layout.{Leaf as Meant}
use Rattle.plcx_state.specs.Layouts.{meant, LiesOutside}
use Rattle.plcx_state.specs.Retains.{Pairwise}
use Rattle.plcx_state.specs.Tables.{printed_at, IsTold}
use Rattle.plcx_scan.specs.declared.reading.EventError.{EventError}
use Rattle.plcx_scan.specs.declared.reading.EventError.TheVariants.{Row, NoMemory}
use Rattle.plcx_scan.specs.declared.column.Column.{Column}
use Rattle.plcx_scan.specs.declared.event.Input.{Input}
use Rattle.plcx_scan.specs.declared.event.Entry.{Entry}
use Rattle.plcx_scan.specs.Events.{Event, Scan, Warm, Cold, last_after, last_at_end}
use Rattle.plcx_scan.specs.Entries.{count_all, events_of}
use Rattle.plcx_scan.specs.Files.{Record, max_time_digits}

-- the field at a place, which is empty past the end
abbrev pub field : Record → ℕ → List ℕ
field row i = slice_index_or row i []

-- a field is a word
abbrev pub has_word : Record → ℕ → List ℕ → Bool
has_word row i word = bytes_eq (field row i) word

-- the column of a leaf, if it is settable
abbrev pub column_of : ℕ → Leaf → Option Column
column_of number leaf = if leaf.settable then Some (record { leaf = number; ty = leaf.ty }) else None

-- the column of the leaf of this number
abbrev pub column_at : List Leaf → ℕ → Option Column
column_at leaves number = option_and_then (column_of number) (slice_get leaves number)

-- the column of a name
unfoldable pub column_named : List Leaf → List ℕ → Option Column
column_named leaves name = option_and_then (column_at leaves) (printed_at (in_lower_case name) leaves)

-- the leaf of this number has a column
abbrev pub is_taken : Option Bool → Bool
is_taken None = false
is_taken (Some taken) = taken

-- a column, if its leaf has none yet
abbrev pub untaken : List Bool → Option Column → Option Column
untaken taken None = None
untaken taken (Some c) = if is_taken (slice_get taken c.leaf) then None else Some c

-- the columns of names, where some leaves have columns
abbrev pub columns_from : List Leaf → List Bool → List (List ℕ) → Option (List Column)
columns_from leaves taken [] = Some []
columns_from leaves taken (name ∷ names) =
    option_and_then (λ (c : Column). option_map (λ (cs : List Column). c ∷ cs) (columns_from leaves (slice_set taken c.leaf true) names)) (untaken taken (column_named leaves name))

-- no leaf has a column
abbrev pub none_taken : List Leaf → List Bool
none_taken leaves = map (λ (leaf : Leaf). false) leaves

-- the columns of a header
abbrev pub columns_of : List Leaf → Record → Option (List Column)
columns_of leaves header = if has_word header 0 (codes "event") && has_word header 1 (codes "time") then columns_from leaves (none_taken leaves) (drop 2 header) else None

-- 1 to 19 digits
abbrev pub are_time_digits : List ℕ → Bool
are_time_digits text = nat_lt 0 (length text) && nat_le (length text) max_time_digits && list_all (is_digit 10) text

-- a number, where it is within the limit
abbrev pub within_limit : ℕ → Option ℕ
within_limit n = if nat_le n max_event_time then Some n else None

-- a time
abbrev pub time_of : List ℕ → Option ℕ
time_of text = if are_time_digits text then within_limit (number text) else None

-- an input of a column
abbrev pub input_of : Column → Value → Input
input_of c v = record { leaf = c.leaf; value = v }

-- the inputs that a field gives: none where it is empty
abbrev pub field_inputs : Column → List ℕ → Option (List Input)
field_inputs c [] = Some []
field_inputs c (byte ∷ bytes) = option_map (λ (v : Value). input_of c v ∷ []) (value_of c.ty (byte ∷ bytes))

-- and those of all fields
abbrev pub inputs_of : List Column → Record → Option (List Input)
inputs_of [] fields = Some []
inputs_of (c ∷ cs) [] = None
inputs_of (c ∷ cs) (f ∷ fields) = option_and_then (λ (some : List Input). option_map (λ (is : List Input). some ++ is) (inputs_of cs fields)) (field_inputs c f)

-- a scan at this time
abbrev pub scan_at : ℕ → List Input → Event
scan_at time inputs = Scan (pos time) inputs

-- a scan at a time that is not before the last one
abbrev pub scan_after : List Column → ℕ → Record → ℕ → Option Event
scan_after columns last row time = if nat_le last time then option_map (scan_at time) (inputs_of columns (drop 2 row)) else None

-- a scan
unfoldable pub scan_event : List Column → ℕ → Record → Option Event
scan_event columns last row = option_and_then (scan_after columns last row) (time_of (field row 1))

-- there is nothing in the field
abbrev pub is_empty : List ℕ → Bool
is_empty [] = true
is_empty (byte ∷ bytes) = false

-- only the first field has something in it
abbrev pub is_word_alone : Record → Bool
is_word_alone row = list_all is_empty (drop 1 row)

-- a restart
unfoldable pub restart_event : Record → Option Event
restart_event row = if is_word_alone row then (if has_word row 0 (codes "warm") then Some Warm else (if has_word row 0 (codes "cold") then Some Cold else None)) else None

-- a record as an event
unfoldable pub row_event : List Column → ℕ → Record → Option Event
row_event columns last row =
    if nat_eq (length row) (length columns + 2) then (if has_word row 0 (codes "scan") then scan_event columns last row else restart_event row) else None

-- records as events
abbrev pub rows_events : List Column → ℕ → List Record → Option (List Event)
rows_events columns last [] = Some []
rows_events columns last (row ∷ rows) =
    option_and_then (λ (event : Event). option_map (λ (events : List Event). event ∷ events) (rows_events columns (last_after last event) rows)) (row_event columns last row)

-- what the columns of leaves rest on: their paths tell them apart, and what is settable is the program's own
pub record CanTell (leaves : List Leaf) : Type 0 where
  pub told : IsTold leaves
  pub outside : Each LiesOutside leaves

-- a column is that of a settable leaf, which the meaning knows
pub record IsColumnOf (leaves : List Leaf) (column : Column) (leaf : Meant) : Type 0 where
  pub own : Leaf
  pub there : slice_get leaves column.leaf ≡ Some own
  pub meant_is : leaf ≡ meant own
  pub typed : column.ty ≡ own.ty
  pub settable : own.settable ≡ true

-- and so are columns, in order
abbrev pub AreColumns : List Leaf → List Column → List Meant → Type 0
AreColumns leaves columns cs = Pairwise (IsColumnOf leaves) columns cs

-- of these records those that are not left were read as these events, and the last scan among them was at this time
pub record AreRead (columns : List Column) (rows left : List Record) (entries : List Entry) (inputs : List Input) (last : ℕ) : Type 0 where
  pub counted : count_all entries ≡ length inputs
  pub left_are : left ≡ drop (length entries) rows
  pub read : rows_events columns 0 (take (length entries) rows) ≡ Some (events_of entries inputs)
  pub last_is : last ≡ last_at_end 0 (events_of entries inputs)

-- the records before it are read as events, and with it they are not
pub record IsUnread (columns : List Column) (rows : List Record) (place : ℕ) : Type 0 where
  pub there : place < length rows
  pub events : List Event
  pub before : rows_events columns 0 (take place rows) ≡ Some events
  pub unread : rows_events columns 0 (take (place + 1) rows) ≡ None

-- why the records behind a header are not read: the first that can't be; the header has the number 1
abbrev pub WhyNotRows : List Column → List Record → EventError → Type 0
WhyNotRows columns rows (Row row) = (place : ℕ) × (row ≡ place + 2) × IsUnread columns rows place
WhyNotRows columns rows NoMemory = ⊤
