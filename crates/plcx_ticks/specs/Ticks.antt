-- Files of ticks: what their records stand for, and the first of them that is wrong.
use Rattle.std.specs.Prelude.{◌≡◌, ◌≤◌, ◌<◌, ◌+◌, ◌++◌, ℕ, ℤ, pos, true, false, nat_eq, List, [], ◌∷◌, Some, map, take, length, slice_get, codes}
use Rattle.std.specs.List.{list_any, AllPairs}
use Rattle.plcx_types.specs.Lists.{Each}
use Rattle.plcx_types.specs.Literal.{StandsForValue}
use Rattle.plcx_types.specs.Name.{in_lower_case}
use Rattle.plcx_types.specs.Value.{Value}
use Rattle.plcx_meaning.specs.Base.{are_distinct}
use Rattle.plcx_meaning.specs.Layout.{Leaf}
use Rattle.plcx_state.specs.Layouts.{Laid, all_meant}
use Rattle.plcx_state.specs.Retains.{Pairwise}
use Rattle.plcx_state.specs.Tables.{HasPlainNames}
use Rattle.plcx_scan.specs.Files as files
use Rattle.plcx_scan.specs.Files.{Record, IsTime, records_of}
use Rattle.plcx_tasks.specs.declared.planning.Instance.{Instance}
use Rattle.plcx_tasks.specs.declared.planning.TaskPlan.{TaskPlan}
use Rattle.plcx_tasks.specs.declared.ticking.TaskInput.{TaskInput}
use Rattle.plcx_tasks.specs.declared.ticking.TaskEvent.{TaskEvent}
use Rattle.plcx_tasks.specs.declared.ticking.TaskEvent.TheVariants as event
use Rattle.plcx_tasks.specs.Tasks.{tick_after}
use Rattle.plcx_ticks.specs.declared.column.TickColumn.{TickColumn}

-- the leaves of the instances, in the words of the meaning
abbrev pub meant_lays : List Laid → List (List Leaf)
meant_lays lays = map (λ (l : Laid). all_meant l.leaves) lays

-- the names of leaves are plain, so that a printed path is that of one leaf
abbrev pub HasPlainLeaves : Laid → Type 0
HasPlainLeaves l = Each HasPlainNames l.leaves

-- a point
abbrev pub point : ℕ
point = 46

-- a text is two parts around its first point
pub record IsPointed (text front behind : List ℕ) : Type 0 where
  pub text_is : text ≡ front ++ (codes "." ++ behind)
  pub first : list_any (nat_eq point) front ≡ false

-- the names of instances differ, whatever the case of their letters
abbrev pub AreNamedApart : List Instance → Type 0
AreNamedApart instances = AllPairs (λ (x y : Instance). in_lower_case x.name ≡ in_lower_case y.name → ⊥) instances

-- A text stands for a settable leaf of an instance: the instance's name, a point, and the leaf's name, in any case. The leaves of the instances
-- are given in order, and the column has the places of both.
pub record IsColumn (instances : List Instance) (lays : List (List Leaf)) (text : List ℕ) (c : TickColumn) : Type 0 where
  pub front : List ℕ
  pub name : List ℕ
  pub pointed : IsPointed text front name
  pub instance : Instance
  pub there : slice_get instances c.instance ≡ Some instance
  pub named : in_lower_case instance.name ≡ in_lower_case front
  pub leaves : List Leaf
  pub own : slice_get lays c.instance ≡ Some leaves
  pub leaf : Leaf
  pub is_leaf : slice_get leaves c.leaf ≡ Some leaf
  pub column : files.IsColumn leaves name leaf
  pub typed : c.ty ≡ leaf.ty

-- the first record: `event`, `time`, and names of settable leaves of instances, each once
pub record IsHeader (instances : List Instance) (lays : List (List Leaf)) (header : Record) (columns : List TickColumn) : Type 0 where
  pub names : List (List ℕ)
  pub header_is : header ≡ codes "event" ∷ codes "time" ∷ names
  pub are_columns : Pairwise (IsColumn instances lays) names columns
  pub once : are_distinct (map in_lower_case names) ≡ true

-- the value of a column, as an input of its instance
abbrev pub input_of : TickColumn → Value → TaskInput
input_of c v = record { instance = c.instance; leaf = c.leaf; value = v }

-- a text is a value for the leaf of a column
pub record IsInput (c : TickColumn) (text : List ℕ) (input : TaskInput) : Type 0 where
  pub value : Value
  pub stands : StandsForValue c.ty text value
  pub input_is : input ≡ input_of c value

-- the fields of a tick: an empty one gives nothing, another one is a value
abbrev pub AreInputs : List TickColumn → Record → List TaskInput → Type 0
AreInputs [] [] [] = Unit {0}
AreInputs [] [] (input ∷ inputs) = ⊥
AreInputs [] (field ∷ fields) inputs = ⊥
AreInputs (c ∷ columns) [] inputs = ⊥
AreInputs (c ∷ columns) ([] ∷ fields) inputs = AreInputs columns fields inputs
AreInputs (c ∷ columns) ((byte ∷ bytes) ∷ fields) [] = ⊥
AreInputs (c ∷ columns) ((byte ∷ bytes) ∷ fields) (input ∷ inputs) = IsInput c (byte ∷ bytes) input × AreInputs columns fields inputs

-- a tick: `tick`, a time that is not before the last one, and a field for each column
pub record IsTick (columns : List TickColumn) (last : ℕ) (row : Record) (time : ℤ) (inputs : List TaskInput) : Type 0 where
  pub text : List ℕ
  pub fields : Record
  pub row_is : row ≡ codes "tick" ∷ text ∷ fields
  pub at : ℕ
  pub at_is : IsTime text at
  pub time_is : time ≡ pos at
  pub not_before : last ≤ at
  pub are_inputs : AreInputs columns fields inputs

-- a restart: its word, and as many empty fields as a tick has others
pub record IsRestart (columns : List TickColumn) (word : List ℕ) (row : Record) : Type 0 where
  pub fields : Record
  pub row_is : row ≡ word ∷ fields
  pub long : length fields ≡ length columns + 1
  pub empty : Each (λ (field : List ℕ). field ≡ []) fields

-- a record stands for an event
abbrev pub IsEvent : List TickColumn → (last : ℕ) → Record → TaskEvent → Type 0
IsEvent columns last row (event.Tick time inputs) = IsTick columns last row time inputs
IsEvent columns last row event.Warm = IsRestart columns (codes "warm") row
IsEvent columns last row event.Cold = IsRestart columns (codes "cold") row

-- records stand for events, in order
abbrev pub AreEvents : List TickColumn → (last : ℕ) → List Record → List TaskEvent → Type 0
AreEvents columns last [] [] = Unit {0}
AreEvents columns last [] (event ∷ events) = ⊥
AreEvents columns last (row ∷ rows) [] = ⊥
AreEvents columns last (row ∷ rows) (event ∷ events) = IsEvent columns last row event × AreEvents columns (tick_after last event) rows events

-- records with a header stand for events; no record stands for none
abbrev pub RecordsStandFor : List Instance → List (List Leaf) → List Record → List TaskEvent → Type 0
RecordsStandFor instances lays [] events = events ≡ []
RecordsStandFor instances lays (header ∷ rows) events = (columns : List TickColumn) × IsHeader instances lays header columns × AreEvents columns 0 rows events

-- a file stands for events of a plan whose instances have these leaves: it has a header, and its other records are events
pub record StandsForTicks (plan : TaskPlan) (lays : List (List Leaf)) (bytes : List ℕ) (events : List TaskEvent) : Type 0 where
  pub some : 1 ≤ length (records_of bytes)
  pub stands : RecordsStandFor plan.instances lays (records_of bytes) events

-- the records before it stand for events, and with it they stand for none
pub record IsWrong (instances : List Instance) (lays : List (List Leaf)) (rows : List Record) (place : ℕ) : Type 0 where
  pub there : place < length rows
  pub events : List TaskEvent
  pub before : RecordsStandFor instances lays (take place rows) events
  pub wrong : (more : List TaskEvent) → RecordsStandFor instances lays (take (place + 1) rows) more → ⊥

-- the number of the first record that is wrong, from 1; a file without records is wrong at its first
pub data IsFirstWrong (instances : List Instance) (lays : List (List Leaf)) (rows : List Record) : ℕ → Type 0 where
  nothing : rows ≡ [] → IsFirstWrong instances lays rows 1
  wrong : (place : ℕ) → IsWrong instances lays rows place → IsFirstWrong instances lays rows (place + 1)
