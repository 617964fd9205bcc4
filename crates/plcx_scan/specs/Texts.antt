-- Traces as texts: of any side of the meaning, and of rows.
use Rattle.std.specs.Prelude.{◌≡◌, ◌+◌, ◌++◌, ℕ, ℤ, List, [], ◌∷◌, map, reverse, filter, codes}
use Rattle.std.specs.Fmt.{decimal}
use Rattle.std.specs.List.{flat_map}
use Rattle.plcx_types.specs.declared.fault.Fault.{Fault}
use Rattle.plcx_types.specs.declared.fault.Fault.TheVariants as fault
use Rattle.plcx_types.specs.Literal.{value}
use Rattle.plcx_types.specs.Printed.{printed}
use Rattle.plcx_types.specs.Value.{Value}
use Rattle.plcx_meaning.specs.Base.{Stop, Faulted, OutOfTurns}
use Rattle.plcx_meaning.specs.Layout.{declared_leaves}
use Rattle.plcx_meaning.specs.Layout.{Leaf as Meant}
use Rattle.plcx_meaning.specs.Run as meant
use Rattle.plcx_meaning.specs.Run.{Machine, Told, TheEnd, Halted, Restarted, NoStep, TheStop}
use Rattle.plcx_meaning.specs.Traces.{Line, Trace, trace_from}
use Rattle.plcx_state.specs.declared.layout.Leaf.{Leaf}
use Rattle.plcx_state.specs.Layouts.{dotted}
use Rattle.plcx_state.specs.Retains.{each_with}
use Rattle.plcx_scan.specs.declared.row.TraceRow.{TraceRow}
use Rattle.plcx_scan.specs.Sides.{told}
use Rattle.plcx_scan.specs.Rows.{shown_leaves}

-- a fault
abbrev pub fault_word : Fault → List ℕ
fault_word fault.DivByZero = codes "fault DivByZero"
fault_word fault.Range = codes "fault Range"

-- why a scan stopped
abbrev pub stop_word : Stop → List ℕ
stop_word (Faulted f) = fault_word f
stop_word OutOfTurns = codes "turns"

-- what is told of an event; there is no word for a step that has no meaning
abbrev pub word : Told → List ℕ
word TheEnd = codes "ok"
word Halted = codes "halted"
word Restarted = codes "restart"
word NoStep = []
word (TheStop s) = stop_word s

-- a text behind a comma
abbrev pub behind_comma : List ℕ → List ℕ
behind_comma text = codes "," ++ text

-- the first line: the names of the shown leaves
abbrev pub header : List (List ℕ) → List ℕ
header names = codes "event,result" ++ (flat_map behind_comma names ++ codes "\n")

-- values behind commas
abbrev pub values_text : List Value → List ℕ
values_text values = flat_map (λ (v : Value). behind_comma (printed v)) values

-- the line of an event: its number, what is told of it, and the shown values
abbrev pub event_text : ℕ → Told → List Value → List ℕ
event_text number t values = decimal number ++ (codes "," ++ (word t ++ (values_text values ++ codes "\n")))

-- a retained line
abbrev pub kept_text : List ℕ → Value → List ℕ
kept_text path v = codes "retain," ++ (path ++ (codes "," ++ (printed v ++ codes "\n")))

-- the path of a leaf of the meaning in print, as it is declared
abbrev pub spelled_path : Meant → List ℕ
spelled_path leaf = dotted (reverse leaf.spelled)

-- a number of a leaf's type
abbrev pub typed : Meant → ℤ → Value
typed leaf n = value leaf.ty n

-- the lines of events, which are numbered from a number on
abbrev pub lines_text : List Meant → ℕ → List Line → List ℕ
lines_text leaves number [] = []
lines_text leaves number (l ∷ lines) = event_text number l.told (each_with typed leaves l.values) ++ lines_text leaves (number + 1) lines

-- retained values, each in a line
abbrev pub all_kept_text : List Meant → List ℤ → List ℕ
all_kept_text [] ns = []
all_kept_text (leaf ∷ leaves) [] = []
all_kept_text (leaf ∷ leaves) (n ∷ ns) = kept_text (spelled_path leaf) (typed leaf n) ++ all_kept_text leaves ns

-- the shown leaves of the meaning, and the retained ones
abbrev pub all_shown : List Meant → List Meant
all_shown leaves = filter (λ (leaf : Meant). leaf.shown) leaves

-- those of which the retained lines tell
abbrev pub all_retained : List Meant → List Meant
all_retained leaves = filter (λ (leaf : Meant). leaf.retained) (declared_leaves leaves)

-- the trace of a program with these leaves as a text: a header, a line for each event, and the retained lines
abbrev pub trace_bytes : List Meant → Trace → List ℕ
trace_bytes leaves t = header (map spelled_path (all_shown leaves)) ++ (lines_text (all_shown leaves) 1 t.lines ++ all_kept_text (all_retained leaves) t.retained)

-- the line of a row
abbrev pub row_text : ℕ → TraceRow → List ℕ
row_text number row = event_text number (told row.outcome) row.values

-- and of rows, which are numbered from a number on
abbrev pub rows_text : ℕ → List TraceRow → List ℕ
rows_text number [] = []
rows_text number (row ∷ rows) = row_text number row ++ rows_text (number + 1) rows

-- the header of a layout
abbrev pub layout_header : List Leaf → List ℕ
layout_header leaves = header (map (λ (leaf : Leaf). dotted leaf.path) (shown_leaves leaves))

-- rows as a text, with retained lines behind them
abbrev pub trace_text : List Leaf → List TraceRow → List ℕ → List ℕ
trace_text leaves rows retained = layout_header leaves ++ (rows_text 1 rows ++ retained)

-- the text is that of the trace of each of the sides
abbrev pub HasTrace : {G : Type 0} → Machine G → ℕ → List meant.Event → (meant.Side G → Type 0) → List ℕ → Type 0
HasTrace {G} m turns es Stands text = (g : meant.Side G) → Stands g → text ≡ trace_bytes m.layout (trace_from m turns es g)
