-- A retained state as lines, and the report on what became of each value.
use Rattle.std.specs.Prelude.{◌++◌, ℕ, List, [], Option, Some, None, codes, slice_get}
use Rattle.std.specs.List.{flat_map}
use Rattle.plcx_types.specs.Printed.{printed}
use Rattle.plcx_types.specs.Value.{Value}
use Rattle.plcx_state.specs.declared.layout.Leaf.{Leaf}
use Rattle.plcx_state.specs.Layouts.{dotted}
use Rattle.plcx_state.specs.Lines.{retained_lines}
use Rattle.plcx_state.specs.Stores.{all_begun}
use Rattle.plcx_keep.specs.declared.carry.Fate.{Fate}
use Rattle.plcx_keep.specs.declared.carry.Fate.TheVariants.{Kept, Changed, Fresh}
use Rattle.plcx_keep.specs.declared.carry.CarryRow.{CarryRow}
use Rattle.plcx_keep.specs.declared.carry.Lost.{Lost}
use Rattle.plcx_keep.specs.declared.carry.Carry.{Carry}

-- the retained lines of a state: those of the values that a program begins with
abbrev pub state_lines : List Leaf → List (Option Value) → List ℕ
state_lines leaves kept = retained_lines leaves (all_begun leaves kept)

-- a word, the path of a leaf and a value, as a line
abbrev pub report_line : List ℕ → Leaf → Value → List ℕ
report_line word leaf v = word ++ (codes "," ++ (dotted leaf.path ++ (codes "," ++ (printed v ++ codes "\n"))))

-- the same for the leaf of a number
abbrev pub line_at : List ℕ → Option Leaf → Value → List ℕ
line_at word None v = []
line_at word (Some leaf) v = report_line word leaf v

-- the word of each fate
abbrev pub fate_word : Fate → List ℕ
fate_word Kept = codes "kept"
fate_word Changed = codes "changed"
fate_word Fresh = codes "fresh"

-- the line of a row, over the leaves of the new layout
abbrev pub row_line : List Leaf → CarryRow → List ℕ
row_line leaves row = line_at (fate_word row.fate) (slice_get leaves row.leaf) row.value

-- and of all rows, in order
abbrev pub rows_text : List Leaf → List CarryRow → List ℕ
rows_text leaves rows = flat_map (row_line leaves) rows

-- the line of a lost value, over the leaves of the old layout
abbrev pub lost_line : List Leaf → Lost → List ℕ
lost_line leaves lost = line_at (codes "dropped") (slice_get leaves lost.leaf) lost.value

-- and of all lost values, in order
abbrev pub lost_text : List Leaf → List Lost → List ℕ
lost_text leaves all = flat_map (lost_line leaves) all

-- the whole report
abbrev pub report_text : List Leaf → List Leaf → Carry → List ℕ
report_text before after carry = rows_text after carry.rows ++ lost_text before carry.lost
