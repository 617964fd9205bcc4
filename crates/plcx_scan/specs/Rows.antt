-- The rows of a trace: which values they have, and what they are in the words of the meaning.
use Rattle.std.specs.Prelude.{◌+◌, ℕ, List, [], ◌∷◌, map, filter, slice_get, if◌then◌else◌}
use Rattle.std.specs.List.{filter_map}
use Rattle.plcx_types.specs.Value.{Value}
use Rattle.plcx_meaning.specs.Traces.{Line, line}
use Rattle.plcx_state.specs.declared.layout.Leaf.{Leaf}
use Rattle.plcx_state.specs.Retains.{Pairwise, numbers}
use Rattle.plcx_scan.specs.declared.row.TraceRow.{TraceRow}
use Rattle.plcx_scan.specs.Sides.{told, HasTypeOf}

-- the shown leaves
abbrev pub shown_leaves : List Leaf → List Leaf
shown_leaves leaves = filter (λ (leaf : Leaf). leaf.shown) leaves

-- the numbers of the shown leaves among these, which are counted from a number on
abbrev pub shown_from : ℕ → List Leaf → List ℕ
shown_from number [] = []
shown_from number (leaf ∷ leaves) = if leaf.shown then number ∷ shown_from (number + 1) leaves else shown_from (number + 1) leaves

-- and of all leaves of a layout
abbrev pub shown_numbers : List Leaf → List ℕ
shown_numbers leaves = shown_from 0 leaves

-- the values of these numbers
abbrev pub picked : List ℕ → List Value → List Value
picked numbers values = filter_map (slice_get values) numbers

-- a row in the words of the meaning
abbrev pub meant_line : TraceRow → Line
meant_line row = line (told row.outcome) (numbers row.values)

-- and rows, in order
abbrev pub meant_lines : List TraceRow → List Line
meant_lines rows = map meant_line rows

-- the row has a value of its type for each shown leaf
abbrev pub IsRowOf : List Leaf → TraceRow → Type 0
IsRowOf leaves row = Pairwise HasTypeOf (shown_leaves leaves) row.values
