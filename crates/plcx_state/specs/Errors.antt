-- When each error of `read_retained` comes.
use Rattle.std.specs.Prelude.{◌≡◌, ◌+◌, ℕ, List, ⊤}
use Rattle.plcx_state.specs.declared.layout.Leaf.{Leaf}
use Rattle.plcx_state.specs.declared.lines.RetainError.{RetainError}
use Rattle.plcx_state.specs.declared.lines.RetainError.TheVariants.{Line, NoMemory}
use Rattle.plcx_state.specs.Lines.{file_lines, IsFirstWrong}

-- the first line that is wrong, counted from 1; want of memory at any time
abbrev pub WhyNotLines : List Leaf → List (List ℕ) → RetainError → Type 0
WhyNotLines leaves lines (Line line) = (place : ℕ) × (line ≡ place + 1) × IsFirstWrong leaves lines place
WhyNotLines leaves lines NoMemory = ⊤

-- the same of the lines of a file
abbrev pub WhyNotRetained : List Leaf → List ℕ → RetainError → Type 0
WhyNotRetained leaves bytes e = WhyNotLines leaves (file_lines bytes) e
