-- What `bench N` comes to: its diagrams and their text, each over the same ten scans, and what is printed of both.
use Rattle.std.specs.Prelude.{◌≡◌, ◌*◌, ◌++◌, ◌∷◌, ◌+ℤ◌, ℕ, ℤ, pos, List, [], Some, map, codes}
use Rattle.std.specs.Fmt.{decimal, signed_decimal}
use Rattle.std.specs.List.{range_with_len}
use Rattle.plcx_meaning.specs.Diagram as diagram
use Rattle.plcx_meaning.specs.Diagram.{Pou}
use Rattle.plcx_meaning.specs.Evaluate.{diagram_machine}
use Rattle.plcx_meaning.specs.Execute as text
use Rattle.plcx_meaning.specs.Execute.{text_machine}
use Rattle.plcx_meaning.specs.Layout.{initial_in}
use Rattle.plcx_meaning.specs.Run.{Event, Scan, Machine, Side, begin_side}
use Rattle.plcx_meaning.specs.Templates.{unit_of}
use Rattle.plcx_meaning.specs.Traces.{shown_values, side_at_end}
use Rattle.plcx_meaning.specs.Tree.{PouText}
use Rattle.plcx_model.specs.declared.plan.Links.{Links}
use Rattle.plcx_model.specs.declared.plan.Types.{Types}
use Rattle.plcx_model.specs.declared.plan.Plan.{Plan}
use Rattle.plcx_model.specs.declared.project.Project.{Project}
use Rattle.plcx_view.specs.Checked.{IsChecked}
use Rattle.plcx_view.specs.Diagrams.{diagrams_of}
use Rattle.plcx_bench_project.specs.Bench.{IsBench, ring}

-- the turns of a scan
abbrev pub turns : ℕ
turns = 1000

-- a scan at a time that gives no input
abbrev pub scan_at : ℕ → Event
scan_at time = Scan time []

-- the ten scans, at the times 0 to 9
abbrev pub ten_scans : List Event
ten_scans = map scan_at (range_with_len 0 10)

-- a side before the scans: all has its initial value
abbrev pub at_first : {G : Type 0} → Machine G → Side G
at_first m = begin_side m (initial_in m.layout)

-- the sum of numbers
abbrev pub sum_of : List ℤ → ℤ
sum_of [] = pos 0
sum_of (n ∷ ns) = n +ℤ sum_of ns

-- the sum of all variables that a side shows after these events
abbrev pub sum_after : {G : Type 0} → Machine G → List Event → Side G → ℤ
sum_after m es s = sum_of (shown_values m (side_at_end m turns es s))

-- what a side comes to: that sum, after the ten scans
abbrev pub sum_at_end : {G : Type 0} → Machine G → ℤ
sum_at_end m = sum_after m ten_scans (at_first m)

-- the diagrams of the project that is measured with n networks
pub record AreMeasured (n : ℕ) (diagrams : diagram.Project) : Type 0 where
  pub project : Project
  pub is : IsBench n project
  pub links : Links
  pub types : Types
  pub plan : Plan
  pub checked : IsChecked project links types plan
  pub are : diagrams ≡ diagrams_of project links types plan

-- What is run: the program of the diagrams, and that of their text.
pub record Measured (n : ℕ) : Type 0 where
  pub diagrams : diagram.Project
  pub are : AreMeasured n diagrams
  pub program : Pou
  pub named : diagram.program_named (ring n).name diagrams ≡ Some program
  pub written : PouText
  pub written_named : text.program_named (ring n).name (unit_of diagrams) ≡ Some written

-- what the diagram comes to
abbrev pub diagram_sum : {n : ℕ} → Measured n → ℤ
diagram_sum m = sum_at_end (diagram_machine m.diagrams m.program)

-- and the text
abbrev pub text_sum : {n : ℕ} → Measured n → ℤ
text_sum m = sum_at_end (text_machine (unit_of m.diagrams) m.written)

-- a line of a summary
abbrev pub line : List ℕ → List ℕ → List ℕ
line word number = word ++ (codes " " ++ (number ++ 10 ∷ []))

-- the summary of n networks, by what both sides come to
abbrev pub summary : ℕ → (of_diagram of_text : ℤ) → List ℕ
summary n of_diagram of_text =
    line (codes "networks") (decimal n)
    ++ (line (codes "elements") (decimal (4 * n))
    ++ (line (codes "scans") (decimal 10)
    ++ (line (codes "diagram") (signed_decimal of_diagram)
    ++ line (codes "text") (signed_decimal of_text))))

-- The text is the summary of n networks, by the runs of their diagrams and of their text.
pub record IsSummary (n : ℕ) (text : List ℕ) : Type 0 where
  pub measured : Measured n
  pub text_is : text ≡ summary n (diagram_sum measured) (text_sum measured)
