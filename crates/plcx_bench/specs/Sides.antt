-- Serves proofs: a side before its scans, and the sum of what it shows.
use Rattle.std.specs.Prelude.{◌≡◌, ◌+ℤ◌, ℕ, ℤ, pos, List, [], ◌∷◌, Some, if◌then◌else◌}
use Rattle.plcx_types.specs.Value.{Value}
use Rattle.plcx_meaning.specs.Diagram as diagram
use Rattle.plcx_meaning.specs.Diagram.{Pou}
use Rattle.plcx_meaning.specs.Evaluate.{diagram_machine}
use Rattle.plcx_meaning.specs.Execute as text
use Rattle.plcx_meaning.specs.Execute.{text_machine}
use Rattle.plcx_meaning.specs.Run.{Machine, Side}
use Rattle.plcx_meaning.specs.Traces.{shown_values}
use Rattle.plcx_meaning.specs.Tree.{PouText}
use Rattle.plcx_state.specs.declared.layout.Leaf.{Leaf}
use Rattle.plcx_eval.specs.declared.side.DiagramSide.{DiagramSide}
use Rattle.plcx_eval.specs.Sides as drawn
use Rattle.plcx_run.specs.declared.side.TextSide.{TextSide}
use Rattle.plcx_run.specs.Sides as written
use Rattle.plcx_bench.specs.Summary.{at_first, sum_of}

-- the number that a leaf adds to a sum: that of its value, where it is shown
abbrev pub number_in : Leaf → Value → ℤ
number_in leaf v = if leaf.shown then v.n else pos 0

-- the sum of the values of the shown leaves
abbrev pub sum_in : List Leaf → List Value → ℤ
sum_in [] vs = pos 0
sum_in (leaf ∷ leaves) [] = pos 0
sum_in (leaf ∷ leaves) (v ∷ vs) = number_in leaf v +ℤ sum_in leaves vs

-- the sum is that of what each of the sides shows
abbrev pub IsSumOf : {G : Type 0} → Machine G → (Side G → Type 0) → ℤ → Type 0
IsSumOf {G} m Stands sum = (g : Side G) → Stands g → sum ≡ sum_of (shown_values m g)

-- the side of the diagram is begun from initial values
pub record IsDrawn (project : diagram.Project) (name : List ℕ) (s : DiagramSide) : Type 0 where
  pub of : drawn.diagrams s ≡ project
  pub program : (p : Pou) → diagram.program_named name project ≡ Some p → drawn.program s ≡ p
  pub stands : (p : Pou) → diagram.program_named name project ≡ Some p → drawn.StandsFor s (at_first (diagram_machine project p))
  pub time : drawn.last_of s ≡ 0

-- and that of the text
pub record IsWritten (unit : List PouText) (name : List ℕ) (s : TextSide) : Type 0 where
  pub of : written.unit s ≡ unit
  pub program : (p : PouText) → text.program_named name unit ≡ Some p → written.program s ≡ p
  pub stands : (p : PouText) → text.program_named name unit ≡ Some p → written.StandsFor s (at_first (text_machine unit p))
  pub time : written.last_of s ≡ 0
