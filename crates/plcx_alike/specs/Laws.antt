-- What the laws say, each of its subject.
use Rattle.std.specs.Prelude.{◌≡◌, ◌≢◌, ℕ, ℤ, true, List, [], ◌∷◌, ◌++◌, Some}
use Rattle.plcx_types.specs.Value.{Value}
use Rattle.plcx_meaning.specs.Base.{Path, is_declared}
use Rattle.plcx_meaning.specs.Diagram.{Pou, Project}
use Rattle.plcx_meaning.specs.Diagram as diagram
use Rattle.plcx_meaning.specs.Evaluate.{DiagramState, diagram_machine}
use Rattle.plcx_meaning.specs.Execute.{TextState, text_machine}
use Rattle.plcx_meaning.specs.Execute as text
use Rattle.plcx_meaning.specs.Fits.{ProjectFits}
use Rattle.plcx_meaning.specs.Layout.{IsRetainedState}
use Rattle.plcx_meaning.specs.Run.{Event, Machine, NoStep, Side, tells, begin_side, CanFollow}
use Rattle.plcx_meaning.specs.Templates.{unit_of}
use Rattle.plcx_meaning.specs.Traces.{side_at_end}
use Rattle.plcx_meaning.specs.Tree.{PouText}
use Rattle.plcx_state.specs.declared.layout.Leaf.{Leaf}
use Rattle.plcx_state.specs.Lines.{retained_lines}
use Rattle.plcx_alike.specs.Shown.{AreShown, declared_numbers}

-- two retained states have the same values of all that is declared
abbrev pub SameKept : (Path → ℤ) → (Path → ℤ) → Type 0
SameKept kept other = (p : Path) → is_declared p ≡ true → kept p ≡ other p

-- A program of a project that fits, and the program of its name in the project's text, begun from the same retained state; and events that can follow.
pub record AreBegun (project : Project) (name : List ℕ) (p : Pou) (q : PouText) (kept other : Path → ℤ) (es : List Event) : Type 0 where
  pub fits : ProjectFits project
  pub program : diagram.program_named name project ≡ Some p
  pub text : text.program_named name (unit_of project) ≡ Some q
  pub retained : IsRetainedState (diagram_machine project p).layout kept
  pub same : SameKept kept other
  pub follow : CanFollow (diagram_machine project p) (begin_side (diagram_machine project p) kept) es

-- the diagram's side behind events, and the text's
abbrev pub diagram_behind : Project → Pou → (Path → ℤ) → (turns : ℕ) → List Event → Side DiagramState
diagram_behind project p kept turns es = side_at_end (diagram_machine project p) turns es (begin_side (diagram_machine project p) kept)

abbrev pub text_behind : Project → PouText → (Path → ℤ) → (turns : ℕ) → List Event → Side TextState
text_behind project q kept turns es = side_at_end (text_machine (unit_of project) q) turns es (begin_side (text_machine (unit_of project) q) kept)

-- values that are shown of the one and of the other have the same declared leaves with the same numbers, and are the same retained lines
pub record ShowAlike {G H : Type 0} (m : Machine G) (k : Machine H) (g : Side G) (h : Side H) : Type 0 where
  pub numbers : (ls ms : List Leaf) (vs ws : List Value) → AreShown m g ls vs → AreShown k h ms ws → declared_numbers ls vs ≡ declared_numbers ms ws
  pub lines : (ls ms : List Leaf) (vs ws : List Value) → AreShown m g ls vs → AreShown k h ms ws → retained_lines ls vs ≡ retained_lines ms ws

-- behind the same events both show the same
abbrev pub MachinesShowAlike : Type 0
MachinesShowAlike =
    (project : Project) (name : List ℕ) (p : Pou) (q : PouText) (kept other : Path → ℤ) (turns : ℕ) (es : List Event) → AreBegun project name p q kept other es
    → ShowAlike (diagram_machine project p) (text_machine (unit_of project) q) (diagram_behind project p kept turns es) (text_behind project q other turns es)

-- of an event behind the same events both tell the same, and it is a step
abbrev pub MachinesTellAlike : Type 0
MachinesTellAlike =
    (project : Project) (name : List ℕ) (p : Pou) (q : PouText) (kept other : Path → ℤ) (turns : ℕ) (es : List Event) (e : Event) → AreBegun project name p q kept other (es ++ e ∷ [])
    → (tells (diagram_machine project p) turns e (diagram_behind project p kept turns es) ≡ tells (text_machine (unit_of project) q) turns e (text_behind project q other turns es))
    × (tells (text_machine (unit_of project) q) turns e (text_behind project q other turns es) ≢ NoStep)
