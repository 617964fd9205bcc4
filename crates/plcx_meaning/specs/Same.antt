-- When two sides behave alike, and when a text does what a diagram does.
use Rattle.std.specs.Prelude.{◌≡◌, ◌≢◌, ℕ, ℤ, true, List, [], ◌∷◌, Some}
use Rattle.plcx_types.specs.Name.{in_lower_case}
use Rattle.plcx_meaning.specs.Base.{Path, is_declared, Memory, Outcome, Ended, Stopped, Site}
use Rattle.plcx_meaning.specs.Tree.{PouText}
use Rattle.plcx_meaning.specs.Layout.{declared_leaves, IsRetainedState}
use Rattle.plcx_meaning.specs.Run.{Event, Machine, Side, NoStep, tells, after, begin_side, CanFollow}
use Rattle.plcx_meaning.specs.Diagram.{Pou, Project}
use Rattle.plcx_meaning.specs.Diagram as diagram
use Rattle.plcx_meaning.specs.Evaluate.{DiagramState, diagram_machine}
use Rattle.plcx_meaning.specs.Execute.{TextState, text_machine}
use Rattle.plcx_meaning.specs.Execute as text
use Rattle.plcx_meaning.specs.Templates.{memory_name}

-- equal values on all declared paths
abbrev pub SameValues : {G H : Type 0} → Machine G → Machine H → Side G → Side H → Type 0
SameValues m k s t = (p : Path) → is_declared p ≡ true → m.value s.state p ≡ k.value t.state p

-- after each event both tell the same, which is a step, and their values are equal
abbrev pub SameRuns : {G H : Type 0} → Machine G → Machine H → ℕ → List Event → Side G → Side H → Type 0
SameRuns m k n [] s t = Unit {0}
SameRuns m k n (e ∷ es) s t =
    (tells m n e s ≡ tells k n e t) × (tells k n e t ≢ NoStep) × SameValues m k (after m n e s) (after k n e t)
    × SameRuns m k n es (after m n e s) (after k n e t)

-- Two sides are the same: they have the same declared leaves in the same order, and for every retained state they begin with equal values and run
-- alike over every list of events and every budget.
pub record IsSame {G H : Type 0} (m : Machine G) (k : Machine H) : Type 0 where
  pub layouts : declared_leaves m.layout ≡ declared_leaves k.layout
  pub begins : (kept : Path → ℤ) → SameValues m k (begin_side m kept) (begin_side k kept)
  pub runs : (kept : Path → ℤ) → IsRetainedState m.layout kept → (es : List Event) → CanFollow m (begin_side m kept) es → (turns : ℕ)
      → SameRuns m k turns es (begin_side m kept) (begin_side k kept)

-- each program of the project is one of the unit, and both do the same
abbrev pub Behaves : Project → List PouText → Type 0
Behaves project unit = (name : List ℕ) (p : Pou) → diagram.program_named name project ≡ Some p
    → (q : PouText) × (text.program_named name unit ≡ Some q) × IsSame (diagram_machine project p) (text_machine unit q)

-- a state of a diagram and one of a text agree: on all declared paths, on each memory and its variable, and on the turns that are left
pub record Agree (d : DiagramState) (g : TextState) : Type 0 where
  pub stores : (p : Path) → is_declared p ≡ true → d.store p ≡ g.store p
  pub memories : (p : Path) (k : Memory) → is_declared p ≡ true → d.memories p k ≡ g.store (in_lower_case (memory_name k) ∷ p)
  pub lefts : d.left ≡ g.left

-- two pieces of a scan, one of each side: both end with agreeing states, and what is local is related; or both stop for the same cause with agreeing states
abbrev pub AlikeAt : {L K : Type 0} → (L → K → Type 0) → Outcome DiagramState L → Outcome TextState K → Type 0
AlikeAt R (Ended d l) (Ended g k) = Agree d g × R l k
AlikeAt R (Stopped s d) (Stopped r g) = (s ≡ r) × Agree d g
AlikeAt R _ _ = ⊥

-- an instance at a declared path, whose in-outs stand for declared leaves
pub record IsDeclared (site : Site) : Type 0 where
  pub path : is_declared site.path ≡ true
  pub bound : (key : List ℕ) → is_declared (site.bound key) ≡ true

-- their states agree after each event
abbrev pub AgreeThroughout : Machine DiagramState → Machine TextState → ℕ → List Event → Side DiagramState → Side TextState → Type 0
AgreeThroughout m k n [] s t = Unit {0}
AgreeThroughout m k n (e ∷ es) s t = Agree (after m n e s).state (after k n e t).state × AgreeThroughout m k n es (after m n e s) (after k n e t)
