-- Both sides behind the same events.
use Rattle.std.proofs.Common.{◌≡◌, ◌≢◌, ℕ, ℤ, Bool, true, false, List, [], ◌∷◌, ◌++◌, Some, refl, sym, ap, ◌∙◌, subst, if◌then◌else◌}
use Rattle.std.specs.Prelude.{◌&&◌}
use mathlib.Core.Path.{fun_ext}
use Rattle.plcx_meaning.specs.Base.{Path, is_declared}
use Rattle.plcx_meaning.specs.Diagram.{Pou, Project}
use Rattle.plcx_meaning.specs.Evaluate.{diagram_machine}
use Rattle.plcx_meaning.specs.Execute.{TextState, text_machine, scope_of}
use Rattle.plcx_meaning.specs.Layout.{Scope, begun, is_retained, initial_at}
use Rattle.plcx_meaning.specs.Run.{Event, Machine, NoStep, Side, tells, after, begin_side}
use Rattle.plcx_meaning.specs.Same.{SameValues, SameRuns, IsSame, Behaves}
use Rattle.plcx_meaning.specs.Templates.{unit_of}
use Rattle.plcx_meaning.specs.Traces.{side_at_end}
use Rattle.plcx_meaning.specs.Tree.{PouText}
use Rattle.plcx_alike.specs.Laws.{SameKept, AreBegun}

-- ---- runs

module _ {G H : Type 0} (m : Machine G) (k : Machine H) (turns : ℕ) where
  pub values_behind : (es : List Event) (s : Side G) (t : Side H) → SameValues m k s t → SameRuns m k turns es s t → SameValues m k (side_at_end m turns es s) (side_at_end k turns es t)
  values_behind [] s t same runs = same
  values_behind (e ∷ es) s t same runs = values_behind es (after m turns e s) (after k turns e t) runs.2 runs.3

  pub told_behind : (es : List Event) (e : Event) (s : Side G) (t : Side H) → SameRuns m k turns (es ++ e ∷ []) s t
      → (tells m turns e (side_at_end m turns es s) ≡ tells k turns e (side_at_end k turns es t)) × (tells k turns e (side_at_end k turns es t) ≢ NoStep)
  told_behind [] e s t runs = (runs.0, runs.1)
  told_behind (d ∷ es) e s t runs = told_behind es e (after m turns d s) (after k turns d t) runs.3

-- ---- starts

-- a retained state is only looked at where it is declared
begun_same : (c : Scope) (kept other : Path → ℤ) → SameKept kept other → begun c kept ≡ begun c other
begun_same c kept other same = fun_ext (λ p. by p (is_declared p) (is_retained c p) refl)
  where
    by : (p : Path) (d r : Bool) → is_declared p ≡ d → (if d && r then kept p else initial_at c p) ≡ (if d && r then other p else initial_at c p)
    by p true true is = same p is
    by p true false is = refl
    by p false r is = refl

-- so both begin alike
pub begins_same : (unit : List PouText) (q : PouText) (kept other : Path → ℤ) → SameKept kept other → begin_side (text_machine unit q) kept ≡ begin_side (text_machine unit q) other
begins_same unit q kept other same = ap (λ (s : Path → ℤ). let side : Side TextState = record { state = record { store = s; left = 0 }; halted = false; last = 0 } in side) (begun_same (scope_of unit q) kept other same)

-- the text's program of a name is the one that behaves as the diagram
pub is_same : (project : Project) (name : List ℕ) (p : Pou) (q : PouText) (kept other : Path → ℤ) (es : List Event) → Behaves project (unit_of project) → AreBegun project name p q kept other es
    → IsSame (diagram_machine project p) (text_machine (unit_of project) q)
is_same project name p q kept other es behaves begun =
    let found = behaves name p begun.program in
    let one : Some found.0 ≡ Some q = sym found.1 ∙ begun.text in
    let same : found.0 ≡ q = cc in
    subst (λ (r : PouText). IsSame (diagram_machine project p) (text_machine (unit_of project) r)) same found.2
