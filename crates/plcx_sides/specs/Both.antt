-- The side of a diagram and the side of its text.
use Rattle.std.specs.Prelude.{◌≡◌, ℕ, List, [], ◌∷◌, ◌++◌, Option}
use Rattle.plcx_types.specs.Value.{Value}
use Rattle.plcx_meaning.specs.Diagram.{Project}
use Rattle.plcx_meaning.specs.Fits.{ProjectFits}
use Rattle.plcx_meaning.specs.Layout.{IsRetainedState}
use Rattle.plcx_meaning.specs.Run.{Event, begin_side, CanFollow}
use Rattle.plcx_meaning.specs.Templates.{unit_of}
use Rattle.plcx_state.specs.Layouts.{all_meant}
use Rattle.plcx_state.specs.Lines.{retained_lines}
use Rattle.plcx_state.specs.Retains.{Pairwise, kept_at}
use Rattle.plcx_scan.specs.declared.side.Outcome.{Outcome}
use Rattle.plcx_scan.specs.Sides.{HasTypeOf, Tells, BringsAll, Shows, told}
use Rattle.plcx_eval.specs.declared.side.DiagramSide.{DiagramSide}
use Rattle.plcx_eval.specs.Sides as drawn
use Rattle.plcx_run.specs.declared.side.TextSide.{TextSide}
use Rattle.plcx_run.specs.Sides as written
use Rattle.plcx_alike.specs.Shown.{declared_numbers}
use Rattle.plcx_alike.specs.Laws.{SameKept}

-- Both are opened for the program of one name, of a project that fits and of its text, from retained states that are the same where they are declared.
pub record AreOpened (project : Project) (name : List ℕ) (kept other : List (Option Value)) (d : DiagramSide) (t : TextSide) : Type 0 where
  pub fits : ProjectFits project
  pub diagram : drawn.IsOpened project name kept d
  pub text : written.IsOpened (unit_of project) name other t
  pub retained : IsRetainedState (drawn.machine_of d).layout (kept_at (drawn.laid_of d).leaves kept)
  pub same : SameKept (kept_at (drawn.laid_of d).leaves kept) (kept_at (written.laid_of t).leaves other)

-- events that can follow on both
abbrev pub CanCome : List (Option Value) → DiagramSide → List Event → Type 0
CanCome kept d es = CanFollow (drawn.machine_of d) (begin_side (drawn.machine_of d) (kept_at (drawn.laid_of d).leaves kept)) es

-- events led from each side to another one, which shows what it holds
pub record AreBehind (turns : ℕ) (es : List Event) (d : DiagramSide) (t : TextSide) (e : DiagramSide) (u : TextSide) : Type 0 where
  pub diagram : BringsAll (drawn.machine_of d) turns es (drawn.StandsFor d) (drawn.StandsFor e)
  pub text : BringsAll (written.machine_of t) turns es (written.StandsFor t) (written.StandsFor u)
  pub same_diagram : drawn.machine_of e ≡ drawn.machine_of d
  pub same_text : written.machine_of u ≡ written.machine_of t

-- a side shows what it holds, as its calls of `layout` and `values` ensure
pub record DiagramShows (e : DiagramSide) : Type 0 where
  pub layout : all_meant (drawn.laid_of e).leaves ≡ (drawn.machine_of e).layout
  pub shows : Shows (drawn.machine_of e) (drawn.laid_of e).leaves (drawn.StandsFor e) (drawn.held_of e)
  pub typed : Pairwise HasTypeOf (drawn.laid_of e).leaves (drawn.held_of e)

pub record TextShows (u : TextSide) : Type 0 where
  pub layout : all_meant (written.laid_of u).leaves ≡ (written.machine_of u).layout
  pub shows : Shows (written.machine_of u) (written.laid_of u).leaves (written.StandsFor u) (written.held_of u)
  pub typed : Pairwise HasTypeOf (written.laid_of u).leaves (written.held_of u)

-- Behind the same events both hold the same numbers of all declared leaves, in the same order, and have the same retained lines.
abbrev pub SidesShowAlike : Type 0
SidesShowAlike =
    (project : Project) (name : List ℕ) (kept other : List (Option Value)) (d : DiagramSide) (t : TextSide) → AreOpened project name kept other d t
    → (turns : ℕ) (es : List Event) → CanCome kept d es → (e : DiagramSide) (u : TextSide) → AreBehind turns es d t e u → DiagramShows e → TextShows u
    → (declared_numbers (drawn.laid_of e).leaves (drawn.held_of e) ≡ declared_numbers (written.laid_of u).leaves (written.held_of u))
    × (retained_lines (drawn.laid_of e).leaves (drawn.held_of e) ≡ retained_lines (written.laid_of u).leaves (written.held_of u))

-- And an event that comes next comes out alike.
abbrev pub SidesTellAlike : Type 0
SidesTellAlike =
    (project : Project) (name : List ℕ) (kept other : List (Option Value)) (d : DiagramSide) (t : TextSide) → AreOpened project name kept other d t
    → (turns : ℕ) (es : List Event) (next : Event) → CanCome kept d (es ++ next ∷ []) → (e : DiagramSide) (u : TextSide) → AreBehind turns es d t e u
    → (x y : Outcome) → Tells (drawn.machine_of e) turns next (drawn.StandsFor e) x → Tells (written.machine_of u) turns next (written.StandsFor u) y → told x ≡ told y
