-- Both sides by their machines.
use Rattle.std.proofs.Common.{◌≡◌, ℕ, List, [], ◌∷◌, ◌++◌, Option, Some, None, true, refl, sym, ap, ◌∙◌, subst}
use Rattle.std.specs.Prelude.{is_some}
use Rattle.plcx_types.specs.Value.{Value}
use Rattle.plcx_meaning.specs.Diagram as diagram
use Rattle.plcx_meaning.specs.Diagram.{Pou, Project}
use Rattle.plcx_meaning.specs.Evaluate.{DiagramState, diagram_machine}
use Rattle.plcx_meaning.specs.Execute as text
use Rattle.plcx_meaning.specs.Execute.{TextState, text_machine}
use Rattle.plcx_meaning.specs.Layout.{IsRetainedState}
use Rattle.plcx_meaning.specs.Run.{Event, Machine, Side, begin_side, CanFollow, tells}
use Rattle.plcx_meaning.specs.Templates.{unit_of}
use Rattle.plcx_meaning.specs.Traces.{side_at_end}
use Rattle.plcx_meaning.specs.Tree.{PouText}
use Rattle.plcx_state.specs.Lines.{retained_lines}
use Rattle.plcx_state.specs.Retains.{kept_at, Agrees, numbers}
use Rattle.plcx_scan.specs.declared.side.Outcome.{Outcome}
use Rattle.plcx_scan.specs.Sides.{Tells, told}
use Rattle.plcx_eval.specs.declared.side.DiagramSide.{DiagramSide}
use Rattle.plcx_eval.specs.Sides as drawn
use Rattle.plcx_run.specs.declared.side.TextSide.{TextSide}
use Rattle.plcx_run.specs.Sides as written
use Rattle.plcx_alike.specs.Shown.{AreShown, declared_numbers}
use Rattle.plcx_alike.specs.Laws.{AreBegun, diagram_behind, text_behind, MachinesShowAlike, MachinesTellAlike}
use Rattle.plcx_sides.specs.Both.{AreOpened, CanCome, AreBehind, DiagramShows, TextShows}

-- there is something
some_is : {A : Type 0} (o : Option A) → is_some o ≡ true → (x : A) × (o ≡ Some x)
some_is None h = absurd (cc)
some_is (Some x) h = (x, refl)

module _ (project : Project) (name : List ℕ) (kept other : List (Option Value)) (d : DiagramSide) (t : TextSide) (opened : AreOpened project name kept other d t) where
  -- the programs of the name
  drawn_program : (p : Pou) × (diagram.program_named name project ≡ Some p)
  drawn_program = some_is (diagram.program_named name project) opened.diagram.there

  written_program : (q : PouText) × (text.program_named name (unit_of project) ≡ Some q)
  written_program = some_is (text.program_named name (unit_of project)) opened.text.there

  abbrev p : Pou
  p = drawn_program.0

  abbrev q : PouText
  q = written_program.0

  drawn_opens : drawn.OpensFor p kept d
  drawn_opens = opened.diagram.opens p drawn_program.1

  written_opens : written.OpensFor q other t
  written_opens = opened.text.opens q written_program.1

  -- their machines
  drawn_machine : drawn.machine_of d ≡ diagram_machine project p
  drawn_machine = drawn_opens.machine ∙ ap (λ (x : Project). diagram_machine x p) opened.diagram.of

  written_machine : written.machine_of t ≡ text_machine (unit_of project) q
  written_machine = written_opens.machine ∙ ap (λ (x : List PouText). text_machine x q) opened.text.of

  drawn_begins : drawn.StandsFor d (begin_side (diagram_machine project p) (kept_at (drawn.laid_of d).leaves kept))
  drawn_begins = subst (λ (x : Project). drawn.StandsFor d (begin_side (diagram_machine x p) (kept_at (drawn.laid_of d).leaves kept))) opened.diagram.of drawn_opens.begins

  written_begins : written.StandsFor t (begin_side (text_machine (unit_of project) q) (kept_at (written.laid_of t).leaves other))
  written_begins = subst (λ (x : List PouText). written.StandsFor t (begin_side (text_machine x q) (kept_at (written.laid_of t).leaves other))) opened.text.of written_opens.begins

  begun : (es : List Event) → CanCome kept d es → AreBegun project name p q (kept_at (drawn.laid_of d).leaves kept) (kept_at (written.laid_of t).leaves other) es
  begun es come = record {
    fits = opened.fits;
    program = drawn_program.1;
    text = written_program.1;
    retained = subst (λ (m : Machine DiagramState). IsRetainedState m.layout (kept_at (drawn.laid_of d).leaves kept)) drawn_machine opened.retained;
    same = opened.same;
    follow = subst (λ (m : Machine DiagramState). CanFollow m (begin_side m (kept_at (drawn.laid_of d).leaves kept)) es) drawn_machine come;
  }

  module _ (turns : ℕ) (es : List Event) (e : DiagramSide) (u : TextSide) (behind : AreBehind turns es d t e u) where
    abbrev g : Side DiagramState
    g = diagram_behind project p (kept_at (drawn.laid_of d).leaves kept) turns es

    abbrev h : Side TextState
    h = text_behind project q (kept_at (written.laid_of t).leaves other) turns es

    drawn_stands : drawn.StandsFor e g
    drawn_stands = subst (λ (m : Machine DiagramState). drawn.StandsFor e (side_at_end m turns es (begin_side (diagram_machine project p) (kept_at (drawn.laid_of d).leaves kept)))) drawn_machine
        (behind.diagram (begin_side (diagram_machine project p) (kept_at (drawn.laid_of d).leaves kept)) drawn_begins)

    written_stands : written.StandsFor u h
    written_stands = subst (λ (m : Machine TextState). written.StandsFor u (side_at_end m turns es (begin_side (text_machine (unit_of project) q) (kept_at (written.laid_of t).leaves other)))) written_machine
        (behind.text (begin_side (text_machine (unit_of project) q) (kept_at (written.laid_of t).leaves other)) written_begins)

    drawn_shown : DiagramShows e → AreShown (diagram_machine project p) g (drawn.laid_of e).leaves (drawn.held_of e)
    drawn_shown s = let same = behind.same_diagram ∙ drawn_machine in record {
      layout = s.layout ∙ ap (λ (m : Machine DiagramState). m.layout) same;
      shows = subst (λ (m : Machine DiagramState). Agrees (drawn.laid_of e).leaves (m.value g.state) (numbers (drawn.held_of e))) same (s.shows g drawn_stands);
      typed = s.typed;
    }

    written_shown : TextShows u → AreShown (text_machine (unit_of project) q) h (written.laid_of u).leaves (written.held_of u)
    written_shown s = let same = behind.same_text ∙ written_machine in record {
      layout = s.layout ∙ ap (λ (m : Machine TextState). m.layout) same;
      shows = subst (λ (m : Machine TextState). Agrees (written.laid_of u).leaves (m.value h.state) (numbers (written.held_of u))) same (s.shows h written_stands);
      typed = s.typed;
    }

    pub show : MachinesShowAlike → CanCome kept d es → DiagramShows e → TextShows u
        → (declared_numbers (drawn.laid_of e).leaves (drawn.held_of e) ≡ declared_numbers (written.laid_of u).leaves (written.held_of u))
        × (retained_lines (drawn.laid_of e).leaves (drawn.held_of e) ≡ retained_lines (written.laid_of u).leaves (written.held_of u))
    show law come a b =
        let alike = law project name p q (kept_at (drawn.laid_of d).leaves kept) (kept_at (written.laid_of t).leaves other) turns es (begun es come) in (
          alike.numbers (drawn.laid_of e).leaves (written.laid_of u).leaves (drawn.held_of e) (written.held_of u) (drawn_shown a) (written_shown b),
          alike.lines (drawn.laid_of e).leaves (written.laid_of u).leaves (drawn.held_of e) (written.held_of u) (drawn_shown a) (written_shown b),
        )

    pub tell : MachinesTellAlike → (next : Event) → CanCome kept d (es ++ next ∷ []) → (x y : Outcome) → Tells (drawn.machine_of e) turns next (drawn.StandsFor e) x → Tells (written.machine_of u) turns next (written.StandsFor u) y → told x ≡ told y
    tell law next come x y a b =
        let alike = law project name p q (kept_at (drawn.laid_of d).leaves kept) (kept_at (written.laid_of t).leaves other) turns es next (begun (es ++ next ∷ []) come) in
        sym (a g drawn_stands)
        ∙ ap (λ (m : Machine DiagramState). tells m turns next g) (behind.same_diagram ∙ drawn_machine)
        ∙ alike.0
        ∙ sym (ap (λ (m : Machine TextState). tells m turns next h) (behind.same_text ∙ written_machine))
        ∙ b h written_stands
