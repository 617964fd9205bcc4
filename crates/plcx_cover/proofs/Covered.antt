-- What a run leaves to which a cover listens.
use Rattle.std.proofs.Common.{◌≡◌, ◌∙◌, ℕ, ℤ, pos, List, Option, Some, None, take, refl, sym, ap, subst}
use Rattle.std.specs.Borrow.{MutBor}
use Rattle.std.specs.Prelude.{Result, Ok, Err, IfOk}
use Rattle.plcx_meaning.specs.Base.{Outcome, Ended, Stopped, Stuck}
use Rattle.plcx_meaning.specs.Diagram.{Pou, Project}
use Rattle.plcx_meaning.specs.Evaluate.{Heard, DiagramState, diagram_machine}
use Rattle.plcx_meaning.specs.Run.{Event, Machine, Side}
use Rattle.plcx_meaning.specs.Traces.{Line}
use Rattle.plcx_meaning.specs.Watch.{heard_over}
use Rattle.plcx_scan.specs.Rows.{meant_lines}
use Rattle.plcx_scan.specs.Sides.{BringsAll, BringsSome, HasLines}
use Rattle.plcx_scan.specs.declared.row.Trace.{Trace}
use Rattle.plcx_eval.specs.declared.watching.Watched.{Watched}
use Rattle.plcx_eval.specs.Listening.{told_behind, lenders, watched_machine, ListensTo, WatchIsTold}
use Rattle.plcx_eval.specs.Sides.{diagrams, program, machine_of, StandsFor}
use Rattle.plcx_eval.specs.Watching.{Lenders, Listened, listened, with_watch, listened_machine, watched}
use Rattle.plcx_eval.proofs.Hearing.{watched_runs}
use Rattle.plcx_cover.specs.declared.counting.CoverRow.{CoverRow}
use Rattle.plcx_cover.specs.Counts.{told}
use Rattle.plcx_cover.specs.Covers.{Covers, CoversSome}
use Rattle.plcx_cover.proofs.Growing.{counts_grow}

module _ (old new : Watched (List CoverRow)) (turns : ℕ) where
  -- the lines are those of the diagram
  lines_are : (es : List Event) (lines : List Line) → HasLines (watched_machine told old) turns es (ListensTo old) lines → HasLines (machine_of old.side.now) turns es (StandsFor old.side.now) lines
  lines_are es lines has g stands =
      let h = watched (lenders old) (Some old.watch) g in
      has h (record { side = stands; watch = refl }) ∙ (watched_runs (told_behind told) (lenders old) (diagrams old.side.now) (program old.side.now) turns es h).lines

  pub lines_of : {E : Type 0} (es : List Event) (r : Result Trace E) → IfOk r (λ (trace : Trace). HasLines (watched_machine told old) turns es (ListensTo old) (meant_lines trace.rows))
      → IfOk r (λ (trace : Trace). HasLines (machine_of old.side.now) turns es (StandsFor old.side.now) (meant_lines trace.rows))
  lines_of es (Ok trace) has = lines_are es (meant_lines trace.rows) has
  lines_of es (Err e) has = has

  pub covers : WatchIsTold told → (es : List Event) → BringsAll (watched_machine told old) turns es (ListensTo old) (ListensTo new) → Covers turns es old.side.now new.side.now old.watch.now new.watch.now
  covers is_told es brings = record {
    brings = λ g stands.
        let h = watched (lenders old) (Some old.watch) g in
        subst (StandsFor new.side.now) (watched_runs (told_behind told) (lenders old) (diagrams old.side.now) (program old.side.now) turns es h).side (brings h (record { side = stands; watch = refl })).side;
    grows = λ g stands.
        ap (λ (m : MutBor (List CoverRow)). m.now) (is_told old new turns es brings g stands)
        ∙ counts_grow old.watch.now (heard_over (diagrams old.side.now) (program old.side.now) turns es g);
  }

  pub covers_some : WatchIsTold told → (es : List Event) → BringsSome (watched_machine told old) turns es (ListensTo old) (ListensTo new) → CoversSome turns es old.side.now new.side.now old.watch.now new.watch.now
  covers_some is_told es brings = (brings.0, brings.1, covers is_told (take brings.0 es) brings.2)

-- ---- the diagram's own machine, of one that is listened to

module _ {M : Type 0} (tell : M → Heard → M) (n : Lenders) where
  abbrev without_watch : Outcome (Listened M) (Unit {0}) → Outcome DiagramState (Unit {0})
  without_watch (Ended l u) = Ended l.diagram u
  without_watch (Stopped s l) = Stopped s l.diagram
  without_watch Stuck = Stuck

  abbrev alone : Machine (Listened M) → Machine DiagramState
  alone m = record {
    layout = m.layout;
    begin = λ kept. (m.begin kept).diagram;
    scan = λ turns time inputs d. without_watch (m.scan turns time inputs (listened n d None));
    restart = λ r d. (m.restart r (listened n d None)).diagram;
    value = λ d q. m.value (listened n d None) q;
  }

  unwatched_is : (w : Option M) (o : Outcome DiagramState (Unit {0})) → without_watch (with_watch n w o) ≡ o
  unwatched_is w (Ended d u) = refl
  unwatched_is w (Stopped s d) = refl
  unwatched_is w Stuck = refl

  alone_is : (n' : Lenders) (project : Project) (p : Pou) → alone (listened_machine tell n' project p) ≡ diagram_machine project p
  alone_is n' project p = λ i. record {
    layout = (diagram_machine project p).layout;
    begin = (diagram_machine project p).begin;
    scan = λ turns time inputs d. unwatched_is None ((diagram_machine project p).scan turns time inputs d) i;
    restart = (diagram_machine project p).restart;
    value = (diagram_machine project p).value;
  }

pub own_machine : {M : Type 0} (tell : M → Heard → M) (old new : Watched M) → watched_machine tell new ≡ watched_machine tell old → machine_of new.side.now ≡ machine_of old.side.now
own_machine tell old new e =
    sym (alone_is (told_behind tell) (lenders old) (lenders new) (diagrams new.side.now) (program new.side.now))
    ∙ ap (alone (told_behind tell) (lenders old)) e
    ∙ alone_is (told_behind tell) (lenders old) (lenders old) (diagrams old.side.now) (program old.side.now)

-- and where both are lent from
pub same_lenders : {M : Type 0} (tell : M → Heard → M) (old new : Watched M) → watched_machine tell new ≡ watched_machine tell old → lenders new ≡ lenders old
same_lenders {M} tell old new e = ap (λ (m : Machine (Listened (MutBor M))). (m.begin (λ q. pos 0)).lenders) e
