-- What a side leaves to whose scans someone listens.
use Rattle.std.proofs.Common.{◌≡◌, ℕ, List, [], take, ap, ap₂, ◌∙◌, inl, inr, refl}
use Rattle.std.specs.Prelude.{Option, Some}
use Rattle.std.specs.Borrow.{MutBor}
use Rattle.std.specs.List.{fold}
use Rattle.plcx_meaning.specs.Evaluate.{Heard, DiagramState}
use Rattle.plcx_meaning.specs.Run.{Event, Side}
use Rattle.plcx_meaning.specs.Traces.{trace_of, retained_values}
use Rattle.plcx_meaning.specs.Watch.{heard_over}
use Rattle.plcx_scan.specs.Sides.{BringsAll}
use Rattle.plcx_scan.specs.Texts.{HasTrace, trace_bytes}
use Rattle.plcx_eval.specs.declared.watching.Watched.{Watched}
use Rattle.plcx_eval.specs.Listening.{told_behind, lenders, watched_machine, ListensTo, WatchIsTold}
use Rattle.plcx_eval.specs.Sides.{diagrams, program, machine_of, StandsFor}
use Rattle.plcx_eval.specs.Watching.{watched, HeardInOrder}
use Rattle.plcx_eval.proofs.Hearing.{watched_runs}
use Rattle.plcx_traced.specs.Files.{IsTraceOf, IsFrontOf, Stops}
use Rattle.plcx_traced.specs.declared.error.RunError.{RunError}
use Rattle.plcx_traced.specs.declared.error.RunError.TheVariants.{NoProgram, RetainedRead, Line, EventsRead, Row, NoMemory}
use Rattle.plcx_simulate.specs.Listening.{IsWatchedTrace, IsHeardFront, StopsWatched}

module _ {M : Type 0} (tell : M → Heard → M) (old new : Watched M) (turns : ℕ) (is_told : WatchIsTold tell) (in_order : HeardInOrder) where
  abbrev Became : List Heard → Type 0
  Became heard = new.watch.now ≡ fold tell old.watch.now heard

  -- the texts of its trace are those of the diagram
  trace_is : (es : List Event) (text : List ℕ) → HasTrace (watched_machine tell old) turns es (ListensTo old) text → HasTrace (machine_of old.side.now) turns es (StandsFor old.side.now) text
  trace_is es text has g stands =
      let h = watched (lenders old) (Some old.watch) g in
      let run = watched_runs (told_behind tell) (lenders old) (diagrams old.side.now) (program old.side.now) turns es h in
      has h (record { side = stands; watch = refl })
      ∙ ap (trace_bytes (machine_of old.side.now).layout) (ap₂ (λ ls (d : Side DiagramState). trace_of ls (retained_values (machine_of old.side.now) d)) run.lines run.side)

  pub listened_trace : (told : Option (List ℕ)) (text : List ℕ) → IsTraceOf told (watched_machine tell old) turns (ListensTo old) (ListensTo new) text → IsWatchedTrace told turns old.side.now Became text
  listened_trace told text t = record {
    events = t.events;
    tells = t.tells;
    trace = trace_is t.events text t.trace;
    heard = λ g stands. ap (λ (m : MutBor M). m.now) (is_told old new turns t.events t.brings g stands);
  }

  same_front : (g : Side DiagramState) → StandsFor old.side.now g → (es : List Event) → BringsAll (watched_machine tell old) turns es (ListensTo old) (ListensTo new) → new.watch.ghost_name ≡ old.watch.ghost_name
  same_front g stands es brings = ap (λ (m : MutBor M). m.ghost_name) (is_told old new turns es brings g stands)

  pub same_after : (g : Side DiagramState) → StandsFor old.side.now g → (told : Option (List ℕ)) (text : List ℕ) → IsTraceOf told (watched_machine tell old) turns (ListensTo old) (ListensTo new) text
      → new.watch.ghost_name ≡ old.watch.ghost_name
  same_after g stands told text t = same_front g stands t.events t.brings

  unmoved : new ≡ old → new.watch.ghost_name ≡ old.watch.ghost_name
  unmoved e = ap (λ (w : Watched M). w.watch.ghost_name) e

  pub same_stopped : (g : Side DiagramState) → StandsFor old.side.now g → (told : Option (List ℕ)) (e : RunError) → Stops told (watched_machine tell old) turns (ListensTo old) (ListensTo new) (new ≡ old) e
      → new.watch.ghost_name ≡ old.watch.ghost_name
  same_stopped g stands told NoMemory (inl e) = unmoved e
  same_stopped g stands told NoMemory (inr f) = same_front g stands (take f.brings.0 f.events) f.brings.2
  same_stopped g stands told (NoProgram programs) e = unmoved e
  same_stopped g stands told RetainedRead e = unmoved e
  same_stopped g stands told (Line line) e = unmoved e
  same_stopped g stands told EventsRead e = unmoved e
  same_stopped g stands told (Row row) e = unmoved e

  nothing : new ≡ old → Became []
  nothing e = ap (λ (w : Watched M). w.watch.now) e

  front : (told : Option (List ℕ)) → IsFrontOf told (watched_machine tell old) turns (ListensTo old) (ListensTo new) → (g : Side DiagramState) → StandsFor old.side.now g → IsHeardFront told turns old.side.now Became g
  front told f g stands = record {
    events = f.events;
    tells = f.tells;
    front = heard_over (diagrams old.side.now) (program old.side.now) turns (take f.brings.0 f.events) g;
    is_front = in_order (diagrams old.side.now) (program old.side.now) turns f.events g f.brings.0;
    became = ap (λ (m : MutBor M). m.now) (is_told old new turns (take f.brings.0 f.events) f.brings.2 g stands);
  }

  pub stops_watched : (told : Option (List ℕ)) (e : RunError) → Stops told (watched_machine tell old) turns (ListensTo old) (ListensTo new) (new ≡ old) e → StopsWatched told turns old.side.now Became e
  stops_watched told NoMemory (inl e) = λ g stands. inl (nothing e)
  stops_watched told NoMemory (inr f) = λ g stands. inr (front told f g stands)
  stops_watched told (NoProgram programs) e = nothing e
  stops_watched told RetainedRead e = nothing e
  stops_watched told (Line line) e = nothing e
  stops_watched told EventsRead e = nothing e
  stops_watched told (Row row) e = nothing e
