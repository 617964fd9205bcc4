-- What a simulation leaves from what its side leaves.
use Rattle.std.proofs.Common.{◌≡◌, ◌∙◌, ℕ, ℤ, List, [], sym, ap, subst, inl, inr}
use Rattle.std.specs.Prelude.{Option, Result, Ok, Err, IfOk, IfErr, OnOk, MatchResult, ◌⊎◌}
use Rattle.plcx_types.specs.Lists.{Each}
use Rattle.plcx_meaning.specs.Base.{Path}
use Rattle.plcx_meaning.specs.Diagram.{Pou, Project}
use Rattle.plcx_meaning.specs.Evaluate.{Heard, DiagramState, diagram_machine}
use Rattle.plcx_meaning.specs.Run.{Machine, begin_side}
use Rattle.plcx_meaning.specs.Watch.{heard_over}
use Rattle.plcx_words.specs.Command.{Run}
use Rattle.plcx_state.specs.Layouts.{all_meant}
use Rattle.plcx_state.specs.Retains.{kept_at}
use Rattle.plcx_state.specs.Tables.{HasPlainNames}
use Rattle.plcx_scan.specs.Texts.{HasTrace}
use Rattle.plcx_eval.specs.declared.side.DiagramSide.{DiagramSide}
use Rattle.plcx_eval.specs.Sides.{diagrams, program, machine_of, laid_of, StandsFor, OpensFor}
use Rattle.plcx_eval.specs.Watching.{IsFront}
use Rattle.plcx_traced.specs.Files.{TellsEvents}
use Rattle.plcx_traced.specs.Runs.{Begun, Course, IsTraced, WhyNot, kept_in}
use Rattle.plcx_traced.specs.Runs as runs
use Rattle.plcx_traced.specs.declared.error.RunError.{RunError}
use Rattle.plcx_traced.specs.declared.error.RunError.TheVariants.{NoProgram, RetainedRead, Line, EventsRead, Row, NoMemory}
use Rattle.plcx_traced.proofs.Made.{IsOpened, kept_at_same, plain_same}
use Rattle.plcx_simulate.specs.Programs.{programs_of}
use Rattle.plcx_simulate.specs.Listening.{IsWatchedTrace, IsHeardFront, StopsWatched}
use Rattle.plcx_simulate.specs.Watching.{HearsAll, HearsFront, Watches}

-- of the same file
pub trace_wider : (told same : Option (List ℕ)) → told ≡ same → (turns : ℕ) (s : DiagramSide) (Became : List Heard → Type 0) (text : List ℕ) → IsWatchedTrace told turns s Became text → IsWatchedTrace same turns s Became text
trace_wider told same eq turns s Became text h = subst (λ t. IsWatchedTrace t turns s Became text) eq h

pub stops_wider : (told same : Option (List ℕ)) → told ≡ same → (turns : ℕ) (s : DiagramSide) (Became : List Heard → Type 0) (e : RunError) → StopsWatched told turns s Became e → StopsWatched same turns s Became e
stops_wider told same eq turns s Became e h = subst (λ t. StopsWatched t turns s Became e) eq h

-- nothing was heard where a run never began
pub heard_nothing : (told : List ℕ → Option (List ℕ)) (project : Project) (r : Run) (Became : List Heard → Type 0) (e : RunError) → Became [] → Watches told project r Became (Err e)
heard_nothing told project r Became NoMemory h = inl h
heard_nothing told project r Became (NoProgram programs) h = h
heard_nothing told project r Became RetainedRead h = h
heard_nothing told project r Became (Line line) h = h
heard_nothing told project r Became EventsRead h = h
heard_nothing told project r Became (Row row) h = h

module _ (project : Project) (told : List ℕ → Option (List ℕ)) (r : Run) (b : Begun told (programs_of project) r) (s : DiagramSide) (of : diagrams s ≡ project) (w : OpensFor b.chosen.program b.kept s) where
  machine_is : machine_of s ≡ runs.machine_of b
  machine_is = w.machine ∙ ap (λ d. diagram_machine d b.chosen.program) of

  leaves_are : all_meant (laid_of s).leaves ≡ (runs.machine_of b).layout
  leaves_are = w.laid.leaves.leaves ∙ ap (λ d. (diagram_machine d b.chosen.program).layout) of

  stands : StandsFor s (begin_side (runs.machine_of b) (kept_at (laid_of s).leaves b.kept))
  stands = subst (λ d. StandsFor s (begin_side (diagram_machine d b.chosen.program) (kept_at (laid_of s).leaves b.kept))) of w.begins

  pub opened : IsOpened (programs_of project) told r b (machine_of s) (laid_of s).leaves (StandsFor s)
  opened = record { machine = machine_is; leaves_are = leaves_are; stands = stands }

  own : all_meant (laid_of s).leaves ≡ all_meant b.chosen.laid.leaves
  own = leaves_are ∙ sym b.chosen.leaves_are

  stands_there : StandsFor s (begin_side (runs.machine_of b) (kept_in b))
  stands_there = subst (λ (kept : Path → ℤ). StandsFor s (begin_side (runs.machine_of b) kept)) (kept_at_same (laid_of s).leaves b.chosen.laid.leaves b.kept own) stands

  module _ (Became : List Heard → Type 0) where
    heard_there : (heard : Project → Pou → List Heard) → Became (heard (diagrams s) (program s)) → Became (heard project b.chosen.program)
    heard_there heard h = subst (λ p. Became (heard project p)) w.is (subst (λ d. Became (heard d (program s))) of h)

    pub traced_all : (text : List ℕ) → Each HasPlainNames (laid_of s).leaves → IsWatchedTrace (told r.events) r.turns s Became text → HearsAll told project r text Became
    traced_all text plain t = record {
      traced = record {
        course = record { begun = b; events = t.events; tells = subst (λ (m : Machine DiagramState). TellsEvents (told r.events) m.layout t.events) machine_is t.tells };
        plain = plain_same (laid_of s).leaves b.chosen.laid.leaves own plain;
        text_is = subst (λ (m : Machine DiagramState). HasTrace m r.turns t.events (StandsFor s) text) machine_is t.trace (begin_side (runs.machine_of b) (kept_in b)) stands_there;
      };
      became = heard_there (λ d p. heard_over d p r.turns t.events (begin_side (runs.machine_of b) (kept_in b))) (t.heard (begin_side (runs.machine_of b) (kept_in b)) stands_there);
    }

    front_there : IsHeardFront (told r.events) r.turns s Became (begin_side (runs.machine_of b) (kept_in b)) → HearsFront told project r Became
    front_there f = record {
      course = record { begun = b; events = f.events; tells = subst (λ (m : Machine DiagramState). TellsEvents (told r.events) m.layout f.events) machine_is f.tells };
      front = f.front;
      is_front = subst (λ p. IsFront f.front (heard_over project p r.turns f.events (begin_side (runs.machine_of b) (kept_in b)))) w.is
          (subst (λ d. IsFront f.front (heard_over d (program s) r.turns f.events (begin_side (runs.machine_of b) (kept_in b)))) of f.is_front);
      became = f.became;
    }

    pub stopped_there : (e : RunError) → StopsWatched (told r.events) r.turns s Became e → Watches told project r Became (Err e)
    stopped_there NoMemory h = by (h (begin_side (runs.machine_of b) (kept_in b)) stands_there)
      where
        by : Became [] ⊎ IsHeardFront (told r.events) r.turns s Became (begin_side (runs.machine_of b) (kept_in b)) → Became [] ⊎ HearsFront told project r Became
        by (inl n) = inl n
        by (inr f) = inr (front_there f)
    stopped_there (NoProgram programs) h = h
    stopped_there RetainedRead h = h
    stopped_there (Line line) h = h
    stopped_there EventsRead h = h
    stopped_there (Row row) h = h

-- what holds of a result, from what holds where there is one and where there is none
pub match_result : {A E : Type 0} (res : Result A E) (P : Type 0) (Q R : A → Type 0) (S T : E → Type 0) → ((x : A) → P → Q x → R x) → ((e : E) → S e → T e) → OnOk res P → IfOk res Q → IfErr res S → MatchResult res R T
match_result (Ok x) P Q R S T f h p q s = f x p q
match_result (Err e) P Q R S T f h p q s = h e s
