-- Serves proofs: what a side leaves to whose scans a watch listens.
use Rattle.std.specs.Prelude.{ℕ, List, [], Option, ◌⊎◌}
use Rattle.plcx_meaning.specs.Evaluate.{Heard, DiagramState}
use Rattle.plcx_meaning.specs.Run.{Event, Side}
use Rattle.plcx_meaning.specs.Watch.{heard_over}
use Rattle.plcx_scan.specs.Texts.{HasTrace}
use Rattle.plcx_eval.specs.declared.side.DiagramSide.{DiagramSide}
use Rattle.plcx_eval.specs.Sides.{diagrams, program, machine_of, StandsFor}
use Rattle.plcx_eval.specs.Watching.{IsFront}
use Rattle.plcx_traced.specs.Files.{TellsEvents}
use Rattle.plcx_traced.specs.declared.error.RunError.{RunError}
use Rattle.plcx_traced.specs.declared.error.RunError.TheVariants.{NoProgram, RetainedRead, Line, EventsRead, Row, NoMemory}

-- the text is the trace over the events of a file, and all that is heard over them was heard
pub record IsWatchedTrace (told : Option (List ℕ)) (turns : ℕ) (s : DiagramSide) (Became : List Heard → Type 0) (text : List ℕ) : Type 0 where
  pub events : List Event
  pub tells : TellsEvents told (machine_of s).layout events
  pub trace : HasTrace (machine_of s) turns events (StandsFor s) text
  pub heard : (g : Side DiagramState) → StandsFor s g → Became (heard_over (diagrams s) (program s) turns events g)

-- a front of what is heard over the events of a file was heard
pub record IsHeardFront (told : Option (List ℕ)) (turns : ℕ) (s : DiagramSide) (Became : List Heard → Type 0) (g : Side DiagramState) : Type 0 where
  pub events : List Event
  pub tells : TellsEvents told (machine_of s).layout events
  pub front : List Heard
  pub is_front : IsFront front (heard_over (diagrams s) (program s) turns events g)
  pub became : Became front

-- where there is no trace, nothing was heard; but where memory is wanted a front
abbrev pub StopsWatched : Option (List ℕ) → (turns : ℕ) → DiagramSide → (List Heard → Type 0) → RunError → Type 0
StopsWatched told turns s Became NoMemory = (g : Side DiagramState) → StandsFor s g → Became [] ⊎ IsHeardFront told turns s Became g
StopsWatched told turns s Became (NoProgram programs) = Became []
StopsWatched told turns s Became RetainedRead = Became []
StopsWatched told turns s Became (Line line) = Became []
StopsWatched told turns s Became EventsRead = Became []
StopsWatched told turns s Became (Row row) = Became []
