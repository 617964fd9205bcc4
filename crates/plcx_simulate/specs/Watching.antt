-- What a watch hears of a simulation.
use Rattle.std.specs.Prelude.{ℕ, List, [], Option, Result, Ok, Err, ◌⊎◌}
use Rattle.plcx_meaning.specs.Diagram.{Project}
use Rattle.plcx_meaning.specs.Evaluate.{Heard}
use Rattle.plcx_meaning.specs.Run.{begin_side}
use Rattle.plcx_meaning.specs.Watch.{heard_over}
use Rattle.plcx_words.specs.Command.{Run}
use Rattle.plcx_eval.specs.Watching.{IsFront}
use Rattle.plcx_traced.specs.Runs.{Course, IsTraced, machine_of, kept_in}
use Rattle.plcx_traced.specs.declared.error.RunError.{RunError}
use Rattle.plcx_traced.specs.declared.error.RunError.TheVariants.{NoProgram, RetainedRead, Line, EventsRead, Row, NoMemory}
use Rattle.plcx_simulate.specs.Programs.{programs_of}

-- all that is heard over the course of a run
abbrev pub heard_in : (project : Project) (r : Run) {told : List ℕ → Option (List ℕ)} → Course told (programs_of project) r → List Heard
heard_in project r c = heard_over project c.begun.chosen.program r.turns c.events (begin_side (machine_of c.begun) (kept_in c.begun))

-- a watch has become what it is by all that is heard over a run that leaves this text
pub record HearsAll (told : List ℕ → Option (List ℕ)) (project : Project) (r : Run) (text : List ℕ) (Became : List Heard → Type 0) : Type 0 where
  pub traced : IsTraced told (programs_of project) r text
  pub became : Became (heard_in project r traced.course)

-- or by a front of what is heard over a run
pub record HearsFront (told : List ℕ → Option (List ℕ)) (project : Project) (r : Run) (Became : List Heard → Type 0) : Type 0 where
  pub course : Course told (programs_of project) r
  pub front : List Heard
  pub is_front : IsFront front (heard_in project r course)
  pub became : Became front

-- What a watch hears: all of a run that leaves a trace; of one for which memory is wanted a front, or nothing; and nothing of one that is refused.
abbrev pub Watches : (List ℕ → Option (List ℕ)) → Project → Run → (List Heard → Type 0) → Result (List ℕ) RunError → Type 0
Watches told project r Became (Ok text) = HearsAll told project r text Became
Watches told project r Became (Err NoMemory) = Became [] ⊎ HearsFront told project r Became
Watches told project r Became (Err (NoProgram programs)) = Became []
Watches told project r Became (Err RetainedRead) = Became []
Watches told project r Became (Err (Line line)) = Became []
Watches told project r Became (Err EventsRead) = Became []
Watches told project r Became (Err (Row row)) = Became []
