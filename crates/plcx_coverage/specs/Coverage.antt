-- What a run of a program covers.
use Rattle.std.specs.Prelude.{◌≡◌, ℕ, List, Option, Result, Ok, Err}
use Rattle.plcx_meaning.specs.Diagram.{Project}
use Rattle.plcx_words.specs.Command.{Run}
use Rattle.plcx_traced.specs.Runs.{IsTraced, WhyNot}
use Rattle.plcx_traced.specs.declared.error.RunError.{RunError}
use Rattle.plcx_simulate.specs.Programs.{programs_of}
use Rattle.plcx_simulate.specs.Watching.{heard_in}
use Rattle.plcx_cover.specs.Counts.{rows_of, all_grown}
use Rattle.plcx_cover.specs.Texts.{cover_text}

-- The run leaves a trace, and this text: the counts of all wires of the project over all outputs that are heard in the run.
pub record IsCovered (told : List ℕ → Option (List ℕ)) (project : Project) (r : Run) (text : List ℕ) : Type 0 where
  pub trace : List ℕ
  pub traced : IsTraced told (programs_of project) r trace
  pub text_is : text ≡ cover_text project (all_grown (heard_in project r traced.course) (rows_of project))

-- what a run comes to whose wires are counted: that text, or why there is none
abbrev pub CoversTo : (List ℕ → Option (List ℕ)) → (List ℕ → Type 0) → Project → Run → Result (List ℕ) RunError → Type 0
CoversTo told rose project r (Ok text) = IsCovered told project r text
CoversTo told rose project r (Err e) = WhyNot told rose (programs_of project) r e
