-- Runs of a text: what is answered to what they come to.
use Rattle.std.specs.Prelude.{◌≡◌, ◌≢◌, ℕ, List, Option, Result, Ok, Err}
use Rattle.plcx_words.specs.Command.{Run}
use Rattle.plcx_text_run.specs.TextRuns as runs
use Rattle.plcx_text_run.specs.declared.running.TextRunError.{TextRunError}
use Rattle.plcx_text_run.specs.declared.running.TextRunError.TheVariants as error
use Rattle.plcx_command.specs.Answer.{Answer, output, refusal, read_line, text_line, memory_line}
use Rattle.plcx_command.specs.Simulated.{refused_as, error_line}
use Rattle.plcx_command.specs.declared.status.Refused.{Refused}
use Rattle.plcx_command.specs.declared.status.Refused.TheVariants.{ReadFault, NoMemory, TextBroken}

-- why a run is refused: its text, or what a run of diagrams is refused for too
abbrev pub text_refused : TextRunError → Refused
text_refused error.TextRead = ReadFault
text_refused (error.TextBroken b) = TextBroken
text_refused (error.NotRun e) = refused_as e
text_refused error.NoMemory = NoMemory

-- and the line of that
abbrev pub text_error_line : Run → TextRunError → List ℕ
text_error_line r error.TextRead = read_line r.file
text_error_line r (error.TextBroken b) = text_line b
text_error_line r (error.NotRun e) = error_line r e
text_error_line r error.NoMemory = memory_line

-- what is answered to what a run comes to
abbrev pub answer_to_text : Run → Result (List ℕ) TextRunError → Answer
answer_to_text r (Ok text) = output text
answer_to_text r (Err e) = refusal (text_refused e) (text_error_line r e)

-- The answer is to what the run comes to, where the desk tells these files and these names' counts rose. Memory is not wanted.
pub record AnswersText (told : List ℕ → Option (List ℕ)) (rose : List ℕ → Type 0) (r : Run) (a : Answer) : Type 0 where
  pub outcome : Result (List ℕ) TextRunError
  pub comes : runs.ComesTo told rose r outcome
  pub there : outcome ≢ Err error.NoMemory
  pub answer : a ≡ answer_to_text r outcome
