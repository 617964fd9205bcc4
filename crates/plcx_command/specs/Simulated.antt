-- Runs of the diagrams of a file: what they come to, and what is answered to that.
use Rattle.std.specs.Prelude.{◌≡◌, ◌≢◌, ◌≤◌, ℕ, List, [], Option, Some, Result, Ok, Err, length, unwrap_or}
use Rattle.plcx_types.specs.Limits.{max_file_bytes}
use Rattle.plcx_meaning.specs.Diagram.{Project}
use Rattle.plcx_words.specs.Command.{Command, Run, simulate, cover}
use Rattle.plcx_traced.specs.Runs.{IsTraced, WhyNot}
use Rattle.plcx_traced.specs.declared.error.RunError.{RunError}
use Rattle.plcx_traced.specs.declared.error.RunError.TheVariants as error
use Rattle.plcx_simulate.specs.Programs.{programs_of}
use Rattle.plcx_coverage.specs.Coverage.{IsCovered}
use Rattle.plcx_command.specs.Answer.{Answer, output, refusal, program_line, read_line, retained_line, row_line, memory_line}
use Rattle.plcx_command.specs.Compiled.{HasDiagrams}
use Rattle.plcx_command.specs.declared.line.ProjectFile.TheVariants.{First}
use Rattle.plcx_command.specs.declared.status.Refused.{Refused}
use Rattle.plcx_command.specs.declared.status.Refused.TheVariants.{ReadFault, NoMemory, EventsBroken, NoProgram}

-- what is asked for of a run: its trace, or how often it evaluated each wire
pub data RunForm : Type 0 where
  Trace Coverage : RunForm

-- the command that asks for it
abbrev pub run_action : RunForm → Run → Command
run_action Trace r = simulate r
run_action Coverage r = cover r

-- the run of diagrams leaves this text
abbrev pub Leaves : (List ℕ → Option (List ℕ)) → RunForm → Project → Run → List ℕ → Type 0
Leaves told Trace project r text = IsTraced told (programs_of project) r text
Leaves told Coverage project r text = IsCovered told project r text

-- what it comes to: that text, or why there is none
abbrev pub RunComesTo : (List ℕ → Option (List ℕ)) → (List ℕ → Type 0) → RunForm → Project → Run → Result (List ℕ) RunError → Type 0
RunComesTo told rose form project r (Ok text) = Leaves told form project r text
RunComesTo told rose form project r (Err e) = WhyNot told rose (programs_of project) r e

-- why a run is refused
abbrev pub refused_as : RunError → Refused
refused_as (error.NoProgram programs) = NoProgram
refused_as error.RetainedRead = ReadFault
refused_as (error.Line n) = EventsBroken
refused_as error.EventsRead = ReadFault
refused_as (error.Row n) = EventsBroken
refused_as error.NoMemory = NoMemory

-- and the line of that
abbrev pub error_line : Run → RunError → List ℕ
error_line r (error.NoProgram programs) = program_line First r.program programs
error_line r error.RetainedRead = read_line (unwrap_or r.retain [])
error_line r (error.Line n) = retained_line n
error_line r error.EventsRead = read_line r.events
error_line r (error.Row n) = row_line n
error_line r error.NoMemory = memory_line

-- what is answered to what a run comes to
abbrev pub answer_to : Run → Result (List ℕ) RunError → Answer
answer_to r (Ok text) = output text
answer_to r (Err e) = refusal (refused_as e) (error_line r e)

-- A run of the diagrams of bytes that break no rule comes to this, where the desk tells these files and these names' counts rose. Memory is not wanted.
pub record IsSimulated (told : List ℕ → Option (List ℕ)) (rose : List ℕ → Type 0) (form : RunForm) (r : Run) (bytes : List ℕ) (outcome : Result (List ℕ) RunError) : Type 0 where
  pub diagrams : Project
  pub has : HasDiagrams bytes diagrams
  pub comes : RunComesTo told rose form diagrams r outcome
  pub there : outcome ≢ Err error.NoMemory

-- the answer is to what a run of the bytes' diagrams comes to
pub record AnswersRun (told : List ℕ → Option (List ℕ)) (rose : List ℕ → Type 0) (form : RunForm) (r : Run) (bytes : List ℕ) (a : Answer) : Type 0 where
  pub outcome : Result (List ℕ) RunError
  pub simulated : IsSimulated told rose form r bytes outcome
  pub answer : a ≡ answer_to r outcome

-- A simulation comes to this: the desk tells its file, which is accepted, and a run of the diagrams comes to it.
pub record Simulates (told : List ℕ → Option (List ℕ)) (rose : List ℕ → Type 0) (form : RunForm) (r : Run) (outcome : Result (List ℕ) RunError) : Type 0 where
  pub bytes : List ℕ
  pub tells : told r.file ≡ Some bytes
  pub short : length bytes ≤ max_file_bytes
  pub simulated : IsSimulated told rose form r bytes outcome
