-- Runs of the tasks of a file's resource: what they come to, and what is answered to that.
use Rattle.std.specs.Prelude.{◌≡◌, ◌≢◌, ◌≤◌, ℕ, List, Option, Some, Result, Ok, Err, length}
use Rattle.plcx_types.specs.Limits.{max_file_bytes}
use Rattle.plcx_xml.specs.declared.tree.Node.TheOpen.{Node-F}
use Rattle.plcx_meaning.specs.Diagram.{Project}
use Rattle.plcx_words.specs.Command.{TaskRun}
use Rattle.plcx_cycle.specs.Cycles as cycles
use Rattle.plcx_cycle.specs.declared.error.CycleError.{CycleError}
use Rattle.plcx_cycle.specs.declared.error.CycleError.TheVariants as error
use Rattle.plcx_command.specs.Answer.{Answer, output, refusal, tasks_line, read_line, row_line, memory_line}
use Rattle.plcx_command.specs.Compiled.{HasDiagrams}
use Rattle.plcx_command.specs.declared.status.Refused.{Refused}
use Rattle.plcx_command.specs.declared.status.Refused.TheVariants.{ReadFault, NoMemory, EventsBroken, TasksBroken}

-- why a run is refused
abbrev pub cycle_refused : CycleError → Refused
cycle_refused (error.Tasks kind at) = TasksBroken
cycle_refused error.TicksRead = ReadFault
cycle_refused (error.Row n) = EventsBroken
cycle_refused error.NoMemory = NoMemory

-- and the line of that
abbrev pub cycle_line : TaskRun → CycleError → List ℕ
cycle_line t (error.Tasks kind at) = tasks_line kind at
cycle_line t error.TicksRead = read_line t.ticks
cycle_line t (error.Row n) = row_line n
cycle_line t error.NoMemory = memory_line

-- what is answered to what a run comes to
abbrev pub answer_to_cycle : TaskRun → Result (List ℕ) CycleError → Answer
answer_to_cycle t (Ok text) = output text
answer_to_cycle t (Err e) = refusal (cycle_refused e) (cycle_line t e)

-- A run of the tasks of bytes that break no rule comes to this: of the tree, the project and the diagrams that they have, where the desk tells these files and
-- these names' counts rose. Memory is not wanted.
pub record IsCycled (told : List ℕ → Option (List ℕ)) (rose : List ℕ → Type 0) (t : TaskRun) (bytes : List ℕ) (outcome : Result (List ℕ) CycleError) : Type 0 where
  pub diagrams : Project
  pub has : HasDiagrams bytes diagrams
  pub comes : cycles.ComesTo told (rose t.ticks) (Node-F.Element has.keeps.root) has.project diagrams t outcome
  pub there : outcome ≢ Err error.NoMemory

-- the answer is to what a run of the bytes' tasks comes to
pub record AnswersCycle (told : List ℕ → Option (List ℕ)) (rose : List ℕ → Type 0) (t : TaskRun) (bytes : List ℕ) (a : Answer) : Type 0 where
  pub outcome : Result (List ℕ) CycleError
  pub cycled : IsCycled told rose t bytes outcome
  pub answer : a ≡ answer_to_cycle t outcome

-- A run of tasks comes to this: the desk tells its file, which is accepted, and a run of the file's tasks comes to it.
pub record Cycles (told : List ℕ → Option (List ℕ)) (rose : List ℕ → Type 0) (t : TaskRun) (outcome : Result (List ℕ) CycleError) : Type 0 where
  pub bytes : List ℕ
  pub tells : told t.file ≡ Some bytes
  pub short : length bytes ≤ max_file_bytes
  pub cycled : IsCycled told rose t bytes outcome
