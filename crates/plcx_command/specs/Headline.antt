-- What a status says, one clause each.
use Rattle.std.specs.Prelude.{◌≡◌, ◌↔◌, ◌⊎◌, ℕ, List, [], Option, Some, None, Ok, Err, ⊤}
use Rattle.std.specs.Option.{option_and_then}
use Rattle.plcx_io.specs.Counts.{Rose}
use Rattle.plcx_meaning.specs.Evaluate.{Heard}
use Rattle.plcx_traced.specs.declared.error.RunError.TheVariants as error
use Rattle.plcx_text_run.specs.TextRuns as texts
use Rattle.plcx_text_run.specs.declared.running.TextRunError.TheVariants as text_error
use Rattle.plcx_command.specs.Answer.{ok_line, read_line, broken_line, usage_line, memory_line, write_line, Answer, refusal, output}
use Rattle.plcx_words.specs.Command.{Command, Run, TaskRun, Migration, check, compile, simulate, run, bench, cycle, migrate, report, cover}
use Rattle.plcx_model.specs.declared.broken.Broken as model
use Rattle.plcx_migrate.specs.declared.migrating.Form.{Form}
use Rattle.plcx_migrate.specs.declared.migrating.Form.TheVariants.{Lines, Report}
use Rattle.plcx_command.specs.Causes.{Cause, of_run, of_text, of_cycle, of_migration, Stops, Comes, cause_refused, cause_line}
use Rattle.plcx_cycle.specs.declared.error.CycleError.TheVariants as cycle_error
use Rattle.plcx_bench.specs.Summary.{IsSummary}
use Rattle.plcx_bench.specs.Watching.{HearsAll, HearsSome}
use Rattle.plcx_command.specs.Compiled.{IsCompiled}
use Rattle.plcx_command.specs.Cycled.{Cycles}
use Rattle.plcx_command.specs.Hears.{Hears, IsHeard, IsHeardInPart}
use Rattle.plcx_command.specs.Says.{file_of}
use Rattle.plcx_command.specs.Migrated.{Migrates, action_of, OldProgram, NewRead, NewBroken, NewProgram, RetainedRead, Line}
use Rattle.plcx_command.specs.Simulated.{RunForm, Trace, Coverage, run_action, Simulates}
use Rattle.plcx_command.specs.Verdict.{FileVerdict}
use Rattle.plcx_command.specs.Verdict as verdict
use Rattle.plcx_command.specs.Ends.{Change, Gets, GetsFront, Unchanged, MaySay}
use Rattle.plcx_command.specs.Refused.{status_of}
use Rattle.plcx_command.specs.declared.line.ProjectFile.{ProjectFile}
use Rattle.plcx_command.specs.declared.line.ProjectFile.TheVariants.{First, New}
use Rattle.plcx_command.specs.declared.status.Refused.{Refused}
use Rattle.plcx_command.specs.declared.status.Status.{Status}
use Rattle.plcx_command.specs.declared.status.Status.TheVariants.{Done, Broken, Usage, ReadFault, WriteFault, NoMemory, TextBroken, EventsBroken, NoProgram, TasksBroken}

-- a status that neither memory nor the outside made
abbrev pub IsDefined : Status → Type 0
IsDefined Done = ⊤
IsDefined Broken = ⊤
IsDefined Usage = ⊤
IsDefined TextBroken = ⊤
IsDefined EventsBroken = ⊤
IsDefined NoProgram = ⊤
IsDefined TasksBroken = ⊤
IsDefined ReadFault = ⊥
IsDefined WriteFault = ⊥
IsDefined NoMemory = ⊥

-- the project file that a command reads first
abbrev pub project_file : Option Command → Option (List ℕ)
project_file command = option_and_then file_of command

-- a source that a command reads: the project file that is read first, the new one of a migration, or the text of a run
abbrev pub IsSource : Option Command → List ℕ → Type 0
IsSource command name =
    (project_file command ≡ Some name)
    ⊎ (((form : Form) × (m : Migration) × (command ≡ Some (action_of form m)) × (m.new ≡ name)) ⊎ ((r : Run) × (command ≡ Some (run r)) × (r.file ≡ name)))

-- the files that a command reads
abbrev pub Reads : Option Command → List ℕ → Type 0
Reads None file = ⊥
Reads (Some (check name)) file = file ≡ name
Reads (Some (compile name)) file = file ≡ name
Reads (Some (simulate r)) file = (file ≡ r.file) ⊎ ((r.retain ≡ Some file) ⊎ (file ≡ r.events))
Reads (Some (run r)) file = (file ≡ r.file) ⊎ ((r.retain ≡ Some file) ⊎ (file ≡ r.events))
Reads (Some (bench n)) file = ⊥
Reads (Some (cycle t)) file = (file ≡ t.file) ⊎ (file ≡ t.ticks)
Reads (Some (migrate m)) file = (file ≡ m.old) ⊎ ((file ≡ m.new) ⊎ (file ≡ m.retain))
Reads (Some (report m)) file = (file ≡ m.old) ⊎ ((file ≡ m.new) ⊎ (file ≡ m.retain))
Reads (Some (cover r)) file = (file ≡ r.file) ⊎ ((r.retain ≡ Some file) ⊎ (file ≡ r.events))

-- the desk tells a file
abbrev pub IsTold : (List ℕ → Option (List ℕ)) → List ℕ → Type 0
IsTold told name = (bytes : List ℕ) × (told name ≡ Some bytes)

-- it tells the sources that the command reads
abbrev pub TellsSources : (List ℕ → Option (List ℕ)) → Option Command → Type 0
TellsSources told command = (name : List ℕ) → IsSource command name → IsTold told name

-- it tells all files that the command reads
abbrev pub TellsAll : (List ℕ → Option (List ℕ)) → Option Command → Type 0
TellsAll told command = (name : List ℕ) → Reads command name → IsTold told name

-- where nothing fails
abbrev pub Never : List ℕ → Type 0
Never name = ⊥

-- The text of a file comes exactly where the file is accepted; then it is exactly what the output got, and it does what the diagrams do.
abbrev pub CompilesExactly : (List ℕ → Option (List ℕ)) → Option Command → Status → Change → Change → Type 0
CompilesExactly told command status out err = (name bytes : List ℕ) → command ≡ Some (compile name) → told name ≡ Some bytes → IsDefined status
    → ((status ≡ Done) ↔ FileVerdict bytes verdict.Accepted) × (status ≡ Done → (text : List ℕ) × IsCompiled bytes text × Gets out text × Unchanged err)

-- `ok` comes exactly where the file is accepted.
abbrev pub ChecksExactly : (List ℕ → Option (List ℕ)) → Option Command → Status → Change → Change → Type 0
ChecksExactly told command status out err = (name bytes : List ℕ) → command ≡ Some (check name) → told name ≡ Some bytes → IsDefined status
    → ((status ≡ Done) ↔ FileVerdict bytes verdict.Accepted) × (status ≡ Done → Gets out ok_line × Unchanged err)

-- What is asked for of a run comes exactly where the file is accepted, has the program, and the retained file and the events are right; then it is exactly
-- what the output got, and it is that of these diagrams over these events from that retained state.
abbrev pub LeavesExactly : RunForm → (List ℕ → Option (List ℕ)) → Option Command → Status → Change → Change → Type 0
LeavesExactly form told command status out err = (r : Run) → command ≡ Some (run_action form r) → TellsAll told command → IsDefined status
    → ((status ≡ Done) ↔ ((text : List ℕ) × Simulates told Never form r (Ok text))) × (status ≡ Done → (text : List ℕ) × Simulates told Never form r (Ok text) × Gets out text × Unchanged err)

-- a trace comes so
abbrev pub SimulatesExactly : (List ℕ → Option (List ℕ)) → Option Command → Status → Change → Change → Type 0
SimulatesExactly = LeavesExactly Trace

-- and so come the counts of what a run evaluated
abbrev pub CoversExactly : (List ℕ → Option (List ℕ)) → Option Command → Status → Change → Change → Type 0
CoversExactly = LeavesExactly Coverage

-- The trace of a text comes exactly where the text is ready and has the program, and the retained file and the events are right; then it is exactly what the
-- output got, and it is that of this text over these events from that retained state.
abbrev pub RunsExactly : (List ℕ → Option (List ℕ)) → Option Command → Status → Change → Change → Type 0
RunsExactly told command status out err = (r : Run) → command ≡ Some (run r) → TellsAll told command → IsDefined status
    → ((status ≡ Done) ↔ ((text : List ℕ) × texts.ComesTo told Never r (Ok text))) × (status ≡ Done → (text : List ℕ) × texts.ComesTo told Never r (Ok text) × Gets out text × Unchanged err)

-- The text of what the instances of a resource do comes exactly where the file is accepted, its tasks and the ticks are right; then it is exactly what the
-- output got, and each instance's rows are those of its diagram over its own list of events.
abbrev pub CyclesExactly : (List ℕ → Option (List ℕ)) → Option Command → Status → Change → Change → Type 0
CyclesExactly told command status out err = (t : TaskRun) → command ≡ Some (cycle t) → TellsAll told command → IsDefined status
    → ((status ≡ Done) ↔ ((text : List ℕ) × Cycles told Never t (Ok text))) × (status ≡ Done → (text : List ℕ) × Cycles told Never t (Ok text) × Gets out text × Unchanged err)

-- The lines or the report of a migration come exactly where both project files are accepted, both have the program, and the retained file is right for the
-- old one; then they are exactly what the output got, and they are those of what becomes of each value.
abbrev pub MigratesExactly : (List ℕ → Option (List ℕ)) → Option Command → Status → Change → Change → Type 0
MigratesExactly told command status out err = (form : Form) (m : Migration) → command ≡ Some (action_of form m) → TellsAll told command → IsDefined status
    → ((status ≡ Done) ↔ ((text : List ℕ) × Migrates told Never form m (Ok text))) × (status ≡ Done → (text : List ℕ) × Migrates told Never form m (Ok text) × Gets out text × Unchanged err)

-- A bench ends with the summary of its networks, unless memory is wanted or a write fails; the summary is then exactly what the output got, and it is that of the
-- diagrams of its project and of their text.
abbrev pub BenchesExactly : Option Command → Status → Change → Change → Type 0
BenchesExactly command status out err = (n : ℕ) → command ≡ Some (bench n) → ((status ≡ Done) ⊎ ((status ≡ NoMemory) ⊎ (status ≡ WriteFault)))
    × (status ≡ Done → (text : List ℕ) × IsSummary n text × Gets out text × Unchanged err)

-- the words are no command
abbrev pub RefusesUsage : Option Command → Status → Change → Change → Type 0
RefusesUsage command status out err = (IsDefined status → ((status ≡ Usage) ↔ (command ≡ None))) × (status ≡ Usage → Gets err usage_line × Unchanged out)

-- the desk tells the project file that the command reads, and this is the verdict on it
pub record IsJudged (told : List ℕ → Option (List ℕ)) (command : Option Command) (v : verdict.Verdict) : Type 0 where
  pub name : List ℕ
  pub bytes : List ℕ
  pub reads : project_file command ≡ Some name
  pub tells : told name ≡ Some bytes
  pub judged : FileVerdict bytes v

-- A rule that a project file breaks first: the file that is read first; or the new one of a migration, where the old one is accepted and has the program.
abbrev pub IsBroken : (List ℕ → Option (List ℕ)) → Option Command → ProjectFile → model.Broken → Type 0
IsBroken told command First b = IsJudged told command (verdict.Broken b)
IsBroken told command New b = (form : Form) × (m : Migration) × (command ≡ Some (action_of form m)) × Migrates told Never form m (Err (NewBroken b))

-- A broken rule is told exactly where the verdict on a project file gives it, with its place, and whether that is the new file.
abbrev pub RefusesBroken : (List ℕ → Option (List ℕ)) → Option Command → Status → Change → Change → Type 0
RefusesBroken told command status out err =
    (TellsSources told command → IsDefined status → ((status ≡ Broken) ↔ ((file : ProjectFile) × (b : model.Broken) × IsBroken told command file b)))
    × (status ≡ Broken → (file : ProjectFile) × (b : model.Broken) × (TellsSources told command → IsBroken told command file b) × Gets err (broken_line file b) × Unchanged out)

-- A refusal of a run or of a migration comes exactly where that comes to a cause of this kind, so far as the desk tells what is read up to there; its line is
-- that of the cause.
abbrev pub RefusesFor : Refused → Type 0 → (List ℕ → Option (List ℕ)) → Option Command → Status → Change → Change → Type 0
RefusesFor why Tells told command status out err =
    (Tells → IsDefined status → ((status ≡ status_of why) ↔ ((c : Cause) × (cause_refused c ≡ why) × Stops command c × Comes told Never c)))
    × (status ≡ status_of why → (c : Cause) × (cause_refused c ≡ why) × Stops command c × (Tells → Comes told Never c) × Gets err (cause_line c) × Unchanged out)

-- the file that can't be read
abbrev pub unread_file : Cause → Option (List ℕ)
unread_file (of_run form r error.RetainedRead) = r.retain
unread_file (of_run form r error.EventsRead) = Some r.events
unread_file (of_run form r (error.NoProgram programs)) = None
unread_file (of_run form r (error.Line n)) = None
unread_file (of_run form r (error.Row n)) = None
unread_file (of_run form r error.NoMemory) = None
unread_file (of_text r text_error.TextRead) = Some r.file
unread_file (of_text r (text_error.NotRun error.RetainedRead)) = r.retain
unread_file (of_text r (text_error.NotRun error.EventsRead)) = Some r.events
unread_file (of_text r (text_error.NotRun (error.NoProgram programs))) = None
unread_file (of_text r (text_error.NotRun (error.Line n))) = None
unread_file (of_text r (text_error.NotRun (error.Row n))) = None
unread_file (of_text r (text_error.NotRun error.NoMemory)) = None
unread_file (of_text r (text_error.TextBroken b)) = None
unread_file (of_text r text_error.NoMemory) = None
unread_file (of_cycle t cycle_error.TicksRead) = Some t.ticks
unread_file (of_cycle t (cycle_error.Tasks kind at)) = None
unread_file (of_cycle t (cycle_error.Row n)) = None
unread_file (of_cycle t cycle_error.NoMemory) = None
unread_file (of_migration form m NewRead) = Some m.new
unread_file (of_migration form m RetainedRead) = Some m.retain
unread_file (of_migration form m (OldProgram programs)) = None
unread_file (of_migration form m (NewBroken b)) = None
unread_file (of_migration form m (NewProgram programs)) = None
unread_file (of_migration form m (Line n)) = None

-- A file is to be read: it is the project file that is read first; or a run or a migration has come to the read of it, so that no refusal stands before. A run
-- of a text comes to its text first.
pub data IsReached (told : List ℕ → Option (List ℕ)) (rose : List ℕ → Type 0) (command : Option Command) (name : List ℕ) : Type 0 where
  first : project_file command ≡ Some name → IsReached told rose command name
  later : (c : Cause) → Stops command c → unread_file c ≡ Some name → (TellsSources told command → Comes told rose c) → IsReached told rose command name

-- A fault of a read is that of a file which the command comes to: its count rose, and its name is told.
abbrev pub BlamesReads : (List ℕ → Option (List ℕ)) → (List ℕ → Type 0) → Option Command → Status → Change → Change → Type 0
BlamesReads told rose command status out err = status ≡ ReadFault → (name : List ℕ) × IsReached told rose command name × rose name × Gets err (read_line name) × Unchanged out

abbrev pub IsRefusal : Answer → List ℕ → Type 0
IsRefusal (output bytes) line = ⊥
IsRefusal (refusal why text) line = text ≡ line

-- A fault of a write is one of the output behind which no refusal stands, or one of the line of a refusal that stands; a watch heard what is heard of either.
abbrev pub BlamesWrites : (List ℕ → Option (List ℕ)) → (List ℕ → Type 0) → (List Heard → Type 0) → Option Command → Status → Change → Change → Type 0
BlamesWrites told rose Became command status out err = status ≡ WriteFault → (a : Answer) × MaySay told rose command a × Hears told Became command a × (
    ((bytes : List ℕ) × (a ≡ output bytes) × GetsFront out bytes × (Gets err write_line ⊎ GetsFront err write_line))
    ⊎ ((line : List ℕ) × IsRefusal a line × GetsFront err line × Unchanged out))

abbrev pub TellsMemory : Status → Change → Change → Type 0
TellsMemory status out err = status ≡ NoMemory → Gets err memory_line × Unchanged out

-- the status of a refusal for another cause than memory
abbrev pub IsRefusing : Status → Type 0
IsRefusing Done = ⊥
IsRefusing WriteFault = ⊥
IsRefusing NoMemory = ⊥
IsRefusing Broken = ⊤
IsRefusing Usage = ⊤
IsRefusing ReadFault = ⊤
IsRefusing TextBroken = ⊤
IsRefusing EventsBroken = ⊤
IsRefusing NoProgram = ⊤
IsRefusing TasksBroken = ⊤

-- A watch hears exactly what is heard over the run of a simulation or a bench that is done. It hears nothing of another action, and of what is refused; where
-- memory is wanted it may have heard a front of what is heard over the run.
pub record WatchesExactly (told : List ℕ → Option (List ℕ)) (Became : List Heard → Type 0) (command : Option Command) (status : Status) : Type 0 where
  pub done : (r : Run) → command ≡ Some (simulate r) → status ≡ Done → (text : List ℕ) × IsHeard told r text Became
  pub bench_done : (n : ℕ) → command ≡ Some (bench n) → status ≡ Done → HearsAll n Became
  pub other : ((r : Run) → command ≡ Some (simulate r) → ⊥) → ((n : ℕ) → command ≡ Some (bench n) → ⊥) → Became []
  pub refused : IsRefusing status → Became []
  pub wanted : (r : Run) → command ≡ Some (simulate r) → status ≡ NoMemory → Became [] ⊎ IsHeardInPart told r Became
  pub bench_wanted : (n : ℕ) → command ≡ Some (bench n) → status ≡ NoMemory → HearsSome n Became

-- what is asked for can be done, as a bench always: the file is accepted, a simulation or a run of a text comes to a trace, a run of tasks to its text, a run whose wires are
-- counted to the counts, and a migration to what is written of it
abbrev pub IsFine : (List ℕ → Option (List ℕ)) → Option Command → Type 0
IsFine told None = ⊥
IsFine told (Some (check name)) = (bytes : List ℕ) × (told name ≡ Some bytes) × FileVerdict bytes verdict.Accepted
IsFine told (Some (compile name)) = (bytes : List ℕ) × (told name ≡ Some bytes) × FileVerdict bytes verdict.Accepted
IsFine told (Some (simulate r)) = (text : List ℕ) × Simulates told Never Trace r (Ok text)
IsFine told (Some (run r)) = (text : List ℕ) × texts.ComesTo told Never r (Ok text)
IsFine told (Some (bench n)) = ⊤
IsFine told (Some (cycle t)) = (text : List ℕ) × Cycles told Never t (Ok text)
IsFine told (Some (migrate m)) = (text : List ℕ) × Migrates told Never Lines m (Ok text)
IsFine told (Some (report m)) = (text : List ℕ) × Migrates told Never Report m (Ok text)
IsFine told (Some (cover r)) = (text : List ℕ) × Simulates told Never Coverage r (Ok text)

-- Where that is so, the desk tells all files that are read, and no count of these and of no sink rose, the output comes, unless memory is refused.
abbrev pub IsComplete : (List ℕ → Option (List ℕ)) → (List ℕ → Type 0) → Option Command → Status → Change → Change → Type 0
IsComplete told rose command status out err = IsFine told command → TellsAll told command
    → ((name : List ℕ) → Reads command name → rose name → ⊥) → (Rose out.had out.has → ⊥) → (Rose err.had err.has → ⊥) → (status ≡ Done) ⊎ (status ≡ NoMemory)
