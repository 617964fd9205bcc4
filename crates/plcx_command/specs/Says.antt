-- What each command answers, by what the desk tells of its files.
use Rattle.std.specs.Prelude.{◌≡◌, ◌≤◌, ◌<◌, ℕ, List, Option, Some, None, length, IfSome}
use Rattle.plcx_io.specs.Told.{Tells}
use Rattle.plcx_words.specs.Command.{Command, Migration, check, compile, simulate, run, bench, cycle, migrate, report, cover}
use Rattle.plcx_types.specs.Limits.{max_file_bytes}
use Rattle.plcx_command.specs.Answer.{Answer, output, ok_answer, usage_answer, read_answer, broken_answer}
use Rattle.plcx_command.specs.Benched.{AnswersBench}
use Rattle.plcx_command.specs.Compiled.{IsCompiled}
use Rattle.plcx_command.specs.Cycled.{AnswersCycle}
use Rattle.plcx_command.specs.Migrated.{AnswersMigration}
use Rattle.plcx_command.specs.Simulated.{AnswersRun, Trace, Coverage}
use Rattle.plcx_command.specs.TextRun.{AnswersText}
use Rattle.plcx_command.specs.Verdict.{Verdict, IsVerdict, Accepted, Broken, at_byte}
use Rattle.plcx_command.specs.declared.line.ProjectFile.{ProjectFile}
use Rattle.plcx_command.specs.declared.line.ProjectFile.TheVariants.{First}
use Rattle.plcx_migrate.specs.declared.migrating.Form.{Form}
use Rattle.plcx_migrate.specs.declared.migrating.Form.TheVariants.{Lines, Report}

-- What the read of a file comes to: a fault of its name, a file that is too long, or its bytes and what follows on them.
pub data AfterRead (told : Option (List ℕ)) (rose : Type 0) (name : List ℕ) (long : Answer) (next : List ℕ → Answer → Type 0) (a : Answer) : Type 0 where
  fault : rose → a ≡ read_answer name → AfterRead told rose name long next a
  too_long : IfSome told (λ bytes. max_file_bytes < length bytes) → a ≡ long → AfterRead told rose name long next a
  whole : (bytes : List ℕ) → length bytes ≤ max_file_bytes → Tells told bytes → next bytes a → AfterRead told rose name long next a

-- what is answered to a verdict: what follows on a file that is accepted, or its refusal
abbrev pub Answers : ProjectFile → (Answer → Type 0) → Verdict → Answer → Type 0
Answers file next Accepted a = next a
Answers file next (Broken b) a = a ≡ broken_answer file b

-- What the verdict on bytes comes to.
pub record Judged (file : ProjectFile) (bytes : List ℕ) (next : Answer → Type 0) (a : Answer) : Type 0 where
  pub verdict : Verdict
  pub judged : IsVerdict bytes verdict
  pub answers : Answers file next verdict a

-- the answer is a text of the file
pub record IsText (bytes : List ℕ) (a : Answer) : Type 0 where
  pub text : List ℕ
  pub compiled : IsCompiled bytes text
  pub answer : a ≡ output text

-- the answer to a file that is longer than a file may be
abbrev pub long_answer : ProjectFile → Answer
long_answer file = broken_answer file (at_byte 7 max_file_bytes)

-- the project file of a command, which is read first and judged; none of a run of a text and of a bench, which read none
abbrev pub file_of : Command → Option (List ℕ)
file_of (check name) = Some name
file_of (compile name) = Some name
file_of (simulate r) = Some r.file
file_of (run r) = None
file_of (bench n) = None
file_of (cycle t) = Some t.file
file_of (migrate m) = Some m.old
file_of (report m) = Some m.old
file_of (cover r) = Some r.file

-- what an action answers to bytes that break no rule
abbrev pub Follows : (List ℕ → Option (List ℕ)) → (List ℕ → Type 0) → Command → List ℕ → Answer → Type 0
Follows told rose (check name) bytes a = a ≡ ok_answer
Follows told rose (compile name) bytes a = IsText bytes a
Follows told rose (simulate r) bytes a = AnswersRun told rose Trace r bytes a
Follows told rose (run r) bytes a = ⊥
Follows told rose (bench n) bytes a = ⊥
Follows told rose (cycle t) bytes a = AnswersCycle told rose t bytes a
Follows told rose (migrate m) bytes a = AnswersMigration told rose Lines m bytes a
Follows told rose (report m) bytes a = AnswersMigration told rose Report m bytes a
Follows told rose (cover r) bytes a = AnswersRun told rose Coverage r bytes a

-- what is answered over the project file that is read first
abbrev pub SaysOver : (List ℕ → Option (List ℕ)) → (List ℕ → Type 0) → (name : List ℕ) → Command → Answer → Type 0
SaysOver told rose name command a = AfterRead (told name) (rose name) name (long_answer First) (λ bytes. Judged First bytes (Follows told rose command bytes)) a

-- what a migration answers: the old file is read first
abbrev pub SaysMigration : (List ℕ → Option (List ℕ)) → (List ℕ → Type 0) → Form → Migration → Answer → Type 0
SaysMigration told rose form m a = AfterRead (told m.old) (rose m.old) m.old (long_answer First) (λ bytes. Judged First bytes (AnswersMigration told rose form m bytes)) a

-- What a command answers, where the desk tells these files and these names' counts rose. A run of a text reads no project file, and a bench none at all.
abbrev pub SaysTo : (List ℕ → Option (List ℕ)) → (List ℕ → Type 0) → Command → Answer → Type 0
SaysTo told rose (check name) a = SaysOver told rose name (check name) a
SaysTo told rose (compile name) a = SaysOver told rose name (compile name) a
SaysTo told rose (simulate r) a = SaysOver told rose r.file (simulate r) a
SaysTo told rose (run r) a = AnswersText told rose r a
SaysTo told rose (bench n) a = AnswersBench n a
SaysTo told rose (cycle t) a = SaysOver told rose t.file (cycle t) a
SaysTo told rose (migrate m) a = SaysOver told rose m.old (migrate m) a
SaysTo told rose (report m) a = SaysOver told rose m.old (report m) a
SaysTo told rose (cover r) a = SaysOver told rose r.file (cover r) a

-- words that ask for nothing are a faulty command line
abbrev pub Says : (List ℕ → Option (List ℕ)) → (List ℕ → Type 0) → Option Command → Answer → Type 0
Says told rose None a = a ≡ usage_answer
Says told rose (Some command) a = SaysTo told rose command a
