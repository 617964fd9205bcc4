-- Migrations of a project: what they come to, over the old file, the new file and the retained file, and what is answered to that.
use Rattle.std.specs.Prelude.{◌≡◌, ◌≤◌, ℕ, List, Option, Some, Result, Ok, Err, length}
use Rattle.plcx_types.specs.Limits.{max_file_bytes}
use Rattle.plcx_meaning.specs.Diagram.{Project}
use Rattle.plcx_model.specs.declared.broken.Broken as model
use Rattle.plcx_state.specs.Layouts.{Laid}
use Rattle.plcx_words.specs.Command.{Command, Migration, migrate, report}
use Rattle.plcx_traced.specs.Files.{IsLoaded, IsLong, IsWrongLine}
use Rattle.plcx_migrate.specs.Migrations.{IsMigrated}
use Rattle.plcx_migrate.specs.Versions.{IsVersion, LacksProgram}
use Rattle.plcx_migrate.specs.declared.migrating.Form.{Form}
use Rattle.plcx_migrate.specs.declared.migrating.Form.TheVariants.{Lines, Report}
use Rattle.plcx_command.specs.Answer.{Answer, output, refusal, broken_line, program_line, read_line, retained_line}
use Rattle.plcx_command.specs.Compiled.{HasDiagrams}
use Rattle.plcx_command.specs.Verdict.{Breaks, at_byte}
use Rattle.plcx_command.specs.declared.line.ProjectFile.TheVariants.{First, New}
use Rattle.plcx_command.specs.declared.status.Refused as status
use Rattle.plcx_command.specs.declared.status.Refused.TheVariants as refused

-- the action that writes a migration in this form
abbrev pub action_of : Form → Migration → Command
action_of Lines m = migrate m
action_of Report m = report m

-- why a migration gives nothing, for another cause than memory
pub data NotMigrated : Type 0 where
  -- the old file has not the program that is named, or none is named and it has so many
  OldProgram : (programs : ℕ) → NotMigrated
  -- the new file can't be read
  NewRead : NotMigrated
  -- it breaks a rule
  NewBroken : model.Broken → NotMigrated
  -- it has not the program
  NewProgram : (programs : ℕ) → NotMigrated
  -- the retained file can't be read
  RetainedRead : NotMigrated
  -- it is wrong at a line
  Line : (line : ℕ) → NotMigrated

-- the status of that
abbrev pub migration_refused : NotMigrated → status.Refused
migration_refused (OldProgram programs) = refused.NoProgram
migration_refused NewRead = refused.ReadFault
migration_refused (NewBroken b) = refused.Broken
migration_refused (NewProgram programs) = refused.NoProgram
migration_refused RetainedRead = refused.ReadFault
migration_refused (Line line) = refused.EventsBroken

-- and its line
abbrev pub migration_line : Migration → NotMigrated → List ℕ
migration_line m (OldProgram programs) = program_line First m.program programs
migration_line m NewRead = read_line m.new
migration_line m (NewBroken b) = broken_line New b
migration_line m (NewProgram programs) = program_line New m.program programs
migration_line m RetainedRead = read_line m.retain
migration_line m (Line line) = retained_line line

-- what is answered to what a migration comes to
abbrev pub answer_to_migration : Migration → Result (List ℕ) NotMigrated → Answer
answer_to_migration m (Ok text) = output text
answer_to_migration m (Err e) = refusal (migration_refused e) (migration_line m e)

-- the bytes break no rule, and these are the leaves of the program of their diagrams that is named, or of the only one
pub record HasVersion (bytes : List ℕ) (program : Option (List ℕ)) (l : Laid) : Type 0 where
  pub diagrams : Project
  pub has : HasDiagrams bytes diagrams
  pub version : IsVersion diagrams program l

-- the bytes break no rule, and there is no such program, but so many
pub record HasNoVersion (bytes : List ℕ) (program : Option (List ℕ)) (programs : ℕ) : Type 0 where
  pub diagrams : Project
  pub has : HasDiagrams bytes diagrams
  pub lacks : LacksProgram diagrams program programs

-- a file that is read breaks this rule first: it is too long, or its bytes break it
pub data IsBrokenFile (told : Option (List ℕ)) : model.Broken → Type 0 where
  too_long : IsLong told → IsBrokenFile told (at_byte 7 max_file_bytes)
  breaks : (bytes : List ℕ) {b : model.Broken} → IsLoaded told bytes → Breaks bytes b → IsBrokenFile told b

-- the old version, over the bytes of its file
pub record OldVersion (m : Migration) (bytes : List ℕ) : Type 0 where
  pub laid : Laid
  pub is : HasVersion bytes m.program laid

-- the file of the new version
pub record NewFile (told : List ℕ → Option (List ℕ)) (m : Migration) (old : List ℕ) : Type 0 where
  pub before : OldVersion m old
  pub bytes : List ℕ
  pub loaded : IsLoaded (told m.new) bytes

-- both versions
pub record Versions (told : List ℕ → Option (List ℕ)) (m : Migration) (old : List ℕ) : Type 0 where
  pub file : NewFile told m old
  pub after : Laid
  pub is : HasVersion file.bytes m.program after

-- What a migration comes to over the bytes of its old file, where the desk tells these files and these names' counts rose: what is written, or what comes first of a program that is
-- missing in the old file, a new file that can't be read, breaks a rule or lacks the program, and a retained file that can't be read or is wrong.
abbrev pub ComesTo : (List ℕ → Option (List ℕ)) → (List ℕ → Type 0) → Form → Migration → List ℕ → Result (List ℕ) NotMigrated → Type 0
ComesTo told rose form m bytes (Ok text) = (v : Versions told m bytes) × IsMigrated form (told m.retain) v.file.before.laid.leaves v.after.leaves text
ComesTo told rose form m bytes (Err (OldProgram programs)) = HasNoVersion bytes m.program programs
ComesTo told rose form m bytes (Err NewRead) = OldVersion m bytes × rose m.new
ComesTo told rose form m bytes (Err (NewBroken b)) = OldVersion m bytes × IsBrokenFile (told m.new) b
ComesTo told rose form m bytes (Err (NewProgram programs)) = (f : NewFile told m bytes) × HasNoVersion f.bytes m.program programs
ComesTo told rose form m bytes (Err RetainedRead) = Versions told m bytes × rose m.retain
ComesTo told rose form m bytes (Err (Line line)) = (v : Versions told m bytes) × IsWrongLine (told m.retain) v.file.before.laid.leaves line

-- the answer is to what a migration comes to
pub record AnswersMigration (told : List ℕ → Option (List ℕ)) (rose : List ℕ → Type 0) (form : Form) (m : Migration) (bytes : List ℕ) (a : Answer) : Type 0 where
  pub outcome : Result (List ℕ) NotMigrated
  pub comes : ComesTo told rose form m bytes outcome
  pub answer : a ≡ answer_to_migration m outcome

-- A migration comes to this: the desk tells its old file, which is short enough, and the migration comes to it over these bytes.
pub record Migrates (told : List ℕ → Option (List ℕ)) (rose : List ℕ → Type 0) (form : Form) (m : Migration) (outcome : Result (List ℕ) NotMigrated) : Type 0 where
  pub bytes : List ℕ
  pub tells : told m.old ≡ Some bytes
  pub short : length bytes ≤ max_file_bytes
  pub comes : ComesTo told rose form m bytes outcome
