-- Serves proofs: the layout of a version of a project, from its file.
use Rattle.std.specs.Prelude.{◌≡◌, ℕ, List}
use Rattle.std.specs.declared.option.Option.{Option}
use Rattle.plcx_state.specs.Layouts.{Laid as Leaves}
use Rattle.plcx_check.specs.declared.checked.Checked.{Checked}
use Rattle.plcx_traced.specs.Files.{IsLoaded}
use Rattle.plcx_simulate.specs.Programs.{diagrams_in}
use Rattle.plcx_migrate.specs.Versions.{IsVersion, LacksProgram}
use Rattle.plcx_command.specs.Answer.{Answer, program_answer}
use Rattle.plcx_command.specs.Migrated.{HasVersion, HasNoVersion}
use Rattle.plcx_command.specs.ReplyOf.{answer_of}
use Rattle.plcx_command.specs.Says.{AfterRead, Judged, long_answer}
use Rattle.plcx_command.specs.declared.line.ProjectFile.{ProjectFile}
use Rattle.plcx_command.specs.declared.migrating.Version.{Version}
use Rattle.plcx_command.specs.declared.migrating.Version.TheVariants.{Laid, Refused}

-- a file was read whole, and this is the layout of the program of it that is named, or of the only one
pub record IsLaidFrom (told : Option (List ℕ)) (program : Option (List ℕ)) (l : Leaves) : Type 0 where
  pub bytes : List ℕ
  pub loaded : IsLoaded told bytes
  pub has : HasVersion bytes program l

-- the answer where a file has no such program
pub record AnswersNoProgram (file : ProjectFile) (program : Option (List ℕ)) (bytes : List ℕ) (a : Answer) : Type 0 where
  pub programs : ℕ
  pub none : HasNoVersion bytes program programs
  pub answer : a ≡ program_answer file program programs

-- of a checked project: its layout, or the answer where it has no such program
abbrev pub IsVersionOf : ProjectFile → Checked → Option (List ℕ) → Version → Type 0
IsVersionOf file c program (Laid layout) = IsVersion (diagrams_in c) program layout
IsVersionOf file c program (Refused reply) = (programs : ℕ) × LacksProgram (diagrams_in c) program programs × (answer_of reply ≡ program_answer file program programs)

-- such a layout, or the refusal of the file or of the program is told
abbrev pub IsVersionFrom : ProjectFile → Option (List ℕ) → Type 0 → List ℕ → Option (List ℕ) → Version → Type 0
IsVersionFrom file told rose name program (Laid layout) = IsLaidFrom told program layout
IsVersionFrom file told rose name program (Refused reply) = AfterRead told rose name (long_answer file) (λ bytes. Judged file bytes (AnswersNoProgram file program bytes)) (answer_of reply)
