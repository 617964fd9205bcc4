-- Versions of a program: the program of a project that is named, or the only one, and its leaves in their numbers.
use Rattle.std.specs.Prelude.{◌≡◌, ℕ, List, Option, length, ⊤}
use Rattle.plcx_meaning.specs.Diagram.{Pou, Project}
use Rattle.plcx_state.specs.Layouts.{Laid, IsLaid, all_meant}
use Rattle.plcx_traced.specs.Programs.{IsChosen, IsMissing}
use Rattle.plcx_simulate.specs.Programs.{programs_of}
use Rattle.plcx_migrate.specs.declared.error.VersionError.{VersionError}
use Rattle.plcx_migrate.specs.declared.error.VersionError.TheVariants.{NoProgram, NoMemory}

-- the leaves are those of the program that is named, or of the only one where none is
pub record IsVersion (project : Project) (program : Option (List ℕ)) (l : Laid) : Type 0 where
  pub pou : Pou
  pub is : IsChosen (programs_of project) program pou
  pub is_laid : IsLaid l
  pub leaves_are : all_meant l.leaves ≡ ((programs_of project).machine pou).layout

-- there is no program of the name, or where none is named not just one; and there are so many
pub record LacksProgram (project : Project) (program : Option (List ℕ)) (programs : ℕ) : Type 0 where
  pub count : programs ≡ length (programs_of project).all
  pub missing : IsMissing (programs_of project) program

-- why there is no version; want of memory at any time
abbrev pub WhyNoVersion : Project → Option (List ℕ) → VersionError → Type 0
WhyNoVersion project program (NoProgram programs) = LacksProgram project program programs
WhyNoVersion project program NoMemory = ⊤
