-- A run of a project's diagrams, and a run of its text over the same files.
use Rattle.std.specs.Prelude.{◌≡◌, ◌≢◌, ℕ, List, Option, Result, Err}
use Rattle.plcx_meaning.specs.Diagram.{Project}
use Rattle.plcx_meaning.specs.Fits.{ProjectFits}
use Rattle.plcx_meaning.specs.Templates.{unit_of}
use Rattle.plcx_words.specs.Command.{Run}
use Rattle.plcx_traced.specs.Runs.{AreTold, ComesTo}
use Rattle.plcx_traced.specs.declared.error.RunError.{RunError}
use Rattle.plcx_traced.specs.declared.error.RunError.TheVariants.{NoMemory}
use Rattle.plcx_simulate.specs.Programs as diagrams
use Rattle.plcx_execute.specs.Programs as texts

-- Where the desk tells the files and nothing fails, a run of a project that fits and a run of its text, from another file, come to the same: to the same trace to the
-- byte, or to the same refusal, unless memory is wanted.
abbrev pub RunsComeToTheSame : Type 0
RunsComeToTheSame =
    (project : Project) → ProjectFits project → (told : List ℕ → Option (List ℕ)) (r : Run) (file : List ℕ) → AreTold told r → (x y : Result (List ℕ) RunError)
    → x ≢ Err NoMemory → y ≢ Err NoMemory → ComesTo told (λ _. ⊥) (diagrams.programs_of project) r x
    → ComesTo told (λ _. ⊥) (texts.programs_of (unit_of project)) (record r { file = file }) y → x ≡ y
