-- Runs of a text: the trace that a run leaves, or why it leaves none. The file of the text comes before the other files.
use Rattle.std.specs.Prelude.{◌≢◌, ℕ, List, Option, Result, Ok, Err, ⊤}
use Rattle.plcx_meaning.specs.Tree.{PouText}
use Rattle.plcx_st.specs.declared.tree.Unit as tree
use Rattle.plcx_st.specs.Meant.{meant}
use Rattle.plcx_words.specs.Command.{Run}
use Rattle.plcx_traced.specs.Runs as runs
use Rattle.plcx_traced.specs.declared.error.RunError.TheVariants as run
use Rattle.plcx_execute.specs.Programs.{programs_of}
use Rattle.plcx_text_file.specs.Files.{IsTextFile, IsBrokenFile}
use Rattle.plcx_text_run.specs.declared.running.TextRunError.{TextRunError}
use Rattle.plcx_text_run.specs.declared.running.TextRunError.TheVariants.{TextRead, TextBroken, NotRun, NoMemory}

-- the unit of the file that a run names
pub record TextOf (told : List ℕ → Option (List ℕ)) (r : Run) : Type 0 where
  pub unit : tree.Unit
  pub file : IsTextFile (told r.file) unit

-- the run leaves this text, which is the trace of its program
pub record IsTraced (told : List ℕ → Option (List ℕ)) (r : Run) (text : List ℕ) : Type 0 where
  pub of : TextOf told r
  pub traced : runs.IsTraced told (programs_of (meant of.unit)) r text

-- why a run of a unit leaves no trace
abbrev pub WhyNotRun : (List ℕ → Option (List ℕ)) → (List ℕ → Type 0) → List PouText → Run → TextRunError → Type 0
WhyNotRun told rose unit r TextRead = ⊥
WhyNotRun told rose unit r (TextBroken b) = ⊥
WhyNotRun told rose unit r (NotRun e) = runs.WhyNot told rose (programs_of unit) r e × (e ≢ run.NoMemory)
WhyNotRun told rose unit r NoMemory = ⊤

-- Why a run leaves no trace: what comes first of a file of the text that can't be read or breaks something, and what refuses the run of its unit; want of
-- memory at any time.
abbrev pub WhyNot : (List ℕ → Option (List ℕ)) → (List ℕ → Type 0) → Run → TextRunError → Type 0
WhyNot told rose r TextRead = rose r.file
WhyNot told rose r (TextBroken b) = IsBrokenFile (told r.file) b
WhyNot told rose r (NotRun e) = (t : TextOf told r) × runs.WhyNot told rose (programs_of (meant t.unit)) r e × (e ≢ run.NoMemory)
WhyNot told rose r NoMemory = ⊤

-- what a run comes to: its trace, or why there is none
abbrev pub ComesTo : (List ℕ → Option (List ℕ)) → (List ℕ → Type 0) → Run → Result (List ℕ) TextRunError → Type 0
ComesTo told rose r (Ok text) = IsTraced told r text
ComesTo told rose r (Err e) = WhyNot told rose r e

-- where nothing fails
abbrev pub Never : List ℕ → Type 0
Never name = ⊥
