-- What a watch hears of a command.
use Rattle.std.specs.Prelude.{◌≤◌, ℕ, List, [], Option, Some, None, length, ◌⊎◌}
use Rattle.plcx_io.specs.Told.{Tells}
use Rattle.plcx_types.specs.Limits.{max_file_bytes}
use Rattle.plcx_meaning.specs.Diagram.{Project}
use Rattle.plcx_meaning.specs.Evaluate.{Heard}
use Rattle.plcx_words.specs.Command.{Command, Run, check, compile, simulate, run, bench, cycle, migrate, report, cover}
use Rattle.plcx_simulate.specs.Watching.{HearsAll, HearsFront}
use Rattle.plcx_bench.specs.Watching.{HearsAll as HearsBenchAll, HearsFront as HearsBenchFront}
use Rattle.plcx_command.specs.Answer.{Answer, output, refusal}
use Rattle.plcx_command.specs.Compiled.{HasDiagrams}
use Rattle.plcx_command.specs.declared.status.Refused.{Refused}
use Rattle.plcx_command.specs.declared.status.Refused.TheVariants.{Broken, Usage, ReadFault, NoMemory, TextBroken, EventsBroken, NoProgram, TasksBroken}

-- the diagrams of the file that a run names
pub record HasFile (told : List ℕ → Option (List ℕ)) (r : Run) (diagrams : Project) : Type 0 where
  pub bytes : List ℕ
  pub short : length bytes ≤ max_file_bytes
  pub tells : Tells (told r.file) bytes
  pub has : HasDiagrams bytes diagrams

-- a watch has heard all of a simulation that leaves this text
pub record IsHeard (told : List ℕ → Option (List ℕ)) (r : Run) (text : List ℕ) (Became : List Heard → Type 0) : Type 0 where
  pub diagrams : Project
  pub file : HasFile told r diagrams
  pub heard : HearsAll told diagrams r text Became

-- or a front of what is heard of one
pub record IsHeardInPart (told : List ℕ → Option (List ℕ)) (r : Run) (Became : List Heard → Type 0) : Type 0 where
  pub diagrams : Project
  pub file : HasFile told r diagrams
  pub heard : HearsFront told diagrams r Became

-- Nothing is heard of what is refused; but where memory is wanted part of it may have been heard.
abbrev pub HearsRefused : (List Heard → Type 0) → (part : Type 0) → Refused → Type 0
HearsRefused Became part NoMemory = Became [] ⊎ part
HearsRefused Became part Broken = Became []
HearsRefused Became part Usage = Became []
HearsRefused Became part ReadFault = Became []
HearsRefused Became part TextBroken = Became []
HearsRefused Became part EventsBroken = Became []
HearsRefused Became part NoProgram = Became []
HearsRefused Became part TasksBroken = Became []

-- what is heard of a run, by what is answered
abbrev pub HearsRun : (List ℕ → Option (List ℕ)) → (List Heard → Type 0) → Run → Answer → Type 0
HearsRun told Became r (output text) = IsHeard told r text Became
HearsRun told Became r (refusal why line) = HearsRefused Became (IsHeardInPart told r Became) why

-- and of a bench
abbrev pub HearsBench : (List Heard → Type 0) → ℕ → Answer → Type 0
HearsBench Became n (output text) = HearsBenchAll n Became
HearsBench Became n (refusal why line) = HearsRefused Became (HearsBenchFront n Became) why

-- nothing is heard of other actions
abbrev pub Hears : (List ℕ → Option (List ℕ)) → (List Heard → Type 0) → Option Command → Answer → Type 0
Hears told Became None a = Became []
Hears told Became (Some (check name)) a = Became []
Hears told Became (Some (compile name)) a = Became []
Hears told Became (Some (simulate r)) a = HearsRun told Became r a
Hears told Became (Some (run r)) a = Became []
Hears told Became (Some (bench n)) a = HearsBench Became n a
Hears told Became (Some (cycle t)) a = Became []
Hears told Became (Some (migrate m)) a = Became []
Hears told Became (Some (report m)) a = Became []
Hears told Became (Some (cover r)) a = Became []
