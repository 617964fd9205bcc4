-- How a call ends: its status, and what its two sinks got.
use Rattle.std.specs.Prelude.{◌≡◌, ℕ, List, ◌⊎◌}
use Rattle.std.specs.declared.option.Option.{Option}
use Rattle.std.specs.Io.KnownBytes.{Appends, Keeps}
use Rattle.plcx_io.specs.Counts.{Rose}
use Rattle.plcx_meaning.specs.Evaluate.{Heard}
use Rattle.plcx_io.specs.Told.{AppendsFront}
use Rattle.plcx_command.specs.Answer.{Answer, output, refusal, memory_answer, write_line}
use Rattle.plcx_words.specs.Command.{Command}
use Rattle.plcx_command.specs.Hears.{Hears}
use Rattle.plcx_command.specs.Says.{Says}
use Rattle.plcx_command.specs.Refused.{status_of}
use Rattle.plcx_command.specs.declared.status.Status.{Status}
use Rattle.plcx_command.specs.declared.status.Status.TheVariants.{Done, WriteFault}

-- a sink before and after a call: its bytes and its count of faults
pub record Change : Type 0 where
  pub was : Option (List ℕ)
  pub now : Option (List ℕ)
  pub had : ℕ
  pub has : ℕ

abbrev pub change : Option (List ℕ) → Option (List ℕ) → ℕ → ℕ → Change
change was now had has = record { was = was; now = now; had = had; has = has }

-- the sink got exactly these bytes
abbrev pub Gets : Change → List ℕ → Type 0
Gets c bytes = Appends c.was c.now bytes

-- its count rose, and it got a front of these bytes
abbrev pub GetsFront : Change → List ℕ → Type 0
GetsFront c bytes = Rose c.had c.has × AppendsFront c.was c.now bytes

abbrev pub Unchanged : Change → Type 0
Unchanged c = Keeps c.was c.now

-- An answer is written: the output to the one sink, or the line to the other, and the status is its own; or a write failed.
abbrev pub Written : Answer → Status → Change → Change → Type 0
Written (output bytes) s out err =
    ((s ≡ Done) × Gets out bytes × Unchanged err) ⊎ ((s ≡ WriteFault) × GetsFront out bytes × (Gets err write_line ⊎ GetsFront err write_line))
Written (refusal why line) s out err =
    ((s ≡ status_of why) × Gets err line × Unchanged out) ⊎ ((s ≡ WriteFault) × GetsFront err line × Unchanged out)

-- the command's answer, or that memory was refused
abbrev pub MaySay : (List ℕ → Option (List ℕ)) → (List ℕ → Type 0) → Option Command → Answer → Type 0
MaySay told rose command a = Says told rose command a ⊎ (a ≡ memory_answer)

-- There is an answer that the command may give; it was written so, and a watch has become what it is by what is heard of that.
pub record Ends (told : List ℕ → Option (List ℕ)) (rose : List ℕ → Type 0) (Became : List Heard → Type 0) (command : Option Command) (status : Status) (out err : Change) : Type 0 where
  pub answer : Answer
  pub said : MaySay told rose command answer
  pub written : Written answer status out err
  pub heard : Hears told Became command answer
