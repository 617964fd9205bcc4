-- Serves proofs: a file that was read and judged.
use Rattle.std.specs.Prelude.{◌≡◌, ◌≤◌, ℕ, List, length}
use Rattle.std.specs.declared.option.Option.{Option}
use Rattle.plcx_io.specs.Told.{Tells}
use Rattle.plcx_types.specs.Limits.{max_file_bytes}
use Rattle.plcx_model.specs.declared.broken.Broken as model
use Rattle.plcx_check.specs.declared.checked.Checked.{Checked}
use Rattle.plcx_command.specs.Answer.{broken_answer}
use Rattle.plcx_command.specs.JudgementOf.{IsChecked}
use Rattle.plcx_command.specs.ReplyOf.{answer_of}
use Rattle.plcx_command.specs.Says.{AfterRead, Judged, long_answer}
use Rattle.plcx_command.specs.Verdict.{Breaks, Keeps}
use Rattle.plcx_command.specs.declared.line.ProjectFile.{ProjectFile}
use Rattle.plcx_command.specs.declared.taking.Taken.{Taken}
use Rattle.plcx_command.specs.declared.taking.Taken.TheVariants.{Accepted, Refused}

-- bytes are accepted, or a rule is told that they break
abbrev pub IsTaken : ProjectFile → List ℕ → Taken → Type 0
IsTaken file bytes (Accepted c) = Keeps bytes c.project × IsChecked c
IsTaken file bytes (Refused reply) = (b : model.Broken) × Breaks bytes b × (answer_of reply ≡ broken_answer file b)

-- a file was read whole, and is accepted
pub record IsAccepted (told : Option (List ℕ)) (c : Checked) : Type 0 where
  pub bytes : List ℕ
  pub short : length bytes ≤ max_file_bytes
  pub tells : Tells told bytes
  pub keeps : Keeps bytes c.project
  pub checked : IsChecked c

-- a file is accepted, or its refusal is told
abbrev pub IsTakenFrom : ProjectFile → Option (List ℕ) → Type 0 → List ℕ → Taken → Type 0
IsTakenFrom file told rose name (Accepted c) = IsAccepted told c
IsTakenFrom file told rose name (Refused reply) = AfterRead told rose name (long_answer file) (λ bytes. Judged file bytes (λ _. ⊥)) (answer_of reply)
