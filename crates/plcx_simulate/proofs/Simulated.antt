-- A simulation from its steps.
use Rattle.std.proofs.Common.{◌≤◌, ℕ, List, Ok, Err, arith}
use Rattle.std.specs.Prelude.{Result, IfOk, OnOk}
use Rattle.plcx_io.specs.Counts.{Rose}
use Rattle.plcx_check.specs.declared.checked.Checked.{Checked}
use Rattle.plcx_words.specs.Command.{Run}
use Rattle.plcx_state.specs.Layouts.{Laid, IsLaid}
use Rattle.plcx_opening.specs.Opening.{IsLaidAs}
use Rattle.plcx_traced.specs.Runs.{Chosen}
use Rattle.plcx_simulate.specs.Programs.{NamesProgram, programs_of, diagrams_in}

-- the program with its layout
abbrev pub chosen : (checked : Checked) (r : Run) (name : List ℕ) (l : Laid) → NamesProgram (diagrams_in checked) r.program name → IsLaidAs (diagrams_in checked) name l → IsLaid l → Chosen (programs_of (diagrams_in checked)) r
chosen checked r name l q laid numbered = record { program = q.pou; is = q.is; laid = l; is_laid = numbered; leaves_are = (laid.laid q.pou q.named).leaves.leaves }

-- what holds of a value, with what holds where there is one
pub both_ok : {A E : Type 0} (res : Result A E) (P : Type 0) (Q R : A → Type 0) → ((x : A) → P → Q x → R x) → OnOk res P → IfOk res Q → IfOk res R
both_ok (Ok x) P Q R f p q = f x p q
both_ok (Err e) P Q R f p q = q

-- a count that rose after another call rose over both
pub rose_later : (before between now : ℕ) → before ≤ between → Rose between now → Rose before now
rose_later before between now le h = omega arith

-- and a count that rose before another
pub rose_earlier : (before between now : ℕ) → between ≤ now → Rose before between → Rose before now
rose_earlier before between now le h = omega arith
