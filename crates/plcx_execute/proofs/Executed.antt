-- A run of a text from its steps.
use Rattle.std.proofs.Common.{◌≡◌, ◌≤◌, ◌∙◌, ℕ, List, Ok, Err, ap, subst, arith}
use Rattle.std.specs.Prelude.{Option, Result, IfOk, OnOk}
use Rattle.plcx_io.specs.Counts.{Rose}
use Rattle.plcx_meaning.specs.Execute.{text_machine}
use Rattle.plcx_meaning.specs.Run.{begin_side}
use Rattle.plcx_meaning.specs.Tree.{PouText}
use Rattle.plcx_words.specs.Command.{Run}
use Rattle.plcx_state.specs.Layouts.{Laid, IsLaid}
use Rattle.plcx_state.specs.Retains.{kept_at}
use Rattle.plcx_text_layout.specs.Opening.{IsLaidAs}
use Rattle.plcx_run.specs.declared.side.TextSide.{TextSide}
use Rattle.plcx_run.specs.Sides.{unit, machine_of, laid_of, StandsFor, OpensFor}
use Rattle.plcx_traced.specs.Runs.{Chosen, Begun}
use Rattle.plcx_traced.proofs.Made.{IsOpened}
use Rattle.plcx_execute.specs.Choosing.{NamesProgram}
use Rattle.plcx_execute.specs.Programs.{programs_of}

-- the program with its layout
abbrev pub chosen : (pous : List PouText) (r : Run) (name : List ℕ) (l : Laid) → NamesProgram pous r.program name → IsLaidAs pous name l → IsLaid l → Chosen (programs_of pous) r
chosen pous r name l q laid numbered = record { program = q.pou; is = q.is; laid = l; is_laid = numbered; leaves_are = (laid.laid q.pou q.named).leaves.leaves }

-- what holds of a value, with what holds where there is one
pub both_ok : {A E : Type 0} (res : Result A E) (P : Type 0) (Q R : A → Type 0) → ((x : A) → P → Q x → R x) → OnOk res P → IfOk res Q → IfOk res R
both_ok (Ok x) P Q R f p q = f x p q
both_ok (Err e) P Q R f p q = q

-- a count that rose after another call rose over both
pub rose_later : (before between now : ℕ) → before ≤ between → Rose between now → Rose before now
rose_later before between now le h = omega arith

-- the side that was opened is that of the run's program
pub opened : (pous : List PouText) (told : List ℕ → Option (List ℕ)) (r : Run) (b : Begun told (programs_of pous) r) (s : TextSide) → unit s ≡ pous → OpensFor b.chosen.program b.kept s
    → IsOpened (programs_of pous) told r b (machine_of s) (laid_of s).leaves (StandsFor s)
opened pous told r b s of w = record {
  machine = w.machine ∙ ap (λ (u : List PouText). text_machine u b.chosen.program) of;
  leaves_are = w.laid.leaves.leaves ∙ ap (λ (u : List PouText). (text_machine u b.chosen.program).layout) of;
  stands = subst (λ (u : List PouText). StandsFor s (begin_side (text_machine u b.chosen.program) (kept_at (laid_of s).leaves b.kept))) of w.begins;
}
