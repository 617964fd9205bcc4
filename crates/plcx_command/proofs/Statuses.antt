-- The status by which an answer is written.
use Rattle.std.proofs.Common.{◌≡◌, ◌∙◌, ℕ, List, refl, sym, ap, subst, inl, inr, Option, Some, None}
use Rattle.plcx_io.specs.Counts.{Rose}
use Rattle.plcx_command.specs.Answer.{Answer, output, refusal, memory_answer}
use Rattle.plcx_command.specs.Ends.{Change, Written, Gets, Unchanged}
use Rattle.plcx_command.specs.Headline.{IsDefined}
use Rattle.plcx_command.specs.Refused.{status_of}
use Rattle.plcx_command.specs.declared.status.Refused.{Refused}
use Rattle.plcx_command.specs.declared.status.Refused.TheVariants as why'
use Rattle.plcx_command.specs.declared.status.Status.{Status}
use Rattle.plcx_command.specs.declared.status.Status.TheVariants as status

-- the status of an answer that is written whole
abbrev pub status_for : Answer → Status
status_for (output bytes) = status.Done
status_for (refusal why line) = status_of why

-- the reason that a status tells
abbrev pub reason : Status → Option Refused
reason status.Done = None
reason status.WriteFault = None
reason status.Broken = Some why'.Broken
reason status.Usage = Some why'.Usage
reason status.ReadFault = Some why'.ReadFault
reason status.NoMemory = Some why'.NoMemory
reason status.TextBroken = Some why'.TextBroken
reason status.EventsBroken = Some why'.EventsBroken
reason status.NoProgram = Some why'.NoProgram
reason status.TasksBroken = Some why'.TasksBroken

reason_back : (why : Refused) → reason (status_of why) ≡ Some why
reason_back why'.Broken = refl
reason_back why'.Usage = refl
reason_back why'.ReadFault = refl
reason_back why'.NoMemory = refl
reason_back why'.TextBroken = refl
reason_back why'.EventsBroken = refl
reason_back why'.NoProgram = refl
reason_back why'.TasksBroken = refl

-- a status tells one reason
same_reason : (why other : Refused) → status_of why ≡ status_of other → why ≡ other
same_reason why other e = let both : Some why ≡ Some other = sym (reason_back why) ∙ ap reason e ∙ reason_back other in cc

pub no_reason : (why : Refused) (s : Status) → status_of why ≡ s → reason s ≡ None → ⊥
no_reason why s e none = let both : Some why ≡ None = sym (reason_back why) ∙ ap reason e ∙ none in cc

-- a status that neither memory nor the outside made is that of the answer
pub defined-status : (a : Answer) (s : Status) (out err : Change) → IsDefined s → Written a s out err → s ≡ status_for a
defined-status (output bytes) s out err d (inl w) = w.0
defined-status (output bytes) s out err d (inr w) = absurd (subst IsDefined w.0 d)
defined-status (refusal why line) s out err d (inl w) = w.0
defined-status (refusal why line) s out err d (inr w) = absurd (subst IsDefined w.0 d)

-- an output was written
pub record IsDone (a : Answer) (out err : Change) : Type 0 where
  pub text : List ℕ
  pub is : a ≡ output text
  pub gets : Gets out text
  pub quiet : Unchanged err

pub done : (a : Answer) (s : Status) (out err : Change) → s ≡ status.Done → Written a s out err → IsDone a out err
done (output bytes) s out err e (inl w) = record { text = bytes; is = refl; gets = w.1; quiet = w.2 }
done (output bytes) s out err e (inr w) = let f = w.0 in absurd (cc)
done (refusal why line) s out err e (inl w) = absurd (no_reason why status.Done (sym w.0 ∙ e) refl)
done (refusal why line) s out err e (inr w) = let f = w.0 in absurd (cc)

-- a refusal was written
pub record IsRefusedBy (why : Refused) (a : Answer) (out err : Change) : Type 0 where
  pub line : List ℕ
  pub is : a ≡ refusal why line
  pub gets : Gets err line
  pub quiet : Unchanged out

pub refused : (why : Refused) (a : Answer) (s : Status) (out err : Change) → s ≡ status_of why → Written a s out err → IsRefusedBy why a out err
refused why (output bytes) s out err e (inl w) = absurd (no_reason why status.Done (sym e ∙ w.0) refl)
refused why (output bytes) s out err e (inr w) = absurd (no_reason why status.WriteFault (sym e ∙ w.0) refl)
refused why (refusal other line) s out err e (inl w) =
    record { line = line; is = ap (λ y. refusal y line) (same_reason other why (sym w.0 ∙ e)); gets = w.1; quiet = w.2 }
refused why (refusal other line) s out err e (inr w) = absurd (no_reason why status.WriteFault (sym e ∙ w.0) refl)

-- an output comes whole where its sink has no fault
pub output-whole : (bytes : List ℕ) (s : Status) (out err : Change) → (Rose out.had out.has → ⊥) → Written (output bytes) s out err → s ≡ status.Done
output-whole bytes s out err calm (inl w) = w.0
output-whole bytes s out err calm (inr w) = absurd (calm w.1.0)

pub memory-whole : (s : Status) (out err : Change) → (Rose err.had err.has → ⊥) → Written memory_answer s out err → s ≡ status.NoMemory
memory-whole s out err calm (inl w) = w.0
memory-whole s out err calm (inr w) = absurd (calm w.1.0)
