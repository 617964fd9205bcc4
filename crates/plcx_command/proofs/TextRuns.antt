-- What a run of a text was answered for.
use Rattle.std.proofs.Common.{◌≡◌, ◌≢◌, ◌∙◌, ℕ, List, refl, sym, ap, subst, inl, inr, Option, Some, None}
use Rattle.std.specs.Prelude.{Result, Ok, Err}
use Rattle.plcx_meaning.specs.Evaluate.{Heard}
use Rattle.plcx_words.specs.Command.{Command, Run, run, bench}
use Rattle.plcx_state.specs.declared.layout.Leaf.{Leaf}
use Rattle.plcx_st.specs.Meant.{meant}
use Rattle.plcx_traced.specs.declared.error.RunError.TheVariants as error
use Rattle.plcx_traced.specs.Files.{WhyNotBegun}
use Rattle.plcx_traced.specs.Programs.{IsMissing}
use Rattle.plcx_traced.specs.Runs.{AreTold}
use Rattle.plcx_execute.specs.Programs.{programs_of}
use Rattle.plcx_text_file.specs.Files.{IsBrokenFile}
use Rattle.plcx_text_file.specs.declared.broken.BrokenText.{BrokenText}
use Rattle.plcx_text_run.specs.TextRuns.{TextOf, ComesTo}
use Rattle.plcx_text_run.specs.declared.running.TextRunError.{TextRunError}
use Rattle.plcx_text_run.specs.declared.running.TextRunError.TheVariants as text_error
use Rattle.plcx_command.specs.Answer.{Answer, output}
use Rattle.plcx_command.specs.Ends.{Ends, Change, Gets, Unchanged}
use Rattle.plcx_command.specs.Headline.{IsDefined, Reads, Never, TellsAll, RunsExactly}
use Rattle.plcx_command.specs.TextRun.{answer_to_text}
use Rattle.plcx_command.specs.Verdict.{Verdict, FileVerdict}
use Rattle.plcx_command.specs.declared.status.Status.{Status}
use Rattle.plcx_command.specs.declared.status.Status.TheVariants as status
use Rattle.plcx_command.proofs.Found.{Found, faulty, measured, unread, breaks, traced, stopped, accepts}
use Rattle.plcx_command.proofs.Statuses.{status_for, done}
use Rattle.plcx_command.proofs.Laws.{IsAnswered, answered, no_project}

-- over files that are told a run of a text comes to one thing
abbrev pub OneText : Type 0
OneText = (told : List ℕ → Option (List ℕ)) (r : Run) (bytes : List ℕ) → told r.file ≡ Some bytes → AreTold told r → (x y : Result (List ℕ) TextRunError)
    → x ≢ Err text_error.NoMemory → y ≢ Err text_error.NoMemory → ComesTo told Never r x → ComesTo told Never r y → x ≡ y

-- where its text breaks something, to nothing but that
abbrev pub BrokenAlone : Type 0
BrokenAlone = (told : List ℕ → Option (List ℕ)) (r : Run) (bytes : List ℕ) → told r.file ≡ Some bytes → (b : BrokenText) → IsBrokenFile (told r.file) b
    → (x : Result (List ℕ) TextRunError) → x ≢ Err text_error.NoMemory → ComesTo told Never r x → x ≡ Err (text_error.TextBroken b)

-- and where its program is missing, to nothing but that
abbrev pub MissingAlone : Type 0
MissingAlone = (told : List ℕ → Option (List ℕ)) (r : Run) (bytes : List ℕ) → told r.file ≡ Some bytes → (t : TextOf told r) → IsMissing (programs_of (meant t.unit)) r.program
    → (x : Result (List ℕ) TextRunError) → x ≢ Err text_error.NoMemory → ComesTo told Never r x → (programs : ℕ) × (x ≡ Err (text_error.NotRun (error.NoProgram programs)))

-- the files of a run
pub reads_text : (r : Run) → Reads (Some (run r)) r.file
reads_text r = inl refl

pub reads_text_kept : (r : Run) (name : List ℕ) → r.retain ≡ Some name → Reads (Some (run r)) name
reads_text_kept r name is = inr (inl is)

pub reads_text_events : (r : Run) → Reads (Some (run r)) r.events
reads_text_events r = inr (inr refl)

told-text : (told : List ℕ → Option (List ℕ)) (r : Run) → TellsAll told (Some (run r)) → AreTold told r
told-text told r all = record { retained = λ name is. all name (reads_text_kept r name is); events = all r.events (reads_text_events r) }

-- a trace is answered to a run alone that leaves it
text-outcome : (r : Run) (x : Result (List ℕ) TextRunError) (text : List ℕ) → output text ≡ answer_to_text r x → x ≡ Ok text
text-outcome r (Ok t) text e = let same : text ≡ t = cc in ap Ok (sym same)
text-outcome r (Err f) text e = absurd (cc)

-- what has a defined status is no want of memory
text-there : (r : Run) (x : Result (List ℕ) TextRunError) → IsDefined (status_for (answer_to_text r x)) → x ≢ Err text_error.NoMemory
text-there r x d same = subst (λ (y : Result (List ℕ) TextRunError). IsDefined (status_for (answer_to_text r y))) same d

module _ (one_verdict : (bytes : List ℕ) (v w : Verdict) → FileVerdict bytes v → FileVerdict bytes w → v ≡ w)
    (told : List ℕ → Option (List ℕ)) (rose : List ℕ → Type 0) (Became : List Heard → Type 0) where
  -- ---- a run whose status is defined did not fail

  calm-kept : (retain : Option (List ℕ)) (leaves : List Leaf) (line : ℕ) → WhyNotBegun told rose leaves retain (error.Line line) → WhyNotBegun told Never leaves retain (error.Line line)
  calm-kept None leaves line h = h
  calm-kept (Some name) leaves line h = h

  pub text-calm : (r : Run) (x : Result (List ℕ) TextRunError) → IsDefined (status_for (answer_to_text r x)) → ComesTo told rose r x → ComesTo told Never r x
  text-calm r (Ok text) d h = h
  text-calm r (Err text_error.TextRead) d h = absurd d
  text-calm r (Err (text_error.TextBroken b)) d h = h
  text-calm r (Err (text_error.NotRun (error.NoProgram n))) d h = h
  text-calm r (Err (text_error.NotRun error.RetainedRead)) d h = absurd d
  text-calm r (Err (text_error.NotRun (error.Line n))) d h = (h.0, (h.1.0, calm-kept r.retain h.1.0.laid.leaves n h.1.1), h.2)
  text-calm r (Err (text_error.NotRun error.EventsRead)) d h = absurd d
  text-calm r (Err (text_error.NotRun (error.Row n))) d h = h
  text-calm r (Err (text_error.NotRun error.NoMemory)) d h = absurd d
  text-calm r (Err text_error.NoMemory) d h = absurd d

  -- what a run whose status is defined comes to
  pub record TextOutcome (r : Run) (a : Answer) : Type 0 where
    pub outcome : Result (List ℕ) TextRunError
    pub comes : ComesTo told Never r outcome
    pub there : outcome ≢ Err text_error.NoMemory
    pub answer : a ≡ answer_to_text r outcome

  outcome-of : (r : Run) (a : Answer) (x : Result (List ℕ) TextRunError) → IsDefined (status_for a) → ComesTo told rose r x → a ≡ answer_to_text r x → TextOutcome r a
  outcome-of r a x d h e =
      let own = subst (λ (y : Answer). IsDefined (status_for y)) e d in
      record { outcome = x; comes = text-calm r x own h; there = text-there r x own; answer = e }

  pub text_outcome : (command : Option Command) (r : Run) → command ≡ Some (run r) → (a : Answer) (s : Status) → IsDefined s → IsAnswered one_verdict told rose Became command a s → TextOutcome r a
  text_outcome command r is a s d answer = by answer.found (subst IsDefined answer.status d)
    where
      by : Found told rose command a → IsDefined (status_for a) → TextOutcome r a
      by (faulty n e) own = absurd (cc)
      by (measured n m text h e) own = let both : Some (run r) ≡ Some (bench n) = sym is ∙ m in absurd (cc)
      by (unread name p q e) own = absurd (no_project command r name is p)
      by (breaks b name p v e) own = absurd (no_project command r name is p)
      by (traced other n text h e) own = let same : other ≡ r = cc in subst (λ (z : Run). TextOutcome z a) same (outcome-of other a (Ok text) own h e)
      by (stopped other n x h m e) own = let same : other ≡ r = cc in subst (λ (z : Run). TextOutcome z a) same (outcome-of other a (Err x) own h e)
      by (accepts c n name p f) own = absurd (no_project command r name is p)

  -- ---- the clause

  module _ (one : OneText) where
    -- where all files are told, the answer is to what the run comes to
    pub same_outcome : (command : Option Command) (r : Run) → command ≡ Some (run r) → TellsAll told command → (a : Answer) (s : Status) → IsDefined s
        → IsAnswered one_verdict told rose Became command a s → (x : Result (List ℕ) TextRunError) → x ≢ Err text_error.NoMemory → ComesTo told Never r x
        → s ≡ status_for (answer_to_text r x)
    same_outcome command r is k a s d answer x there h =
        let o = text_outcome command r is a s d answer in
        let all = subst (λ (c : Option Command). TellsAll told c) is k in
        let file = all r.file (reads_text r) in
        answer.status
        ∙ ap status_for o.answer
        ∙ ap (λ y. status_for (answer_to_text r y)) (one told r file.0 file.1 (told-text told r all) o.outcome x o.there there o.comes h)

    record IsTrace (r : Run) (out err : Change) : Type 0 where
      text : List ℕ
      comes : ComesTo told Never r (Ok text)
      gets : Gets out text
      quiet : Unchanged err

    done-trace : (r : Run) (command : Option Command) (s : Status) (out err : Change) (ends : Ends told rose Became command s out err) → command ≡ Some (run r) → IsDefined s
        → s ≡ status.Done → IsTrace r out err
    done-trace r command s out err ends is d e =
        let o = text_outcome command r is ends.answer s d (answered one_verdict told rose Became command s out err d ends) in
        let w = done ends.answer s out err e ends.written in
        record {
          text = w.text;
          comes = subst (ComesTo told Never r) (text-outcome r o.outcome w.text (sym w.is ∙ o.answer)) o.comes;
          gets = w.gets;
          quiet = w.quiet;
        }

    pub runs_exactly : (command : Option Command) (s : Status) (out err : Change) → Ends told rose Became command s out err → RunsExactly told command s out err
    runs_exactly command s out err ends r is all d = (
      (
        (λ e. let t = done-trace r command s out err ends is d e in (t.text, t.comes)),
        (λ h. same_outcome command r is all ends.answer s d (answered one_verdict told rose Became command s out err d ends) (Ok h.0) (λ e. cc) h.1),
      ),
      (λ e. let t = done-trace r command s out err ends is d e in (t.text, t.comes, t.gets, t.quiet)),
    )

  -- ---- completeness

  quiet-kept : (r : Run) (leaves : List Leaf) (o : Option (List ℕ)) → r.retain ≡ o → ((name : List ℕ) → Reads (Some (run r)) name → rose name → ⊥)
      → WhyNotBegun told rose leaves o error.RetainedRead → ⊥
  quiet-kept r leaves None is quiet h = cc
  quiet-kept r leaves (Some name) is quiet h = quiet name (reads_text_kept r name is) h

  -- a run over files whose counts did not rise did not fail
  quiet-text : (r : Run) (x : Result (List ℕ) TextRunError) → ((name : List ℕ) → Reads (Some (run r)) name → rose name → ⊥) → ComesTo told rose r x → ComesTo told Never r x
  quiet-text r (Ok text) quiet h = h
  quiet-text r (Err text_error.TextRead) quiet h = absurd (quiet r.file (reads_text r) h)
  quiet-text r (Err (text_error.TextBroken b)) quiet h = h
  quiet-text r (Err (text_error.NotRun (error.NoProgram n))) quiet h = h
  quiet-text r (Err (text_error.NotRun error.RetainedRead)) quiet h = absurd (quiet-kept r h.1.0.laid.leaves r.retain refl quiet h.1.1)
  quiet-text r (Err (text_error.NotRun (error.Line n))) quiet h = (h.0, (h.1.0, calm-kept r.retain h.1.0.laid.leaves n h.1.1), h.2)
  quiet-text r (Err (text_error.NotRun error.EventsRead)) quiet h = absurd (quiet r.events (reads_text_events r) h.1.1)
  quiet-text r (Err (text_error.NotRun (error.Row n))) quiet h = h
  quiet-text r (Err (text_error.NotRun error.NoMemory)) quiet h = h
  quiet-text r (Err text_error.NoMemory) quiet h = tt

  -- so it leaves its trace, where it can
  pub quiet_trace : OneText → (r : Run) (e : TextRunError) → e ≢ text_error.NoMemory → TellsAll told (Some (run r)) → ((name : List ℕ) → Reads (Some (run r)) name → rose name → ⊥)
      → ComesTo told rose r (Err e) → (text : List ℕ) → ComesTo told Never r (Ok text) → ⊥
  quiet_trace one r e there all quiet h text k =
      let file = all r.file (reads_text r) in
      let same : Err e ≡ Ok text =
      one told r file.0 file.1 (told-text told r all) (Err e) (Ok text) (λ is. let own : e ≡ text_error.NoMemory = cc in there own) (λ is. cc) (quiet-text r (Err e) quiet h) k in
      cc
