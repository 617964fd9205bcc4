-- A file that was read and judged, and what follows on it.
use Rattle.std.proofs.Common.{◌≡◌, ◌≢◌, ◌≤◌, ℕ, List, [], length, refl, sym, subst, arith, ◌⊎◌, inl, inr, Ok, Err}
use Rattle.std.specs.Prelude.{Option, Result, MatchResult, IfOk, OnOk}
use Rattle.std.proofs.Math.Path.{fun_ext}
use Rattle.plcx_io.specs.Counts.{Rose}
use Rattle.plcx_io.specs.Told.{Tells}
use Rattle.plcx_types.specs.Limits.{max_file_bytes}
use Rattle.plcx_xml.specs.declared.tree.Node.{Node}
use Rattle.plcx_xml.specs.declared.tree.Node.TheOpen.{Node-F}
use Rattle.plcx_xml.specs.declared.tree.Element.{Element}
use Rattle.plcx_meaning.specs.Diagram.{Project}
use Rattle.plcx_meaning.specs.Evaluate.{Heard}
use Rattle.plcx_check.specs.declared.checked.Checked.{Checked}
use Rattle.plcx_view.specs.Diagrams.{diagrams_of}
use Rattle.plcx_words.specs.Command.{Run, TaskRun}
use Rattle.plcx_traced.specs.declared.error.RunError.{RunError}
use Rattle.plcx_traced.specs.declared.error.RunError.TheVariants as error
use Rattle.plcx_traced.proofs.Made.{not_wider}
use Rattle.plcx_simulate.specs.Programs.{programs_of, diagrams_in}
use Rattle.plcx_simulate.specs.Watching.{Watches, HearsFront}
use Rattle.plcx_command.specs.Answer.{Answer, output, refusal, memory_answer}
use Rattle.plcx_cycle.specs.Cycles as cycles
use Rattle.plcx_cycle.specs.declared.error.CycleError.{CycleError}
use Rattle.plcx_cycle.specs.declared.error.CycleError.TheVariants as cycle_error
use Rattle.plcx_command.specs.Compiled.{HasDiagrams, IsTextOf}
use Rattle.plcx_command.specs.Cycled.{IsCycled, AnswersCycle}
use Rattle.plcx_command.specs.JudgementOf.{HasTree}
use Rattle.plcx_command.specs.Hears.{HasFile, IsHeardInPart, HearsRun}
use Rattle.plcx_command.specs.ReplyOf.{answer_of}
use Rattle.plcx_command.specs.Says.{AfterRead, fault, too_long, whole, Judged, Answers, IsText, long_answer}
use Rattle.plcx_command.specs.Simulated.{RunForm, RunComesTo, AnswersRun, refused_as, error_line}
use Rattle.plcx_command.specs.Taken.{IsTaken, IsAccepted, IsTakenFrom}
use Rattle.plcx_command.specs.Verdict as verdict
use Rattle.plcx_command.specs.Verdict.{Verdict, Refused, Passed}
use Rattle.plcx_command.specs.declared.reply.Reply.{Reply}
use Rattle.plcx_command.specs.declared.line.ProjectFile.{ProjectFile}
use Rattle.plcx_command.specs.declared.taking.Taken as taken
use Rattle.plcx_command.specs.declared.taking.Taken.TheVariants as taken'

-- the verdict on the bytes of a file is that on the file
pub taken_whole : (file : ProjectFile) (told : Option (List ℕ)) (rose : Type 0) (name bytes : List ℕ) → length bytes ≤ max_file_bytes → Tells told bytes → (t : taken.Taken)
    → IsTaken file bytes t → IsTakenFrom file told rose name t
taken_whole file told rose name bytes short tells (taken'.Accepted c) h = record { bytes = bytes; short = short; tells = tells; keeps = h.0; checked = h.1 }
taken_whole file told rose name bytes short tells (taken'.Refused reply) h = whole bytes short tells (record { verdict = verdict.Broken h.0; judged = Refused h.1; answers = h.2 })

-- what follows on a file that is accepted may be known by less
module _ (file : ProjectFile) (next more : List ℕ → Answer → Type 0) (w : (bytes : List ℕ) (a : Answer) → next bytes a → more bytes a) where
  answers_less : (bytes : List ℕ) (v : Verdict) (a : Answer) → Answers file (next bytes) v a → Answers file (more bytes) v a
  answers_less bytes verdict.Accepted a h = w bytes a h
  answers_less bytes (verdict.Broken b) a h = h

  pub after_less : (told : Option (List ℕ)) (rose : Type 0) (name : List ℕ) (long : Answer) (a : Answer)
      → AfterRead told rose name long (λ bytes. Judged file bytes (next bytes)) a → AfterRead told rose name long (λ bytes. Judged file bytes (more bytes)) a
  after_less told rose name long a (fault r e) = fault r e
  after_less told rose name long a (too_long l e) = too_long l e
  after_less told rose name long a (whole bytes short tells j) = whole bytes short tells (record { verdict = j.verdict; judged = j.judged; answers = answers_less bytes j.verdict a j.answers })

  pub judged_less : (bytes : List ℕ) (a : Answer) → Judged file bytes (next bytes) a → Judged file bytes (more bytes) a
  judged_less bytes a j = record { verdict = j.verdict; judged = j.judged; answers = answers_less bytes j.verdict a j.answers }

-- a file that is refused is refused whatever would follow
pub refused_over : (file : ProjectFile) (told : Option (List ℕ)) (rose : Type 0) (name : List ℕ) (next : List ℕ → Answer → Type 0) (a : Answer)
    → AfterRead told rose name (long_answer file) (λ bytes. Judged file bytes (λ _. ⊥)) a
    → AfterRead told rose name (long_answer file) (λ bytes. Judged file bytes (next bytes)) a
refused_over file told rose name next a h = after_less file (λ _ _. ⊥) next (λ bytes b f. absurd f) told rose name (long_answer file) a h

-- and on one that is accepted something follows
pub accepted_over : (file : ProjectFile) (told : Option (List ℕ)) (rose : Type 0) (name : List ℕ) (next : List ℕ → Answer → Type 0) (c : Checked) (a : Answer) (is : IsAccepted told c) → next is.bytes a
    → AfterRead told rose name (long_answer file) (λ bytes. Judged file bytes (next bytes)) a
accepted_over file told rose name next c a is n = whole is.bytes is.short is.tells (record { verdict = verdict.Accepted; judged = Passed c.project is.keeps; answers = n })

-- the diagrams of a file that is accepted
pub diagrams_there : (told : Option (List ℕ)) (c : Checked) (file : IsAccepted told c) → HasDiagrams file.bytes (diagrams_in c)
diagrams_there told c file = record { project = c.project; keeps = file.keeps; links = c.links; types = c.types; plan = c.plan; checked = file.checked; are = refl }

-- its text
pub text_there : (told : Option (List ℕ)) (c : Checked) (file : IsAccepted told c) (text : List ℕ) (a : Answer)
    → IsTextOf (diagrams_of c.project c.links c.types c.plan) text → a ≡ output text → IsText file.bytes a
text_there told c file text a t e = record { text = text; compiled = record { diagrams = diagrams_in c; has = diagrams_there told c file; text_of = t }; answer = e }

-- what is heard of a run of an accepted file that leaves no trace
module _ (told : List ℕ → Option (List ℕ)) (Became : List Heard → Type 0) (r : Run) (c : Checked) (file : IsAccepted (told r.file) c) where
  has_file : HasFile told r (diagrams_in c)
  has_file = record { bytes = file.bytes; short = file.short; tells = file.tells; has = diagrams_there (told r.file) c file }

  in_part : Became [] ⊎ HearsFront told (diagrams_in c) r Became → Became [] ⊎ IsHeardInPart told r Became
  in_part (inl h) = inl h
  in_part (inr h) = inr (record { diagrams = diagrams_in c; file = has_file; heard = h })

  refusal_heard : (e : RunError) (line : List ℕ) → Watches told (diagrams_in c) r Became (Err e) → HearsRun told Became r (refusal (refused_as e) line)
  refusal_heard (error.NoProgram programs) line h = h
  refusal_heard error.RetainedRead line h = h
  refusal_heard (error.Line n) line h = h
  refusal_heard error.EventsRead line h = h
  refusal_heard (error.Row n) line h = h
  refusal_heard error.NoMemory line h = in_part h

  memory_heard : (e : RunError) → Watches told (diagrams_in c) r Became (Err e) → HearsRun told Became r memory_answer
  memory_heard (error.NoProgram programs) h = inl h
  memory_heard error.RetainedRead h = inl h
  memory_heard (error.Line n) h = inl h
  memory_heard error.EventsRead h = inl h
  memory_heard (error.Row n) h = inl h
  memory_heard error.NoMemory h = in_part h

  pub error_heard : {M : Type 0} (e : RunError) → Watches told (diagrams_in c) r Became (Err e) → (res : Result Reply M)
      → IfOk res (λ reply. answer_of reply ≡ refusal (refused_as e) (error_line r e))
      → MatchResult res (λ reply. HearsRun told Became r (answer_of reply)) (λ _. HearsRun told Became r memory_answer)
  error_heard e h (Ok reply) is = subst (HearsRun told Became r) (sym is) (refusal_heard e (error_line r e) h)
  error_heard e h (Err m) is = memory_heard e h

-- ---- over a desk that tells the same

pub rose_later : (before between now : ℕ) → before ≤ between → Rose between now → Rose before now
rose_later before between now le h = omega arith

abbrev pub accepted_same : (told same : Option (List ℕ)) (c : Checked) → told ≡ same → IsAccepted told c → IsAccepted same c
accepted_same told same c e h = record { bytes = h.bytes; short = h.short; tells = subst (λ t. Tells t h.bytes) e h.tells; keeps = h.keeps; checked = h.checked }

comes_wider : (told : List ℕ → Option (List ℕ)) (rose more : List ℕ → Type 0) → ((name : List ℕ) → rose name → more name) → (form : RunForm) (project : Project) (r : Run) (x : Result (List ℕ) RunError)
    → RunComesTo told rose form project r x → RunComesTo told more form project r x
comes_wider told rose more w form project r (Ok text) h = h
comes_wider told rose more w form project r (Err e) h = not_wider (programs_of project) told r rose more w e h

answers_wider : (told : List ℕ → Option (List ℕ)) (rose more : List ℕ → Type 0) → ((name : List ℕ) → rose name → more name) → (form : RunForm) (r : Run) (bytes : List ℕ) (a : Answer)
    → AnswersRun told rose form r bytes a → AnswersRun told more form r bytes a
answers_wider told rose more w form r bytes a h = record {
  outcome = h.outcome;
  simulated = record {
    diagrams = h.simulated.diagrams;
    has = h.simulated.has;
    comes = comes_wider told rose more w form h.simulated.diagrams r h.outcome h.simulated.comes;
    there = h.simulated.there;
  };
  answer = h.answer;
}

pub answers_later : (told same : List ℕ → Option (List ℕ)) → ((name : List ℕ) → told name ≡ same name) → (rose more : List ℕ → Type 0)
    → ((name : List ℕ) → rose name → more name) → (form : RunForm) (r : Run) (bytes : List ℕ) (a : Answer)
    → AnswersRun told rose form r bytes a → AnswersRun same more form r bytes a
answers_later told same e rose more w form r bytes a h =
    answers_wider same rose more w form r bytes a (subst (λ (t : List ℕ → Option (List ℕ)). AnswersRun t rose form r bytes a) (fun_ext e) h)

cycles_wider : (told : List ℕ → Option (List ℕ)) (rose more : List ℕ → Type 0) → ((name : List ℕ) → rose name → more name) → (t : TaskRun) (bytes : List ℕ) (x : Result (List ℕ) CycleError)
    → IsCycled told rose t bytes x → IsCycled told more t bytes x
cycles_wider told rose more w t bytes (Ok text) h = record { diagrams = h.diagrams; has = h.has; comes = h.comes; there = h.there }
cycles_wider told rose more w t bytes (Err (cycle_error.Tasks kind at)) h = record { diagrams = h.diagrams; has = h.has; comes = h.comes; there = h.there }
cycles_wider told rose more w t bytes (Err cycle_error.TicksRead) h = record { diagrams = h.diagrams; has = h.has; comes = (h.comes.0, w t.ticks h.comes.1); there = h.there }
cycles_wider told rose more w t bytes (Err (cycle_error.Row n)) h = record { diagrams = h.diagrams; has = h.has; comes = h.comes; there = h.there }
cycles_wider told rose more w t bytes (Err cycle_error.NoMemory) h = absurd (h.there refl)

pub cycle_later : (told same : List ℕ → Option (List ℕ)) → ((name : List ℕ) → told name ≡ same name) → (rose more : List ℕ → Type 0)
    → ((name : List ℕ) → rose name → more name) → (t : TaskRun) (bytes : List ℕ) (a : Answer)
    → AnswersCycle told rose t bytes a → AnswersCycle same more t bytes a
cycle_later told same e rose more w t bytes a h =
    let k = subst (λ (z : List ℕ → Option (List ℕ)). AnswersCycle z rose t bytes a) (fun_ext e) h in
    record { outcome = k.outcome; cycled = cycles_wider same rose more w t bytes k.outcome k.cycled; answer = k.answer }

-- the run of the tasks of a tree that is accepted
pub cycled_there : (told : List ℕ → Option (List ℕ)) (rose : List ℕ → Type 0) (t : TaskRun) (bytes : List ℕ) (root : Node-F Node Element) (c : Checked) → HasTree bytes root c
    → (x : Result (List ℕ) CycleError) → cycles.ComesTo told (rose t.ticks) root c.project (diagrams_in c) t x → x ≢ Err cycle_error.NoMemory → IsCycled told rose t bytes x
cycled_there told rose t bytes root c h x comes there = record {
  diagrams = diagrams_in c;
  has = record { project = c.project; keeps = h.keeps; links = c.links; types = c.types; plan = c.plan; checked = h.checked; are = refl };
  comes = subst (λ (n : Node-F Node Element). cycles.ComesTo told (rose t.ticks) n c.project (diagrams_in c) t x) (sym h.root_is) comes;
  there = there;
}

pub hears_later : (told same : List ℕ → Option (List ℕ)) → ((name : List ℕ) → told name ≡ same name) → (Became : List Heard → Type 0) (r : Run) (a : Answer)
    → HearsRun told Became r a → HearsRun same Became r a
hears_later told same e Became r a h = subst (λ (t : List ℕ → Option (List ℕ)). HearsRun t Became r a) (fun_ext e) h

-- what holds of a value, with what holds where there is one
pub both_ok : {A E : Type 0} (res : Result A E) (P : Type 0) (Q R : A → Type 0) → ((x : A) → P → Q x → R x) → OnOk res P → IfOk res Q → IfOk res R
both_ok (Ok x) P Q R f p q = f x p q
both_ok (Err e) P Q R f p q = q

pub match_weaker : {A E : Type 0} (res : Result A E) (P P' : A → Type 0) (Q Q' : E → Type 0) → ((x : A) → P x → P' x) → ((e : E) → Q e → Q' e) → MatchResult res P Q → MatchResult res P' Q'
match_weaker (Ok x) P P' Q Q' f g h = f x h
match_weaker (Err e) P P' Q Q' f g h = g e h
