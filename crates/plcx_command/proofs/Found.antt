-- What stands behind an answer, whatever the command is.
use Rattle.std.proofs.Common.{◌≡◌, ◌≢◌, ◌≤◌, ◌∙◌, ℕ, List, length, refl, sym, ap, subst, Option, Some, None}
use Rattle.std.specs.Prelude.{Result, Ok, Err}
use Rattle.plcx_io.specs.Told.{Tells}
use Rattle.plcx_types.specs.Limits.{max_file_bytes}
use Rattle.plcx_words.specs.Command.{Command, Run, TaskRun, Migration, check, compile, simulate, run, bench, cycle, migrate, report, cover}
use Rattle.plcx_model.specs.declared.broken.Broken as model
use Rattle.plcx_model.specs.declared.project.Project.{Project}
use Rattle.plcx_traced.specs.declared.error.RunError.{RunError}
use Rattle.plcx_text_run.specs.TextRuns as texts
use Rattle.plcx_text_run.specs.declared.running.TextRunError.{TextRunError}
use Rattle.plcx_text_run.specs.declared.running.TextRunError.TheVariants as text_error
use Rattle.plcx_cycle.specs.declared.error.CycleError.{CycleError}
use Rattle.plcx_migrate.specs.declared.migrating.Form.{Form}
use Rattle.plcx_migrate.specs.declared.migrating.Form.TheVariants.{Lines, Report}
use Rattle.plcx_bench.specs.Summary.{IsSummary}
use Rattle.plcx_command.specs.Answer.{Answer, output, refusal, usage_answer, read_answer, broken_answer}
use Rattle.plcx_command.specs.Causes.{Cause, of_run, of_text, of_cycle, of_migration, cause_refused, cause_line}
use Rattle.plcx_command.specs.Cycled.{IsCycled, answer_to_cycle}
use Rattle.plcx_command.specs.Headline.{project_file}
use Rattle.plcx_command.specs.Migrated.{NotMigrated, ComesTo, action_of, answer_to_migration}
use Rattle.plcx_command.specs.TextRun.{answer_to_text, text_refused, text_error_line}
use Rattle.plcx_command.specs.Says.{Says, SaysOver, fault, too_long, whole, file_of, Follows, Answers}
use Rattle.plcx_command.specs.Simulated.{RunForm, Trace, Coverage, run_action, IsSimulated, answer_to}
use Rattle.plcx_command.specs.Verdict as verdict
use Rattle.plcx_command.specs.Verdict.{Verdict, IsVerdict, FileVerdict, Keeps, TooLong, Within, Passed, Refused, at_byte}
use Rattle.plcx_command.specs.declared.line.ProjectFile.TheVariants.{First}

-- a file that is told has these bytes and no others
pub tells-same : (told : Option (List ℕ)) (bytes held : List ℕ) → told ≡ Some held → Tells told bytes → bytes ≡ held
tells-same told bytes held e t = (rw e at t)

-- a bench reads no file
pub no_file : (command : Option Command) (n : ℕ) (name : List ℕ) → command ≡ Some (bench n) → project_file command ≡ Some name → ⊥
no_file command n name is p = let none : None ≡ Some name = sym (ap project_file is) ∙ p in cc

module _ (told : List ℕ → Option (List ℕ)) (rose : List ℕ → Type 0) where
  -- a file that is accepted, and what the action answers to it
  pub record IsFollowed (c : Command) (name : List ℕ) (a : Answer) : Type 0 where
    pub bytes : List ℕ
    pub short : length bytes ≤ max_file_bytes
    pub tells : Tells (told name) bytes
    pub project : Project
    pub keeps : Keeps bytes project
    pub follows : Follows told rose c bytes a

  pub data Found (command : Option Command) (a : Answer) : Type 0 where
    faulty : command ≡ None → a ≡ usage_answer → Found command a
    measured : (n : ℕ) → command ≡ Some (bench n) → (text : List ℕ) → IsSummary n text → a ≡ output text → Found command a
    unread : (name : List ℕ) → project_file command ≡ Some name → rose name → a ≡ read_answer name → Found command a
    breaks : (b : model.Broken) (name : List ℕ) → project_file command ≡ Some name
        → ((bytes : List ℕ) → told name ≡ Some bytes → FileVerdict bytes (verdict.Broken b)) → a ≡ broken_answer First b → Found command a
    traced : (r : Run) → command ≡ Some (run r) → (text : List ℕ) → texts.ComesTo told rose r (Ok text) → a ≡ output text → Found command a
    stopped : (r : Run) → command ≡ Some (run r) → (e : TextRunError) → texts.ComesTo told rose r (Err e) → e ≢ text_error.NoMemory
        → a ≡ refusal (text_refused e) (text_error_line r e) → Found command a
    accepts : (c : Command) → command ≡ Some c → (name : List ℕ) → project_file command ≡ Some name → IsFollowed c name a → Found command a

  found-over : (c : Command) (name : List ℕ) (a : Answer) → file_of c ≡ Some name → SaysOver told rose name c a → Found (Some c) a
  found-over c name a e (fault r h) = unread name e r h
  found-over c name a e (too_long l h) = breaks (at_byte 7 max_file_bytes) name e (λ bytes k. TooLong (rw k at l)) h
  found-over c name a e (whole bytes short tells j) = by j.verdict j.judged j.answers
    where
      by : (v : Verdict) → IsVerdict bytes v → Answers First (Follows told rose c bytes) v a → Found (Some c) a
      by _ (Passed project keeps) n = accepts c refl name e (record { bytes = bytes; short = short; tells = tells; project = project; keeps = keeps; follows = n })
      by _ (Refused {b} h) n = breaks b name e (λ held k. subst (λ (x : List ℕ). FileVerdict x (verdict.Broken b)) (tells-same (told name) bytes held k tells) (Within short (Refused h))) n

  found-text : (r : Run) (a : Answer) (x : Result (List ℕ) TextRunError) → texts.ComesTo told rose r x → x ≢ Err text_error.NoMemory → a ≡ answer_to_text r x → Found (Some (run r)) a
  found-text r a (Ok text) h there e = traced r refl text h e
  found-text r a (Err f) h there e = stopped r refl f h (λ same. there (ap Err same)) e

  pub found : (command : Option Command) (a : Answer) → Says told rose command a → Found command a
  found None a e = faulty refl e
  found (Some (check name)) a h = found-over (check name) name a refl h
  found (Some (compile name)) a h = found-over (compile name) name a refl h
  found (Some (simulate r)) a h = found-over (simulate r) r.file a refl h
  found (Some (run r)) a h = found-text r a h.outcome h.comes h.there h.answer
  found (Some (bench n)) a h = measured n refl h.text h.is h.answer
  found (Some (cycle t)) a h = found-over (cycle t) t.file a refl h
  found (Some (migrate m)) a h = found-over (migrate m) m.old a refl h
  found (Some (report m)) a h = found-over (report m) m.old a refl h
  found (Some (cover r)) a h = found-over (cover r) r.file a refl h

  -- the cause to which the run or the migration of an accepted file comes
  abbrev pub IsCauseOver : Command → List ℕ → Cause → Type 0
  IsCauseOver c bytes (of_run form r e) = (c ≡ run_action form r) × IsSimulated told rose form r bytes (Err e)
  IsCauseOver c bytes (of_text r e) = ⊥
  IsCauseOver c bytes (of_cycle t e) = (c ≡ cycle t) × IsCycled told rose t bytes (Err e)
  IsCauseOver c bytes (of_migration form m e) = (c ≡ action_of form m) × ComesTo told rose form m bytes (Err e)

  -- what an action answers to a file that is accepted: an output, or the refusal for a cause
  pub data Kind (c : Command) (bytes : List ℕ) (a : Answer) : Type 0 where
    gives : (text : List ℕ) → a ≡ output text → Kind c bytes a
    refuses : (cause : Cause) → IsCauseOver c bytes cause → a ≡ refusal (cause_refused cause) (cause_line cause) → Kind c bytes a

  simulated-kind : (form : RunForm) (r : Run) (bytes : List ℕ) (a : Answer) (x : Result (List ℕ) RunError) → IsSimulated told rose form r bytes x → a ≡ answer_to r x
      → Kind (run_action form r) bytes a
  simulated-kind form r bytes a (Ok text) s e = gives text e
  simulated-kind form r bytes a (Err f) s e = refuses (of_run form r f) (refl, s) e

  cycled-kind : (t : TaskRun) (bytes : List ℕ) (a : Answer) (x : Result (List ℕ) CycleError) → IsCycled told rose t bytes x → a ≡ answer_to_cycle t x → Kind (cycle t) bytes a
  cycled-kind t bytes a (Ok text) h e = gives text e
  cycled-kind t bytes a (Err f) h e = refuses (of_cycle t f) (refl, h) e

  migrated-kind : (form : Form) (m : Migration) (bytes : List ℕ) (a : Answer) (x : Result (List ℕ) NotMigrated) → ComesTo told rose form m bytes x → a ≡ answer_to_migration m x
      → Kind (action_of form m) bytes a
  migrated-kind form m bytes a (Ok text) h e = gives text e
  migrated-kind form m bytes a (Err f) h e = refuses (of_migration form m f) (refl, h) e

  pub kind : (c : Command) (bytes : List ℕ) (a : Answer) → Follows told rose c bytes a → Kind c bytes a
  kind (check name) bytes a h = gives _ h
  kind (compile name) bytes a h = gives h.text h.answer
  kind (simulate r) bytes a h = simulated-kind Trace r bytes a h.outcome h.simulated h.answer
  kind (run r) bytes a h = absurd h
  kind (bench n) bytes a h = absurd h
  kind (cycle t) bytes a h = cycled-kind t bytes a h.outcome h.cycled h.answer
  kind (migrate m) bytes a h = migrated-kind Lines m bytes a h.outcome h.comes h.answer
  kind (report m) bytes a h = migrated-kind Report m bytes a h.outcome h.comes h.answer
  kind (cover r) bytes a h = simulated-kind Coverage r bytes a h.outcome h.simulated h.answer
