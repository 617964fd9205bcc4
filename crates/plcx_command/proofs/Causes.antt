-- What an action that comes to a cause, or can be done, was answered for.
use Rattle.std.proofs.Common.{◌≡◌, ◌≢◌, ◌∙◌, ◌≤◌, ℕ, List, length, refl, sym, ap, subst, inl, inr, Option, Some, None}
use Rattle.std.specs.Prelude.{Result, Ok, Err}
use Rattle.plcx_io.specs.Told.{Tells}
use Rattle.plcx_types.specs.Limits.{max_file_bytes}
use Rattle.plcx_meaning.specs.Diagram.{Project}
use Rattle.plcx_meaning.specs.Evaluate.{Heard}
use Rattle.plcx_words.specs.Command.{Command, Run, TaskRun, Migration, check, compile, simulate, run, bench, cycle, migrate, report, cover}
use Rattle.plcx_model.specs.declared.broken.Broken as model
use Rattle.plcx_traced.specs.declared.error.RunError.TheVariants as error
use Rattle.plcx_text_run.specs.declared.running.TextRunError.{TextRunError}
use Rattle.plcx_text_run.specs.declared.running.TextRunError.TheVariants as text_error
use Rattle.plcx_cycle.specs.declared.error.CycleError.TheVariants as cycle_error
use Rattle.plcx_migrate.specs.declared.error.MigrateError.TheVariants as values
use Rattle.plcx_migrate.specs.declared.migrating.Form.{Form}
use Rattle.plcx_migrate.specs.declared.migrating.Form.TheVariants.{Lines, Report}
use Rattle.plcx_command.specs.Answer.{Answer, output, refusal, broken_line}
use Rattle.plcx_command.specs.Causes.{Cause, of_run, of_text, of_cycle, of_migration, Stops, Comes, cause_refused, cause_line}
use Rattle.plcx_command.specs.Compiled.{HasDiagrams}
use Rattle.plcx_command.specs.Ends.{Ends, Change, Written, Gets}
use Rattle.plcx_command.specs.Headline.{IsDefined, project_file, IsSource, Reads, Never, IsTold, TellsSources, TellsAll, IsFine, IsJudged, IsBroken, RefusesBroken, RefusesFor, IsComplete}
use Rattle.plcx_command.specs.Migrated as migrated
use Rattle.plcx_command.specs.Migrated.{NotMigrated, OldProgram, NewRead, NewBroken, NewProgram, RetainedRead, Line, action_of, answer_to_migration, migration_refused, AnswersMigration, Migrates}
use Rattle.plcx_command.specs.Refused.{status_of}
use Rattle.plcx_command.specs.Says.{file_of}
use Rattle.plcx_command.specs.Simulated.{RunForm, Trace, Coverage, run_action, Simulates, AnswersRun, answer_to}
use Rattle.plcx_command.specs.TextRun.{answer_to_text, text_refused, text_error_line}
use Rattle.plcx_command.specs.Verdict as verdict
use Rattle.plcx_command.specs.Verdict.{Verdict, FileVerdict}
use Rattle.plcx_command.specs.declared.line.ProjectFile.{ProjectFile}
use Rattle.plcx_command.specs.declared.line.ProjectFile.TheVariants.{First, New}
use Rattle.plcx_command.specs.declared.status.Refused.{Refused}
use Rattle.plcx_command.specs.declared.status.Refused.TheVariants as why'
use Rattle.plcx_command.specs.declared.status.Status.{Status}
use Rattle.plcx_command.specs.declared.status.Status.TheVariants as status
use Rattle.plcx_command.proofs.Forms.{OneRun, MissingRun, file_of_run, reads_file}
use Rattle.plcx_command.proofs.Found.{tells-same, no_file, IsFollowed, Found, faulty, measured, unread, breaks, traced, stopped, accepts, found, IsCauseOver, gives, refuses, kind}
use Rattle.plcx_command.proofs.Laws.{IsAnswered, answered, found-refusal, accepted-verdict, cause-comes, cause-stops, file_of_action, no_project}
use Rattle.plcx_command.proofs.Migrations.{one_migrated, one_early, IsEarly, migrates_accepted, outcome_there, reads_old, reads_new, reads_retained}
use Rattle.plcx_command.proofs.Migrations as migrations
use Rattle.plcx_command.proofs.Simulations.{calm, missing_alone, one_simulated, quiet-run, run_outcome, simulates-accepted}
use Rattle.plcx_command.proofs.Cycles.{OneTree, OneCycle, NoPlan, calm_cycle, cycle_outcome, cycles-accepted, fine_cycle, same_cycle, tasks_alone}
use Rattle.plcx_command.proofs.TextRuns.{OneText, BrokenAlone, MissingAlone, reads_text, text-calm, text_outcome, same_outcome, quiet_trace}
use Rattle.plcx_command.proofs.Statuses.{status_for, IsRefusedBy, refused, output-whole, memory-whole}

-- the project file that is read first is read
first-read : (command : Option Command) (name : List ℕ) → project_file command ≡ Some name → Reads command name
first-read None name p = absurd (cc)
first-read (Some (check n)) name p = cc
first-read (Some (compile n)) name p = cc
first-read (Some (simulate r)) name p = inl (cc)
first-read (Some (run r)) name p = absurd (cc)
first-read (Some (bench n)) name p = absurd (cc)
first-read (Some (cycle t)) name p = inl (cc)
first-read (Some (migrate m)) name p = inl (cc)
first-read (Some (report m)) name p = inl (cc)
first-read (Some (cover r)) name p = inl (cc)

-- and so is each project file
project-read : (command : Option Command) (name : List ℕ) → IsSource command name → Reads command name
project-read command name (inl p) = first-read command name p
project-read command name (inr (inl h)) = subst (λ (c : Option Command). Reads c name) (sym h.2) (subst (λ (n : List ℕ). Reads (Some (action_of h.0 h.1)) n) h.3 (reads_new h.0 h.1))
project-read command name (inr (inr h)) = subst (λ (c : Option Command). Reads c name) (sym h.1) (subst (λ (n : List ℕ). Reads (Some (run h.0)) n) h.2 (reads_text h.0))

-- where all files are told, the project files are
pub all_project : (told : List ℕ → Option (List ℕ)) (command : Option Command) → TellsAll told command → TellsSources told command
all_project told command all name is = all name (project-read command name is)

-- these come before the retained file is read
old_early : (n : ℕ) → IsEarly (Err (OldProgram n))
old_early n (Ok text) e = cc
old_early n (Err values.RetainedRead) e = cc
old_early n (Err (values.Line k)) e = cc
old_early n (Err values.NoMemory) e = cc

new_early : (n : ℕ) → IsEarly (Err (NewProgram n))
new_early n (Ok text) e = cc
new_early n (Err values.RetainedRead) e = cc
new_early n (Err (values.Line k)) e = cc
new_early n (Err values.NoMemory) e = cc

broken_early : (b : model.Broken) → IsEarly (Err (NewBroken b))
broken_early b (Ok text) e = cc
broken_early b (Err values.RetainedRead) e = cc
broken_early b (Err (values.Line k)) e = cc
broken_early b (Err values.NoMemory) e = cc

module _ (one_verdict : (bytes : List ℕ) (v w : Verdict) → FileVerdict bytes v → FileVerdict bytes w → v ≡ w)
    (one_list : (bytes : List ℕ) (a b : Project) → HasDiagrams bytes a → HasDiagrams bytes b → a ≡ b)
    (one_outcome : OneRun) (missing : MissingRun) (one_text : OneText) (broken_text : BrokenAlone) (missing_text : MissingAlone)
    (one_tree : OneTree) (one_cycle : OneCycle) (no_plan : NoPlan)
    (told : List ℕ → Option (List ℕ)) (rose : List ℕ → Type 0) (Became : List Heard → Type 0) where
  -- the files of a migration
  migration_old : (form : Form) (m : Migration) (command : Option Command) → command ≡ Some (action_of form m) → TellsSources told command → IsTold told m.old
  migration_old form m command is k = k m.old (inl (ap project_file is ∙ file_of_action form m))

  migration_new : (form : Form) (m : Migration) (command : Option Command) → command ≡ Some (action_of form m) → TellsSources told command → IsTold told m.new
  migration_new form m command is k = k m.new (inr (inl (form, m, is, refl)))

  -- and that of a text
  text_file : (r : Run) (command : Option Command) → command ≡ Some (run r) → TellsSources told command → IsTold told r.file
  text_file r command is k = k r.file (inr (inr (r, is, refl)))

  -- a migration that is refused before the retained file is read was answered so
  early_settles : (form : Form) (m : Migration) (command : Option Command) (a : Answer) (s : Status) → command ≡ Some (action_of form m) → TellsSources told command → IsDefined s
      → IsAnswered one_verdict told rose Became command a s → (e : NotMigrated) → IsEarly (Err e) → Migrates told Never form m (Err e) → s ≡ status_of (migration_refused e)
  early_settles form m command a s is k d answer e early h =
      let o = outcome_there one_verdict one_list told rose Became form m command a s (Err e) is (migration_old form m command is k) d answer h in
      answer.status
      ∙ ap status_for o.answer
      ∙ ap (λ x. status_for (answer_to_migration m x)) (one_early one_verdict one_list told form m (migration_new form m command is k) o.outcome (Err e) early o.migrates h)

  -- ---- broken rules

  -- the line of a broken rule
  data IsBrokenLine (command : Option Command) (line : List ℕ) : Type 0 where
    of_first : (b : model.Broken) → line ≡ broken_line First b → (name : List ℕ) → project_file command ≡ Some name
        → ((bytes : List ℕ) → told name ≡ Some bytes → FileVerdict bytes (verdict.Broken b)) → IsBrokenLine command line
    of_new : (form : Form) (m : Migration) (b : model.Broken) → line ≡ broken_line New b → command ≡ Some (action_of form m)
        → (TellsSources told command → Migrates told Never form m (Err (NewBroken b))) → IsBrokenLine command line

  cause-broken : (command : Option Command) (c : Command) → command ≡ Some c → (name : List ℕ) → project_file command ≡ Some name → (a : Answer) (f : IsFollowed told rose c name a) (line : List ℕ)
      (x : Cause) → cause_refused x ≡ why'.Broken → line ≡ cause_line x → IsCauseOver told rose c f.bytes x → IsBrokenLine command line
  cause-broken command c n name p a f line (of_run form r (error.NoProgram k)) w is i = absurd (cc)
  cause-broken command c n name p a f line (of_run form r error.RetainedRead) w is i = absurd (cc)
  cause-broken command c n name p a f line (of_run form r (error.Line k)) w is i = absurd (cc)
  cause-broken command c n name p a f line (of_run form r error.EventsRead) w is i = absurd (cc)
  cause-broken command c n name p a f line (of_run form r (error.Row k)) w is i = absurd (cc)
  cause-broken command c n name p a f line (of_run form r error.NoMemory) w is i = absurd (cc)
  cause-broken command c n name p a f line (of_text r e) w is i = absurd i
  cause-broken command c n name p a f line (of_cycle t (cycle_error.Tasks kind at)) w is i = absurd (cc)
  cause-broken command c n name p a f line (of_cycle t cycle_error.TicksRead) w is i = absurd (cc)
  cause-broken command c n name p a f line (of_cycle t (cycle_error.Row k)) w is i = absurd (cc)
  cause-broken command c n name p a f line (of_cycle t cycle_error.NoMemory) w is i = absurd (cc)
  cause-broken command c n name p a f line (of_migration form m (OldProgram k)) w is i = absurd (cc)
  cause-broken command c n name p a f line (of_migration form m NewRead) w is i = absurd (cc)
  cause-broken command c n name p a f line (of_migration form m (NewBroken b)) w is i =
      of_new form m b is (n ∙ ap Some i.0) (λ k. cause-comes one_verdict told rose Became Never command c n name p a f (of_migration form m (NewBroken b)) i k)
  cause-broken command c n name p a f line (of_migration form m (NewProgram k)) w is i = absurd (cc)
  cause-broken command c n name p a f line (of_migration form m RetainedRead) w is i = absurd (cc)
  cause-broken command c n name p a f line (of_migration form m (Line k)) w is i = absurd (cc)

  -- no text breaks a rule
  text-unbroken : (e : TextRunError) → text_refused e ≡ why'.Broken → ⊥
  text-unbroken text_error.TextRead w = cc
  text-unbroken (text_error.TextBroken b) w = cc
  text-unbroken (text_error.NotRun (error.NoProgram n)) w = cc
  text-unbroken (text_error.NotRun error.RetainedRead) w = cc
  text-unbroken (text_error.NotRun (error.Line n)) w = cc
  text-unbroken (text_error.NotRun error.EventsRead) w = cc
  text-unbroken (text_error.NotRun (error.Row n)) w = cc
  text-unbroken (text_error.NotRun error.NoMemory) w = cc
  text-unbroken text_error.NoMemory w = cc

  broken-found : (command : Option Command) (a : Answer) (line : List ℕ) → a ≡ refusal why'.Broken line → Found told rose command a → IsBrokenLine command line
  broken-found command a line is (faulty n e) = absurd (cc)
  broken-found command a line is (measured n m text h e) = absurd (cc)
  broken-found command a line is (unread name p r e) = absurd (cc)
  broken-found command a line is (breaks b name p v e) = of_first b (cc) name p v
  broken-found command a line is (traced r n text h e) = absurd (cc)
  broken-found command a line is (stopped r n x h m e) = let same : text_refused x ≡ why'.Broken = cc in absurd (text-unbroken x same)
  broken-found command a line is (accepts c n name p f) = elim (kind told rose c f.bytes a f.follows) [
    | gives text e ↦ absurd (cc)
    | refuses x i e ↦
        let same : cause_refused x ≡ why'.Broken = cc in
        let text : line ≡ cause_line x = cc in
        cause-broken command c n name p a f line x same text i
  ]

  -- what such a line tells
  record IsTelling (command : Option Command) (line : List ℕ) : Type 0 where
    file : ProjectFile
    broken : model.Broken
    is : TellsSources told command → IsBroken told command file broken
    line_is : line ≡ broken_line file broken

  telling : (command : Option Command) (line : List ℕ) → IsBrokenLine command line → IsTelling command line
  telling command line (of_first b is name p v) = record {
    file = First;
    broken = b;
    is = λ k. let held = k name (inl p) in record { name = name; bytes = held.0; reads = p; tells = held.1; judged = v held.0 held.1 };
    line_is = is;
  }
  telling command line (of_new form m b is asks comes) = record { file = New; broken = b; is = λ k. (form, m, asks, comes k); line_is = is }

  judged-broken : (command : Option Command) (a : Answer) (s : Status) (b : model.Broken) → IsDefined s → s ≡ status_for a → IsJudged told command (verdict.Broken b)
      → Found told rose command a → s ≡ status.Broken
  judged-broken command a s b d st j (faulty n e) = let p = j.reads in absurd (cc)
  judged-broken command a s b d st j (measured n m text h e) = absurd (no_file command n j.name m j.reads)
  judged-broken command a s b d st j (unread name p r e) = absurd (subst IsDefined (st ∙ ap status_for e) d)
  judged-broken command a s b d st j (breaks b' name p v e) = st ∙ ap status_for e
  judged-broken command a s b d st j (traced r n text h e) = absurd (no_project command r j.name n j.reads)
  judged-broken command a s b d st j (stopped r n x h m e) = absurd (no_project command r j.name n j.reads)
  judged-broken command a s b d st j (accepts c n name p f) =
      let q = j.reads in
      let same : name ≡ j.name = cc in
      let accepted = accepted-verdict one_verdict told rose Became c name j.bytes a (ap told same ∙ j.tells) f in
      let both : verdict.Accepted ≡ verdict.Broken b = one_verdict j.bytes verdict.Accepted (verdict.Broken b) accepted j.judged in
      absurd (cc)

  broken-status : (command : Option Command) (a : Answer) (s : Status) → TellsSources told command → IsDefined s → IsAnswered one_verdict told rose Became command a s
      → (file : ProjectFile) (b : model.Broken) → IsBroken told command file b → s ≡ status.Broken
  broken-status command a s k d answer First b h = judged-broken command a s b d answer.status h answer.found
  broken-status command a s k d answer New b h = early_settles h.0 h.1 command a s h.2 k d answer (NewBroken b) (broken_early b) h.3

  pub refuses_broken : (command : Option Command) (s : Status) (out err : Change) → Ends told rose Became command s out err → RefusesBroken told command s out err
  refuses_broken command s out err ends = (
    (λ k d. (
      (λ e. let t = line e in (t.file, t.broken, t.is k)),
      (λ h. broken-status command ends.answer s k d (answered one_verdict told rose Became command s out err d ends) h.0 h.1 h.2),
    )),
    (λ e. let t = line e in (t.file, t.broken, t.is, subst (Gets err) t.line_is (of e).gets, (of e).quiet)),
  )
    where
      of : s ≡ status.Broken → IsRefusedBy why'.Broken ends.answer out err
      of e = refused why'.Broken ends.answer s out err e ends.written

      line : (e : s ≡ status.Broken) → IsTelling command (of e).line
      line e =
          telling command (of e).line
          (broken-found command ends.answer (of e).line (of e).is (found-refusal one_verdict told rose Became why'.Broken command ends.answer (of e).line (λ x. cc) (of e).is ends.said))

  -- ---- other refusals of runs and migrations

  -- a cause whose status is defined came without a fault
  cause-calm : (c : Command) (bytes : List ℕ) (x : Cause) → IsDefined (status_of (cause_refused x)) → IsCauseOver told rose c bytes x → IsCauseOver told Never c bytes x
  cause-calm c bytes (of_run form r e) d i =
      (i.0, record { diagrams = i.1.diagrams; has = i.1.has; comes = calm one_verdict one_list one_outcome missing told rose Became form i.1.diagrams r (Err e) d i.1.comes; there = i.1.there })
  cause-calm c bytes (of_text r e) d i = absurd i
  cause-calm c bytes (of_cycle t e) d i = (i.0, calm_cycle one_verdict told rose Became t bytes e d i.1)
  cause-calm c bytes (of_migration form m e) d i = (i.0, migrations.calm one_verdict one_list told rose Became form m bytes (Err e) d i.1)

  record IsRefusal (why : Refused) (command : Option Command) (line : List ℕ) : Type 0 where
    cause : Cause
    why_is : cause_refused cause ≡ why
    stops : Stops command cause
    line_is : line ≡ cause_line cause
    comes : TellsSources told command → Comes told Never cause

  refusal-found : (why : Refused) → IsDefined (status_of why) → (command : Option Command) (a : Answer) (line : List ℕ) → a ≡ refusal why line → why ≢ why'.Usage
      → why ≢ why'.Broken → Found told rose command a
      → IsRefusal why command line
  refusal-found why d command a line is u b (faulty m e) = absurd (u (cc))
  refusal-found why d command a line is u b (measured n m text h e) = absurd (cc)
  refusal-found why d command a line is u b (unread name p r e) = let same : why ≡ why'.ReadFault = cc in absurd (subst (λ y. IsDefined (status_of y)) same d)
  refusal-found why d command a line is u b (breaks x name p v e) = absurd (b (cc))
  refusal-found why d command a line is u b (traced r m text h e) = absurd (cc)
  refusal-found why d command a line is u b (stopped r m x h t e) =
      let why_is : text_refused x ≡ why = cc in
      let text : line ≡ text_error_line r x = cc in
      record {
        cause = of_text r x;
        why_is = why_is;
        stops = m;
        line_is = text;
        comes = λ k. text-calm one_verdict told rose Became r (Err x) (subst (λ y. IsDefined (status_of y)) (sym why_is) d) h;
      }
  refusal-found why d command a line is u b (accepts c m name p f) = elim (kind told rose c f.bytes a f.follows) [
    | gives text e ↦ absurd (cc)
    | refuses x i e ↦
        let why_is : cause_refused x ≡ why = cc in
        let text : line ≡ cause_line x = cc in
        record {
          cause = x;
          why_is = why_is;
          stops = cause-stops one_verdict told rose Became command c m rose f.bytes x i;
          line_is = text;
          comes = λ k. cause-comes one_verdict told rose Became Never command c m name p a f x (cause-calm c f.bytes x (subst (λ y. IsDefined (status_of y)) (sym why_is) d) i) k;
        }
  ]

  -- where such a cause stands, the answer is of its kind
  abbrev Settles : Refused → Type 0 → Option Command → Type 0
  Settles why Tells command = Tells → (c : Cause) → cause_refused c ≡ why → Stops command c → Comes told Never c → (a : Answer) (s : Status) → IsDefined s
      → IsAnswered one_verdict told rose Became command a s → s ≡ status_of why

  pub program_settles : (command : Option Command) → Settles why'.NoProgram (TellsSources told command) command
  program_settles command k (of_run form r (error.NoProgram n)) w is h a s d answer =
      let o = run_outcome one_verdict one_list one_outcome missing told rose Became form r command a s (Err (error.NoProgram n)) is (k r.file (inl (ap project_file is ∙ file_of_run form r))) d answer h in
      answer.status ∙ ap status_for o.answer ∙ ap (λ y. status_for (answer_to r y)) (missing_alone one_verdict one_list one_outcome missing told rose Became form r n o.outcome o.simulates h).1
  program_settles command k (of_run form r error.RetainedRead) w is h a s d answer = absurd (cc)
  program_settles command k (of_run form r (error.Line n)) w is h a s d answer = absurd (cc)
  program_settles command k (of_run form r error.EventsRead) w is h a s d answer = absurd (cc)
  program_settles command k (of_run form r (error.Row n)) w is h a s d answer = absurd (cc)
  program_settles command k (of_run form r error.NoMemory) w is h a s d answer = absurd (cc)
  program_settles command k (of_text r text_error.TextRead) w is h a s d answer = absurd (cc)
  program_settles command k (of_text r (text_error.TextBroken b)) w is h a s d answer = absurd (cc)
  program_settles command k (of_text r (text_error.NotRun (error.NoProgram n))) w is h a s d answer =
      let o = text_outcome one_verdict told rose Became command r is a s d answer in
      let file = text_file r command is k in
      answer.status ∙ ap status_for o.answer ∙ ap (λ y. status_for (answer_to_text r y)) (missing_text told r file.0 file.1 h.0 h.1.1 o.outcome o.there o.comes).1
  program_settles command k (of_text r (text_error.NotRun error.RetainedRead)) w is h a s d answer = absurd (cc)
  program_settles command k (of_text r (text_error.NotRun (error.Line n))) w is h a s d answer = absurd (cc)
  program_settles command k (of_text r (text_error.NotRun error.EventsRead)) w is h a s d answer = absurd (cc)
  program_settles command k (of_text r (text_error.NotRun (error.Row n))) w is h a s d answer = absurd (cc)
  program_settles command k (of_text r (text_error.NotRun error.NoMemory)) w is h a s d answer = absurd (cc)
  program_settles command k (of_text r text_error.NoMemory) w is h a s d answer = absurd (cc)
  program_settles command k (of_cycle t (cycle_error.Tasks kind at)) w is h a s d answer = absurd (cc)
  program_settles command k (of_cycle t cycle_error.TicksRead) w is h a s d answer = absurd (cc)
  program_settles command k (of_cycle t (cycle_error.Row n)) w is h a s d answer = absurd (cc)
  program_settles command k (of_cycle t cycle_error.NoMemory) w is h a s d answer = absurd (cc)
  program_settles command k (of_migration form m (OldProgram n)) w is h a s d answer = early_settles form m command a s is k d answer (OldProgram n) (old_early n) h
  program_settles command k (of_migration form m NewRead) w is h a s d answer = absurd (cc)
  program_settles command k (of_migration form m (NewBroken b)) w is h a s d answer = absurd (cc)
  program_settles command k (of_migration form m (NewProgram n)) w is h a s d answer = early_settles form m command a s is k d answer (NewProgram n) (new_early n) h
  program_settles command k (of_migration form m RetainedRead) w is h a s d answer = absurd (cc)
  program_settles command k (of_migration form m (Line n)) w is h a s d answer = absurd (cc)

  -- want of memory is none of the causes that come of the files
  text-lasting : (e : TextRunError) → text_refused e ≡ why'.EventsBroken → e ≡ text_error.NoMemory → ⊥
  text-lasting e w is = let memory : why'.NoMemory ≡ why'.EventsBroken = ap text_refused (sym is) ∙ w in cc

  pub files_settle : (command : Option Command) → Settles why'.EventsBroken (TellsAll told command) command
  files_settle command k (of_run form r e) w is h a s d answer =
      let all = subst (λ (c : Option Command). TellsAll told c) is k in
      let o = run_outcome one_verdict one_list one_outcome missing told rose Became form r command a s (Err e) is (all r.file (reads_file form r)) d answer h in
      answer.status
      ∙ ap status_for o.answer
      ∙ ap (λ y. status_for (answer_to r y)) (one_simulated one_verdict one_list one_outcome missing told rose Became form r all o.outcome (Err e) o.simulates h)
      ∙ ap status_of w
  files_settle command k (of_text r e) w is h a s d answer =
      same_outcome one_verdict told rose Became one_text command r is k a s d answer (Err e) (λ same. let own : e ≡ text_error.NoMemory = cc in text-lasting e w own) h ∙ ap status_of w
  files_settle command k (of_cycle t e) w is h a s d answer = same_cycle one_verdict told rose Became t one_tree one_list one_cycle command is k a s d answer (Err e) h ∙ ap status_of w
  files_settle command k (of_migration form m e) w is h a s d answer =
      let all = subst (λ (c : Option Command). TellsAll told c) is k in
      let o = outcome_there one_verdict one_list told rose Became form m command a s (Err e) is (all m.old (reads_old form m)) d answer h in
      answer.status
      ∙ ap status_for o.answer
      ∙ ap (λ x. status_for (answer_to_migration m x)) (one_migrated one_verdict one_list told form m (all m.new (reads_new form m)) (all m.retain (reads_retained form m)) o.outcome (Err e) o.migrates h)
      ∙ ap status_of w

  pub text_settles : (command : Option Command) → Settles why'.TextBroken (TellsSources told command) command
  text_settles command k (of_run form r (error.NoProgram n)) w is h a s d answer = absurd (cc)
  text_settles command k (of_run form r error.RetainedRead) w is h a s d answer = absurd (cc)
  text_settles command k (of_run form r (error.Line n)) w is h a s d answer = absurd (cc)
  text_settles command k (of_run form r error.EventsRead) w is h a s d answer = absurd (cc)
  text_settles command k (of_run form r (error.Row n)) w is h a s d answer = absurd (cc)
  text_settles command k (of_run form r error.NoMemory) w is h a s d answer = absurd (cc)
  text_settles command k (of_text r text_error.TextRead) w is h a s d answer = absurd (cc)
  text_settles command k (of_text r (text_error.TextBroken b)) w is h a s d answer =
      let o = text_outcome one_verdict told rose Became command r is a s d answer in
      let file = text_file r command is k in
      answer.status ∙ ap status_for o.answer ∙ ap (λ y. status_for (answer_to_text r y)) (broken_text told r file.0 file.1 b h o.outcome o.there o.comes)
  text_settles command k (of_text r (text_error.NotRun (error.NoProgram n))) w is h a s d answer = absurd (cc)
  text_settles command k (of_text r (text_error.NotRun error.RetainedRead)) w is h a s d answer = absurd (cc)
  text_settles command k (of_text r (text_error.NotRun (error.Line n))) w is h a s d answer = absurd (cc)
  text_settles command k (of_text r (text_error.NotRun error.EventsRead)) w is h a s d answer = absurd (cc)
  text_settles command k (of_text r (text_error.NotRun (error.Row n))) w is h a s d answer = absurd (cc)
  text_settles command k (of_text r (text_error.NotRun error.NoMemory)) w is h a s d answer = absurd (cc)
  text_settles command k (of_text r text_error.NoMemory) w is h a s d answer = absurd (cc)
  text_settles command k (of_cycle t (cycle_error.Tasks kind at)) w is h a s d answer = absurd (cc)
  text_settles command k (of_cycle t cycle_error.TicksRead) w is h a s d answer = absurd (cc)
  text_settles command k (of_cycle t (cycle_error.Row n)) w is h a s d answer = absurd (cc)
  text_settles command k (of_cycle t cycle_error.NoMemory) w is h a s d answer = absurd (cc)
  text_settles command k (of_migration form m (OldProgram n)) w is h a s d answer = absurd (cc)
  text_settles command k (of_migration form m NewRead) w is h a s d answer = absurd (cc)
  text_settles command k (of_migration form m (NewBroken b)) w is h a s d answer = absurd (cc)
  text_settles command k (of_migration form m (NewProgram n)) w is h a s d answer = absurd (cc)
  text_settles command k (of_migration form m RetainedRead) w is h a s d answer = absurd (cc)
  text_settles command k (of_migration form m (Line n)) w is h a s d answer = absurd (cc)

  -- the file of a run of tasks
  tasks_file : (t : TaskRun) (command : Option Command) → command ≡ Some (cycle t) → TellsSources told command → IsTold told t.file
  tasks_file t command is k = k t.file (inl (ap project_file is))

  pub tasks_settle : (command : Option Command) → Settles why'.TasksBroken (TellsSources told command) command
  tasks_settle command k (of_run form r (error.NoProgram n)) w is h a s d answer = absurd (cc)
  tasks_settle command k (of_run form r error.RetainedRead) w is h a s d answer = absurd (cc)
  tasks_settle command k (of_run form r (error.Line n)) w is h a s d answer = absurd (cc)
  tasks_settle command k (of_run form r error.EventsRead) w is h a s d answer = absurd (cc)
  tasks_settle command k (of_run form r (error.Row n)) w is h a s d answer = absurd (cc)
  tasks_settle command k (of_run form r error.NoMemory) w is h a s d answer = absurd (cc)
  tasks_settle command k (of_text r text_error.TextRead) w is h a s d answer = absurd (cc)
  tasks_settle command k (of_text r (text_error.TextBroken b)) w is h a s d answer = absurd (cc)
  tasks_settle command k (of_text r (text_error.NotRun (error.NoProgram n))) w is h a s d answer = absurd (cc)
  tasks_settle command k (of_text r (text_error.NotRun error.RetainedRead)) w is h a s d answer = absurd (cc)
  tasks_settle command k (of_text r (text_error.NotRun (error.Line n))) w is h a s d answer = absurd (cc)
  tasks_settle command k (of_text r (text_error.NotRun error.EventsRead)) w is h a s d answer = absurd (cc)
  tasks_settle command k (of_text r (text_error.NotRun (error.Row n))) w is h a s d answer = absurd (cc)
  tasks_settle command k (of_text r (text_error.NotRun error.NoMemory)) w is h a s d answer = absurd (cc)
  tasks_settle command k (of_text r text_error.NoMemory) w is h a s d answer = absurd (cc)
  tasks_settle command k (of_cycle t (cycle_error.Tasks kind at)) w is h a s d answer =
      let o = cycle_outcome one_verdict told rose Became t command a s (Err (cycle_error.Tasks kind at)) is (tasks_file t command is k) d answer h in
      answer.status ∙ ap status_for o.answer ∙ tasks_alone one_tree one_list no_plan told t o.outcome kind at o.cycles h
  tasks_settle command k (of_cycle t cycle_error.TicksRead) w is h a s d answer = absurd (cc)
  tasks_settle command k (of_cycle t (cycle_error.Row n)) w is h a s d answer = absurd (cc)
  tasks_settle command k (of_cycle t cycle_error.NoMemory) w is h a s d answer = absurd (cc)
  tasks_settle command k (of_migration form m (OldProgram n)) w is h a s d answer = absurd (cc)
  tasks_settle command k (of_migration form m NewRead) w is h a s d answer = absurd (cc)
  tasks_settle command k (of_migration form m (NewBroken b)) w is h a s d answer = absurd (cc)
  tasks_settle command k (of_migration form m (NewProgram n)) w is h a s d answer = absurd (cc)
  tasks_settle command k (of_migration form m RetainedRead) w is h a s d answer = absurd (cc)
  tasks_settle command k (of_migration form m (Line n)) w is h a s d answer = absurd (cc)

  pub refuses_for : (why : Refused) (Tells : Type 0) → IsDefined (status_of why) → why ≢ why'.Usage → why ≢ why'.Broken → (command : Option Command)
      → (Tells → TellsSources told command) → Settles why Tells command
      → (s : Status) (out err : Change) → Ends told rose Became command s out err → RefusesFor why Tells told command s out err
  refuses_for why Tells dw u b command project settles s out err ends = (
    (λ k d. (
      (λ e. let l = line e in (l.cause, l.why_is, l.stops, l.comes (project k))),
      (λ h. settles k h.0 h.1 h.2 h.3 ends.answer s d (answered one_verdict told rose Became command s out err d ends)),
    )),
    (λ e. let l = line e in (l.cause, l.why_is, l.stops, (λ k. l.comes (project k)), subst (Gets err) l.line_is (of e).gets, (of e).quiet)),
  )
    where
      of : s ≡ status_of why → IsRefusedBy why ends.answer out err
      of e = refused why ends.answer s out err e ends.written

      line : (e : s ≡ status_of why) → IsRefusal why command (of e).line
      line e =
          refusal-found why dw command ends.answer (of e).line (of e).is u b
          (found-refusal one_verdict told rose Became why command ends.answer (of e).line (λ x. subst (λ y. IsDefined (status_of y)) x dw) (of e).is ends.said)

  -- ---- completeness

  fine-verdict : (command : Option Command) (name bytes : List ℕ) → IsFine told command → project_file command ≡ Some name → told name ≡ Some bytes → FileVerdict bytes verdict.Accepted
  fine-verdict None name bytes h p k = absurd h
  fine-verdict (Some (check n)) name bytes h p k =
      let same : n ≡ name = cc in
      let both : Some h.0 ≡ Some bytes = sym h.1 ∙ ap told same ∙ k in
      let own : h.0 ≡ bytes = cc in
      subst (λ (b : List ℕ). FileVerdict b verdict.Accepted) own h.2
  fine-verdict (Some (compile n)) name bytes h p k =
      let same : n ≡ name = cc in
      let both : Some h.0 ≡ Some bytes = sym h.1 ∙ ap told same ∙ k in
      let own : h.0 ≡ bytes = cc in
      subst (λ (b : List ℕ). FileVerdict b verdict.Accepted) own h.2
  fine-verdict (Some (simulate r)) name bytes h p k = let same : r.file ≡ name = cc in simulates-accepted one_verdict one_list one_outcome missing told rose Became Trace r (Ok h.0) bytes (ap told same ∙ k) h.1
  fine-verdict (Some (run r)) name bytes h p k = absurd (cc)
  fine-verdict (Some (bench n)) name bytes h p k = absurd (cc)
  fine-verdict (Some (cycle t)) name bytes h p k = let same : t.file ≡ name = cc in cycles-accepted one_verdict told rose Became t (Ok h.0) bytes (ap told same ∙ k) h.1
  fine-verdict (Some (migrate m)) name bytes h p k = let same : m.old ≡ name = cc in migrates_accepted one_verdict one_list told rose Became Lines m (Ok h.0) bytes (ap told same ∙ k) h.1
  fine-verdict (Some (report m)) name bytes h p k = let same : m.old ≡ name = cc in migrates_accepted one_verdict one_list told rose Became Report m (Ok h.0) bytes (ap told same ∙ k) h.1
  fine-verdict (Some (cover r)) name bytes h p k = let same : r.file ≡ name = cc in simulates-accepted one_verdict one_list one_outcome missing told rose Became Coverage r (Ok h.0) bytes (ap told same ∙ k) h.1

  -- a migration over files whose counts did not rise did not fail
  quiet-migration : (form : Form) (m : Migration) (bytes : List ℕ) (x : Result (List ℕ) NotMigrated) → ((name : List ℕ) → Reads (Some (action_of form m)) name → rose name → ⊥)
      → migrated.ComesTo told rose form m bytes x → migrated.ComesTo told Never form m bytes x
  quiet-migration form m bytes (Ok text) quiet h = h
  quiet-migration form m bytes (Err (OldProgram n)) quiet h = h
  quiet-migration form m bytes (Err NewRead) quiet h = absurd (quiet m.new (reads_new form m) h.1)
  quiet-migration form m bytes (Err (NewBroken b)) quiet h = h
  quiet-migration form m bytes (Err (NewProgram n)) quiet h = h
  quiet-migration form m bytes (Err RetainedRead) quiet h = absurd (quiet m.retain (reads_retained form m) h.1)
  quiet-migration form m bytes (Err (Line n)) quiet h = h

  fine-migration : (form : Form) (m : Migration) (bytes : List ℕ) (a : Answer) → length bytes ≤ max_file_bytes → Tells (told m.old) bytes → (text : List ℕ) → Migrates told Never form m (Ok text)
      → TellsAll told (Some (action_of form m)) → ((x : List ℕ) → Reads (Some (action_of form m)) x → rose x → ⊥) → AnswersMigration told rose form m bytes a → (out : List ℕ) × (a ≡ output out)
  fine-migration form m bytes a short tells text h all quiet follows =
      let held = all m.old (reads_old form m) in
      let own = tells-same (told m.old) bytes held.0 held.1 tells in
      let s : Migrates told Never form m follows.outcome = record {
        bytes = bytes;
        tells = held.1 ∙ ap Some (sym own);
        short = short;
        comes = quiet-migration form m bytes follows.outcome quiet follows.comes;
      } in (
        text,
        follows.answer
            ∙ ap (answer_to_migration m) (one_migrated one_verdict one_list told form m (all m.new (reads_new form m)) (all m.retain (reads_retained form m)) follows.outcome (Ok text) s h),
      )

  fine-run : (form : RunForm) (r : Run) (bytes : List ℕ) (a : Answer) → length bytes ≤ max_file_bytes → Tells (told r.file) bytes → (text : List ℕ) → Simulates told Never form r (Ok text)
      → TellsAll told (Some (run_action form r)) → ((x : List ℕ) → Reads (Some (run_action form r)) x → rose x → ⊥) → AnswersRun told rose form r bytes a → (out : List ℕ) × (a ≡ output out)
  fine-run form r bytes a short tells text h all quiet follows =
      let held = all r.file (reads_file form r) in
      let own = tells-same (told r.file) bytes held.0 held.1 tells in
      let s : Simulates told Never form r follows.outcome = record {
        bytes = bytes;
        tells = held.1 ∙ ap Some (sym own);
        short = short;
        simulated = record {
          diagrams = follows.simulated.diagrams;
          has = follows.simulated.has;
          comes = quiet-run one_verdict one_list one_outcome missing told rose Became form follows.simulated.diagrams r follows.outcome quiet follows.simulated.comes;
          there = follows.simulated.there;
        };
      } in
      (text, follows.answer ∙ ap (answer_to r) (one_simulated one_verdict one_list one_outcome missing told rose Became form r all follows.outcome (Ok text) s h))

  -- what is fine is answered by an output
  fine-follows : (c : Command) (name : List ℕ) (a : Answer) → file_of c ≡ Some name → IsFine told (Some c) → TellsAll told (Some c)
      → ((x : List ℕ) → Reads (Some c) x → rose x → ⊥) → IsFollowed told rose c name a → (text : List ℕ) × (a ≡ output text)
  fine-follows (check n) name a is h all quiet f = (_, f.follows)
  fine-follows (compile n) name a is h all quiet f = (f.follows.text, f.follows.answer)
  fine-follows (simulate r) name a is h all quiet f =
      let file : name ≡ r.file = cc in
      fine-run Trace r f.bytes a f.short (subst (λ (z : List ℕ). Tells (told z) f.bytes) file f.tells) h.0 h.1 all quiet f.follows
  fine-follows (run r) name a is h all quiet f = absurd f.follows
  fine-follows (bench n) name a is h all quiet f = absurd f.follows
  fine-follows (cycle t) name a is h all quiet f =
      let file : name ≡ t.file = cc in
      fine_cycle one_verdict told rose Became t one_tree one_list one_cycle f.bytes a f.short (subst (λ (z : List ℕ). Tells (told z) f.bytes) file f.tells) h.0 h.1 all quiet f.follows
  fine-follows (migrate m) name a is h all quiet f =
      let file : name ≡ m.old = cc in
      fine-migration Lines m f.bytes a f.short (subst (λ (z : List ℕ). Tells (told z) f.bytes) file f.tells) h.0 h.1 all quiet f.follows
  fine-follows (report m) name a is h all quiet f =
      let file : name ≡ m.old = cc in
      fine-migration Report m f.bytes a f.short (subst (λ (z : List ℕ). Tells (told z) f.bytes) file f.tells) h.0 h.1 all quiet f.follows
  fine-follows (cover r) name a is h all quiet f =
      let file : name ≡ r.file = cc in
      fine-run Coverage r f.bytes a f.short (subst (λ (z : List ℕ). Tells (told z) f.bytes) file f.tells) h.0 h.1 all quiet f.follows

  fine-output : (command : Option Command) (a : Answer) → IsFine told command → TellsAll told command → ((x : List ℕ) → Reads command x → rose x → ⊥)
      → Found told rose command a → (text : List ℕ) × (a ≡ output text)
  fine-output command a h all quiet (faulty n e) = absurd (subst (IsFine told) n h)
  fine-output command a h all quiet (measured n m text k e) = (text, e)
  fine-output command a h all quiet (unread name p r e) = absurd (quiet name (first-read command name p) r)
  fine-output command a h all quiet (breaks b name p v e) =
      let held = all name (first-read command name p) in
      let both : verdict.Accepted ≡ verdict.Broken b = one_verdict held.0 verdict.Accepted (verdict.Broken b) (fine-verdict command name held.0 h p held.1) (v held.0 held.1) in
      absurd (cc)
  fine-output command a h all quiet (traced r n text k e) = (text, e)
  fine-output command a h all quiet (stopped r n x k m e) =
      let fine = subst (IsFine told) n h in
      absurd (quiet_trace one_verdict told rose Became one_text r x m (subst (λ (c : Option Command). TellsAll told c) n all)
      (subst (λ (c : Option Command). (y : List ℕ) → Reads c y → rose y → ⊥) n quiet) k fine.0 fine.1)
  fine-output command a h all quiet (accepts c n name p f) =
      fine-follows c name a (sym (ap project_file n) ∙ p) (subst (IsFine told) n h) (subst (λ (x : Option Command). TellsAll told x) n all)
      (subst (λ (x : Option Command). (y : List ℕ) → Reads x y → rose y → ⊥) n quiet) f

  pub is_complete : (command : Option Command) (s : Status) (out err : Change) → Ends told rose Became command s out err → IsComplete told rose command s out err
  is_complete command s out err ends h all quiet no_out no_err = elim ends.said [
    | inl says ↦
        let o = fine-output command ends.answer h all quiet (found told rose command ends.answer says) in
        inl (output-whole o.0 s out err no_out (subst (λ (x : Answer). Written x s out err) o.1 ends.written))
    | inr m ↦ inr (memory-whole s out err no_err (subst (λ (x : Answer). Written x s out err) m ends.written))
  ]
