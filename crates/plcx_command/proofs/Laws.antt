-- What each status was written for.
use Rattle.std.proofs.Common.{◌≡◌, ◌≢◌, ◌↔◌, ◌∙◌, ℕ, Bool, List, [], true, false, true≢false, refl, sym, ap, subst, ◌⊎◌, inl, inr, Option, Some, None}
use Rattle.std.specs.Prelude.{Err, unwrap_or}
use Rattle.plcx_io.specs.Told.{Tells}
use Rattle.plcx_meaning.specs.Evaluate.{Heard}
use Rattle.plcx_words.specs.Command.{Command, Run, Migration, check, compile, simulate, run, bench, cycle, migrate, report, cover}
use Rattle.plcx_model.specs.declared.broken.Broken as model
use Rattle.plcx_state.specs.declared.layout.Leaf.{Leaf}
use Rattle.plcx_traced.specs.declared.error.RunError.TheVariants as error
use Rattle.plcx_traced.specs.Files.{WhyNotBegun}
use Rattle.plcx_text_run.specs.TextRuns as texts
use Rattle.plcx_text_run.specs.declared.running.TextRunError.{TextRunError}
use Rattle.plcx_text_run.specs.declared.running.TextRunError.TheVariants as text_error
use Rattle.plcx_cycle.specs.declared.error.CycleError.TheVariants as cycle_error
use Rattle.plcx_migrate.specs.declared.migrating.Form.{Form}
use Rattle.plcx_migrate.specs.declared.migrating.Form.TheVariants.{Lines, Report}
use Rattle.plcx_bench.specs.Watching.{HearsFront}
use Rattle.plcx_command.specs.Answer.{Answer, output, refusal, ok_line, ok_answer, usage_line, usage_answer, read_line, broken_answer, memory_answer, memory_line, write_line}
use Rattle.plcx_command.specs.Causes.{Cause, of_run, of_text, of_cycle, of_migration, Stops, Comes, cause_refused, cause_line}
use Rattle.plcx_command.specs.Ends.{Ends, Change, Written, Gets, GetsFront, Unchanged, MaySay}
use Rattle.plcx_command.specs.Headline.{IsDefined, project_file, TellsSources, IsReached, first, later, IsRefusal}
use Rattle.plcx_command.specs.Headline.{CompilesExactly, ChecksExactly, RefusesUsage, BlamesReads, BlamesWrites, TellsMemory, IsRefusing, WatchesExactly}
use Rattle.plcx_command.specs.Hears.{Hears, HearsRun, HearsBench, HearsRefused, IsHeardInPart}
use Rattle.plcx_command.specs.Migrated.{action_of, OldProgram, NewRead, NewBroken, NewProgram, RetainedRead, Line}
use Rattle.plcx_command.specs.Refused.{status_of}
use Rattle.plcx_command.specs.Says.{file_of}
use Rattle.plcx_command.specs.Simulated.{RunForm, run_action}
use Rattle.plcx_command.specs.TextRun.{text_refused, text_error_line}
use Rattle.plcx_command.specs.Verdict as verdict
use Rattle.plcx_command.specs.Verdict.{Verdict, FileVerdict, Within, Passed}
use Rattle.plcx_command.specs.Compiled.{IsCompiled}
use Rattle.plcx_command.specs.declared.line.ProjectFile.TheVariants.{First}
use Rattle.plcx_command.specs.declared.status.Refused.{Refused}
use Rattle.plcx_command.specs.declared.status.Refused.TheVariants as why'
use Rattle.plcx_command.specs.declared.status.Status.{Status}
use Rattle.plcx_command.specs.declared.status.Status.TheVariants as status
use Rattle.plcx_command.proofs.Forms.{file_of_run}
use Rattle.plcx_command.proofs.Found.{tells-same, no_file, IsFollowed, Found, faulty, measured, unread, breaks, traced, stopped, accepts, found, IsCauseOver, gives, refuses, kind}
use Rattle.plcx_command.proofs.Statuses.{status_for, no_reason, defined-status, done, IsRefusedBy, refused}

-- what a run or a migration may be refused for
abbrev is_for_cause : Refused → Bool
is_for_cause why'.Usage = false
is_for_cause why'.Broken = true
is_for_cause why'.ReadFault = true
is_for_cause why'.NoMemory = true
is_for_cause why'.TextBroken = true
is_for_cause why'.EventsBroken = true
is_for_cause why'.NoProgram = true
is_for_cause why'.TasksBroken = true

refused_for : (c : Cause) → is_for_cause (cause_refused c) ≡ true
refused_for (of_run form r (error.NoProgram n)) = refl
refused_for (of_run form r error.RetainedRead) = refl
refused_for (of_run form r (error.Line n)) = refl
refused_for (of_run form r error.EventsRead) = refl
refused_for (of_run form r (error.Row n)) = refl
refused_for (of_run form r error.NoMemory) = refl
refused_for (of_text r text_error.TextRead) = refl
refused_for (of_text r (text_error.TextBroken b)) = refl
refused_for (of_text r (text_error.NotRun (error.NoProgram n))) = refl
refused_for (of_text r (text_error.NotRun error.RetainedRead)) = refl
refused_for (of_text r (text_error.NotRun (error.Line n))) = refl
refused_for (of_text r (text_error.NotRun error.EventsRead)) = refl
refused_for (of_text r (text_error.NotRun (error.Row n))) = refl
refused_for (of_text r (text_error.NotRun error.NoMemory)) = refl
refused_for (of_text r text_error.NoMemory) = refl
refused_for (of_cycle t (cycle_error.Tasks kind at)) = refl
refused_for (of_cycle t cycle_error.TicksRead) = refl
refused_for (of_cycle t (cycle_error.Row n)) = refl
refused_for (of_cycle t cycle_error.NoMemory) = refl
refused_for (of_migration form m (OldProgram n)) = refl
refused_for (of_migration form m NewRead) = refl
refused_for (of_migration form m (NewBroken b)) = refl
refused_for (of_migration form m (NewProgram n)) = refl
refused_for (of_migration form m RetainedRead) = refl
refused_for (of_migration form m (Line n)) = refl

not_for : (c : Cause) (why : Refused) → is_for_cause why ≡ false → cause_refused c ≡ why → ⊥
not_for c why none e = true≢false (sym (refused_for c) ∙ ap is_for_cause e ∙ none)

-- the project file of a migration that is read first
pub file_of_action : (form : Form) (m : Migration) → file_of (action_of form m) ≡ Some m.old
file_of_action Lines m = refl
file_of_action Report m = refl

-- a run of a text reads no project file
pub no_project : (command : Option Command) (r : Run) (name : List ℕ) → command ≡ Some (run r) → project_file command ≡ Some name → ⊥
no_project command r name n is = let none : None ≡ Some name = sym (ap project_file n) ∙ is in cc

module _ (one_verdict : (bytes : List ℕ) (v w : Verdict) → FileVerdict bytes v → FileVerdict bytes w → v ≡ w)
    (told : List ℕ → Option (List ℕ)) (rose : List ℕ → Type 0) (Became : List Heard → Type 0) where
  -- what was found of an answer, whose status is its own
  pub record IsAnswered (command : Option Command) (a : Answer) (s : Status) : Type 0 where
    pub found : Found told rose command a
    pub status : s ≡ status_for a

  pub answered : (command : Option Command) (s : Status) (out err : Change) → IsDefined s → (ends : Ends told rose Became command s out err) → IsAnswered command ends.answer s
  answered command s out err d ends = by ends.said (defined-status ends.answer s out err d ends.written)
    where
      by : MaySay told rose command ends.answer → s ≡ status_for ends.answer → IsAnswered command ends.answer s
      by (inl says) e = record { found = found told rose command ends.answer says; status = e }
      by (inr m) e = absurd (subst IsDefined (e ∙ ap status_for m) d)

  -- what was found of a refusal that tells no want of memory
  pub found-refusal : (why : Refused) (command : Option Command) (a : Answer) (line : List ℕ) → why ≢ why'.NoMemory → a ≡ refusal why line
      → MaySay told rose command a → Found told rose command a
  found-refusal why command a line ne is (inl says) = found told rose command a says
  found-refusal why command a line ne is (inr m) = let both : refusal why line ≡ memory_answer = sym is ∙ m in let same : why ≡ why'.NoMemory = cc in absurd (ne same)

  -- ---- words that are a faulty command line

  usage-found : (command : Option Command) (a : Answer) (line : List ℕ) → a ≡ refusal why'.Usage line → Found told rose command a → (command ≡ None) × (line ≡ usage_line)
  usage-found command a line is (faulty n e) = (n, cc)
  usage-found command a line is (measured n m text h e) = absurd (cc)
  usage-found command a line is (unread name p r e) = absurd (cc)
  usage-found command a line is (breaks b name p v e) = absurd (cc)
  usage-found command a line is (traced r n text h e) = absurd (cc)
  usage-found command a line is (stopped r n x h m e) = let same : cause_refused (of_text r x) ≡ why'.Usage = cc in absurd (not_for (of_text r x) why'.Usage refl same)
  usage-found command a line is (accepts c n name p f) = elim (kind told rose c f.bytes a f.follows) [
    | gives text e ↦ absurd (cc)
    | refuses x i e ↦ let same : cause_refused x ≡ why'.Usage = cc in absurd (not_for x why'.Usage refl same)
  ]

  none-usage : (command : Option Command) (a : Answer) → command ≡ None → Found told rose command a → a ≡ usage_answer
  none-usage command a n (faulty m e) = e
  none-usage command a n (measured k m text h e) = absurd (cc)
  none-usage command a n (unread name p r e) = absurd (cc)
  none-usage command a n (breaks b name p v e) = absurd (cc)
  none-usage command a n (traced r m text h e) = absurd (cc)
  none-usage command a n (stopped r m x h t e) = absurd (cc)
  none-usage command a n (accepts c m name p f) = absurd (cc)

  pub refuses_usage : (command : Option Command) (s : Status) (out err : Change) → Ends told rose Became command s out err → RefusesUsage command s out err
  refuses_usage command s out err ends = (
    (λ d. (
      (λ e. (usage-found command ends.answer (of e).line (of e).is (said e)).0),
      (λ n. let a = answered command s out err d ends in a.status ∙ ap status_for (none-usage command ends.answer n a.found)),
    )),
    (λ e. (subst (Gets err) (usage-found command ends.answer (of e).line (of e).is (said e)).1 (of e).gets, (of e).quiet)),
  )
    where
      of : s ≡ status.Usage → IsRefusedBy why'.Usage ends.answer out err
      of e = refused why'.Usage ends.answer s out err e ends.written

      said : s ≡ status.Usage → Found told rose command ends.answer
      said e = found-refusal why'.Usage command ends.answer (of e).line (λ x. cc) (of e).is ends.said

  -- the verdict on a file that is accepted
  pub accepted-verdict : (c : Command) (name bytes : List ℕ) (a : Answer) → told name ≡ Some bytes → IsFollowed told rose c name a → FileVerdict bytes verdict.Accepted
  accepted-verdict c name bytes a k f = subst (λ (x : List ℕ). FileVerdict x verdict.Accepted) (tells-same (told name) f.bytes bytes k f.tells) (Within f.short (Passed f.project f.keeps))

  -- ---- outputs of files that are accepted

  -- a file that is told is accepted, and then the action answered; or it breaks a rule
  pub data ByVerdict (command : Option Command) (name bytes : List ℕ) (a : Answer) : Type 0 where
    passes : (c : Command) → command ≡ Some c → FileVerdict bytes verdict.Accepted → IsFollowed told rose c name a → ByVerdict command name bytes a
    fails : (b : model.Broken) → FileVerdict bytes (verdict.Broken b) → a ≡ broken_answer First b → ByVerdict command name bytes a

  pub by_verdict : (command : Option Command) (name bytes : List ℕ) (a : Answer) (s : Status) → project_file command ≡ Some name → told name ≡ Some bytes
      → IsDefined s → IsAnswered command a s → ByVerdict command name bytes a
  by_verdict command name bytes a s is k d answer = by answer.found answer.status
    where
      by : Found told rose command a → s ≡ status_for a → ByVerdict command name bytes a
      by (faulty n e) st = absurd (cc)
      by (measured n m text h e) st = absurd (no_file command n name m is)
      by (unread other p r e) st = absurd (subst IsDefined (st ∙ ap status_for e) d)
      by (breaks b other p v e) st = let same : other ≡ name = cc in fails b (v bytes (ap told same ∙ k)) e
      by (traced r n text h e) st = absurd (no_project command r name n is)
      by (stopped r n x h m e) st = absurd (no_project command r name n is)
      by (accepts c n other p f) st =
          let same : other ≡ name = cc in
          let own = subst (λ (x : List ℕ). IsFollowed told rose c x a) same f in
          passes c n (accepted-verdict c name bytes a k own) own

  -- where an action gives nothing but outputs, it is done exactly with a file that is accepted
  done-exactly : (command : Option Command) (name bytes : List ℕ) (a : Answer) (s : Status) → s ≡ status_for a
      → ((c : Command) → command ≡ Some c → IsFollowed told rose c name a → status_for a ≡ status.Done) → ByVerdict command name bytes a → (s ≡ status.Done) ↔ FileVerdict bytes verdict.Accepted
  done-exactly command name bytes a s st outputs (passes c n v f) = ((λ _. v), (λ _. st ∙ outputs c n f))
  done-exactly command name bytes a s st outputs (fails b v e) = (
    (λ d. let both : status.Done ≡ status.Broken = sym d ∙ st ∙ ap status_for e in absurd (cc)),
    (λ h. let both : verdict.Accepted ≡ verdict.Broken b = one_verdict bytes verdict.Accepted (verdict.Broken b) h v in absurd (cc)),
  )

  -- what is done follows on a file that is accepted
  pub done-passes : (command : Option Command) (name bytes : List ℕ) (a : Answer) (text : List ℕ) → a ≡ output text → ByVerdict command name bytes a
      → (c : Command) × (command ≡ Some c) × IsFollowed told rose c name a
  done-passes command name bytes a text is (passes c n v f) = (c, n, f)
  done-passes command name bytes a text is (fails b v e) = absurd (cc)

  check-outputs : (name : List ℕ) (a : Answer) (c : Command) → check name ≡ c → IsFollowed told rose c name a → a ≡ ok_answer
  check-outputs name a (check n) is f = f.follows
  check-outputs name a (compile n) is f = absurd (cc)
  check-outputs name a (simulate r) is f = absurd (cc)
  check-outputs name a (run r) is f = absurd (cc)
  check-outputs name a (bench n) is f = absurd (cc)
  check-outputs name a (cycle t) is f = absurd (cc)
  check-outputs name a (migrate m) is f = absurd (cc)
  check-outputs name a (report m) is f = absurd (cc)
  check-outputs name a (cover r) is f = absurd (cc)

  pub checks_exactly : (command : Option Command) (s : Status) (out err : Change) → Ends told rose Became command s out err → ChecksExactly told command s out err
  checks_exactly command s out err ends name bytes is k d =
      let answer = answered command s out err d ends in
      let by = by_verdict command name bytes ends.answer s (ap project_file is) k d answer in (
        done-exactly command name bytes ends.answer s answer.status (λ c n f. let same : check name ≡ c = cc in ap status_for (check-outputs name ends.answer c same f)) by,
        (λ e.
            let w = done ends.answer s out err e ends.written in
            let p = done-passes command name bytes ends.answer w.text w.is by in
            let n = p.1 in
            let same : check name ≡ p.0 = cc in
            let text : w.text ≡ ok_line = let both : output w.text ≡ ok_answer = sym w.is ∙ check-outputs name ends.answer p.0 same p.2 in cc in
            (subst (Gets out) text w.gets, w.quiet)),
      )

  compile-outputs : (name bytes : List ℕ) (a : Answer) (c : Command) → told name ≡ Some bytes → compile name ≡ c → IsFollowed told rose c name a
      → (text : List ℕ) × IsCompiled bytes text × (a ≡ output text)
  compile-outputs name bytes a (check n) k is f = absurd (cc)
  compile-outputs name bytes a (compile n) k is f =
      let same = tells-same (told name) f.bytes bytes k f.tells in
      (f.follows.text, subst (λ (b : List ℕ). IsCompiled b f.follows.text) same f.follows.compiled, f.follows.answer)
  compile-outputs name bytes a (simulate r) k is f = absurd (cc)
  compile-outputs name bytes a (run r) k is f = absurd (cc)
  compile-outputs name bytes a (bench n) k is f = absurd (cc)
  compile-outputs name bytes a (cycle t) k is f = absurd (cc)
  compile-outputs name bytes a (migrate m) k is f = absurd (cc)
  compile-outputs name bytes a (report m) k is f = absurd (cc)
  compile-outputs name bytes a (cover r) k is f = absurd (cc)

  pub compiles_exactly : (command : Option Command) (s : Status) (out err : Change) → Ends told rose Became command s out err → CompilesExactly told command s out err
  compiles_exactly command s out err ends name bytes is k d =
      let answer = answered command s out err d ends in
      let by = by_verdict command name bytes ends.answer s (ap project_file is) k d answer in (
        done-exactly command name bytes ends.answer s answer.status (λ c n f. let same : compile name ≡ c = cc in ap status_for (compile-outputs name bytes ends.answer c k same f).2) by,
        (λ e.
            let w = done ends.answer s out err e ends.written in
            let p = done-passes command name bytes ends.answer w.text w.is by in
            let n = p.1 in
            let same : compile name ≡ p.0 = cc in
            let t = compile-outputs name bytes ends.answer p.0 k same p.2 in
            let text : w.text ≡ t.0 = let both : output w.text ≡ output t.0 = sym w.is ∙ t.2 in cc in
            (t.0, t.1, subst (Gets out) text w.gets, w.quiet)),
      )

  -- ---- faults of the outside, and want of memory

  -- the bytes of the project file that is read first, where it is told
  own-bytes : (command : Option Command) (c : Command) → command ≡ Some c → (own : List ℕ) → file_of c ≡ Some own → (name : List ℕ) → project_file command ≡ Some name
      → (bytes : List ℕ) → Tells (told name) bytes → TellsSources told command → told own ≡ Some bytes
  own-bytes command c n own is name p bytes t k =
      let held = k name (inl p) in
      let file : name ≡ own = let q : Some name ≡ Some own = sym p ∙ ap project_file n ∙ is in cc in
      ap told (sym file) ∙ held.1 ∙ ap Some (sym (tells-same (told name) bytes held.0 held.1 t))

  -- the cause of an accepted file is that of its run, or of its migration
  pub cause-comes : (some : List ℕ → Type 0) (command : Option Command) (c : Command) → command ≡ Some c → (name : List ℕ) → project_file command ≡ Some name → (a : Answer) (f : IsFollowed told rose c name a)
      → (cause : Cause) → IsCauseOver told some c f.bytes cause → TellsSources told command → Comes told some cause
  cause-comes some command c n name p a f (of_run form r e) i k =
      record { bytes = f.bytes; tells = own-bytes command c n r.file (ap file_of i.0 ∙ file_of_run form r) name p f.bytes f.tells k; short = f.short; simulated = i.1 }
  cause-comes some command c n name p a f (of_text r e) i k = absurd i
  cause-comes some command c n name p a f (of_cycle t e) i k =
      record { bytes = f.bytes; tells = own-bytes command c n t.file (ap file_of i.0) name p f.bytes f.tells k; short = f.short; cycled = i.1 }
  cause-comes some command c n name p a f (of_migration form m e) i k =
      record { bytes = f.bytes; tells = own-bytes command c n m.old (ap file_of i.0 ∙ file_of_action form m) name p f.bytes f.tells k; short = f.short; comes = i.1 }

  pub cause-stops : (command : Option Command) (c : Command) → command ≡ Some c → (some : List ℕ → Type 0) (bytes : List ℕ) (cause : Cause) → IsCauseOver told some c bytes cause → Stops command cause
  cause-stops command c n some bytes (of_run form r e) i = n ∙ ap Some i.0
  cause-stops command c n some bytes (of_text r e) i = absurd i
  cause-stops command c n some bytes (of_cycle t e) i = n ∙ ap Some i.0
  cause-stops command c n some bytes (of_migration form m e) i = n ∙ ap Some i.0

  record IsReadLine (command : Option Command) (line : List ℕ) : Type 0 where
    pub name : List ℕ
    pub reached : IsReached told rose command name
    pub rises : rose name
    pub line_is : line ≡ read_line name

  retained-read : (command : Option Command) (form : RunForm) (r : Run) (line : List ℕ) (leaves : List Leaf) (o : Option (List ℕ)) → r.retain ≡ o → line ≡ read_line (unwrap_or o [])
      → WhyNotBegun told rose leaves o error.RetainedRead → command ≡ Some (run_action form r) → (TellsSources told command → Comes told rose (of_run form r error.RetainedRead)) → IsReadLine command line
  retained-read command form r line leaves None at is h asks comes = absurd (cc)
  retained-read command form r line leaves (Some name) at is h asks comes = record { name = name; reached = later (of_run form r error.RetainedRead) asks at comes; rises = h; line_is = is }

  cause-read : (command : Option Command) (c : Command) (bytes line : List ℕ) (x : Cause) → cause_refused x ≡ why'.ReadFault → line ≡ cause_line x → IsCauseOver told rose c bytes x
      → Stops command x → (TellsSources told command → Comes told rose x) → IsReadLine command line
  cause-read command c bytes line (of_run form r (error.NoProgram n)) w is i asks comes = absurd (cc)
  cause-read command c bytes line (of_run form r error.RetainedRead) w is i asks comes = retained-read command form r line i.1.comes.0.laid.leaves r.retain refl is i.1.comes.1 asks comes
  cause-read command c bytes line (of_run form r (error.Line n)) w is i asks comes = absurd (cc)
  cause-read command c bytes line (of_run form r error.EventsRead) w is i asks comes =
      record { name = r.events; reached = later (of_run form r error.EventsRead) asks refl comes; rises = i.1.comes.1; line_is = is }
  cause-read command c bytes line (of_run form r (error.Row n)) w is i asks comes = absurd (cc)
  cause-read command c bytes line (of_run form r error.NoMemory) w is i asks comes = absurd (cc)
  cause-read command c bytes line (of_text r e) w is i asks comes = absurd i
  cause-read command c bytes line (of_cycle t (cycle_error.Tasks kind at)) w is i asks comes = absurd (cc)
  cause-read command c bytes line (of_cycle t cycle_error.TicksRead) w is i asks comes =
      record { name = t.ticks; reached = later (of_cycle t cycle_error.TicksRead) asks refl comes; rises = i.1.comes.1; line_is = is }
  cause-read command c bytes line (of_cycle t (cycle_error.Row n)) w is i asks comes = absurd (cc)
  cause-read command c bytes line (of_cycle t cycle_error.NoMemory) w is i asks comes = absurd (cc)
  cause-read command c bytes line (of_migration form m (OldProgram n)) w is i asks comes = absurd (cc)
  cause-read command c bytes line (of_migration form m NewRead) w is i asks comes =
      record { name = m.new; reached = later (of_migration form m NewRead) asks refl comes; rises = i.1.1; line_is = is }
  cause-read command c bytes line (of_migration form m (NewBroken b)) w is i asks comes = absurd (cc)
  cause-read command c bytes line (of_migration form m (NewProgram n)) w is i asks comes = absurd (cc)
  cause-read command c bytes line (of_migration form m RetainedRead) w is i asks comes =
      record { name = m.retain; reached = later (of_migration form m RetainedRead) asks refl comes; rises = i.1.1; line_is = is }
  cause-read command c bytes line (of_migration form m (Line n)) w is i asks comes = absurd (cc)

  -- of a run of a text
  text-kept : (command : Option Command) (r : Run) (line : List ℕ) (leaves : List Leaf) (o : Option (List ℕ)) → r.retain ≡ o → line ≡ read_line (unwrap_or o [])
      → WhyNotBegun told rose leaves o error.RetainedRead → command ≡ Some (run r) → texts.ComesTo told rose r (Err (text_error.NotRun error.RetainedRead)) → IsReadLine command line
  text-kept command r line leaves None at is h n comes = absurd (cc)
  text-kept command r line leaves (Some name) at is h n comes =
      record { name = name; reached = later (of_text r (text_error.NotRun error.RetainedRead)) n at (λ _. comes); rises = h; line_is = is }

  text-read : (command : Option Command) (r : Run) → command ≡ Some (run r) → (line : List ℕ) (x : TextRunError) → text_refused x ≡ why'.ReadFault → line ≡ text_error_line r x
      → texts.ComesTo told rose r (Err x) → IsReadLine command line
  text-read command r n line text_error.TextRead w is h = record { name = r.file; reached = later (of_text r text_error.TextRead) n refl (λ _. h); rises = h; line_is = is }
  text-read command r n line (text_error.TextBroken b) w is h = absurd (cc)
  text-read command r n line (text_error.NotRun (error.NoProgram k)) w is h = absurd (cc)
  text-read command r n line (text_error.NotRun error.RetainedRead) w is h = text-kept command r line h.1.0.laid.leaves r.retain refl is h.1.1 n h
  text-read command r n line (text_error.NotRun (error.Line k)) w is h = absurd (cc)
  text-read command r n line (text_error.NotRun error.EventsRead) w is h =
      record { name = r.events; reached = later (of_text r (text_error.NotRun error.EventsRead)) n refl (λ _. h); rises = h.1.1; line_is = is }
  text-read command r n line (text_error.NotRun (error.Row k)) w is h = absurd (cc)
  text-read command r n line (text_error.NotRun error.NoMemory) w is h = absurd (cc)
  text-read command r n line text_error.NoMemory w is h = absurd (cc)

  read-found : (command : Option Command) (a : Answer) (line : List ℕ) → a ≡ refusal why'.ReadFault line → Found told rose command a → IsReadLine command line
  read-found command a line is (faulty n e) = absurd (cc)
  read-found command a line is (measured n m text h e) = absurd (cc)
  read-found command a line is (unread name p r e) = record { name = name; reached = first p; rises = r; line_is = cc }
  read-found command a line is (breaks b name p v e) = absurd (cc)
  read-found command a line is (traced r n text h e) = absurd (cc)
  read-found command a line is (stopped r n x h m e) =
      let same : text_refused x ≡ why'.ReadFault = cc in
      let text : line ≡ text_error_line r x = cc in
      text-read command r n line x same text h
  read-found command a line is (accepts c n name p f) = elim (kind told rose c f.bytes a f.follows) [
    | gives text e ↦ absurd (cc)
    | refuses x i e ↦
        let same : cause_refused x ≡ why'.ReadFault = cc in
        let text : line ≡ cause_line x = cc in
        cause-read command c f.bytes line x same text i (cause-stops command c n rose f.bytes x i) (cause-comes rose command c n name p a f x i)
  ]

  pub blames_reads : (command : Option Command) (s : Status) (out err : Change) → Ends told rose Became command s out err → BlamesReads told rose command s out err
  blames_reads command s out err ends e =
      let w = refused why'.ReadFault ends.answer s out err e ends.written in
      let l = read-found command ends.answer w.line w.is (found-refusal why'.ReadFault command ends.answer w.line (λ x. cc) w.is ends.said) in
      (l.name, l.reached, l.rises, subst (Gets err) l.line_is w.gets, w.quiet)

  -- the answer behind a fault of a write
  written-fault : (a : Answer) (s : Status) (out err : Change) → s ≡ status.WriteFault → Written a s out err
      → ((bytes : List ℕ) × (a ≡ output bytes) × GetsFront out bytes × (Gets err write_line ⊎ GetsFront err write_line))
      ⊎ ((line : List ℕ) × IsRefusal a line × GetsFront err line × Unchanged out)
  written-fault (output bytes) s out err e (inl w) = let f = w.0 in absurd (cc)
  written-fault (output bytes) s out err e (inr w) = inl (bytes, refl, w.1, w.2)
  written-fault (refusal why line) s out err e (inl w) = absurd (no_reason why status.WriteFault (sym w.0 ∙ e) refl)
  written-fault (refusal why line) s out err e (inr w) = inr (line, refl, w.1, w.2)

  pub blames_writes : (command : Option Command) (s : Status) (out err : Change) → Ends told rose Became command s out err → BlamesWrites told rose Became command s out err
  blames_writes command s out err ends e = (ends.answer, ends.said, ends.heard, written-fault ends.answer s out err e ends.written)

  -- a cause is none of memory
  no_memory : (c : Command) (bytes : List ℕ) (x : Cause) → cause_refused x ≡ why'.NoMemory → IsCauseOver told rose c bytes x → ⊥
  no_memory c bytes (of_run form r (error.NoProgram n)) w i = cc
  no_memory c bytes (of_run form r error.RetainedRead) w i = cc
  no_memory c bytes (of_run form r (error.Line n)) w i = cc
  no_memory c bytes (of_run form r error.EventsRead) w i = cc
  no_memory c bytes (of_run form r (error.Row n)) w i = cc
  no_memory c bytes (of_run form r error.NoMemory) w i = i.1.there refl
  no_memory c bytes (of_text r e) w i = i
  no_memory c bytes (of_cycle t (cycle_error.Tasks kind at)) w i = cc
  no_memory c bytes (of_cycle t cycle_error.TicksRead) w i = cc
  no_memory c bytes (of_cycle t (cycle_error.Row n)) w i = cc
  no_memory c bytes (of_cycle t cycle_error.NoMemory) w i = i.1.there refl
  no_memory c bytes (of_migration form m (OldProgram n)) w i = cc
  no_memory c bytes (of_migration form m NewRead) w i = cc
  no_memory c bytes (of_migration form m (NewBroken b)) w i = cc
  no_memory c bytes (of_migration form m (NewProgram n)) w i = cc
  no_memory c bytes (of_migration form m RetainedRead) w i = cc
  no_memory c bytes (of_migration form m (Line n)) w i = cc

  text_memory : (r : Run) (x : TextRunError) → text_refused x ≡ why'.NoMemory → x ≢ text_error.NoMemory → texts.ComesTo told rose r (Err x) → ⊥
  text_memory r text_error.TextRead w m h = cc
  text_memory r (text_error.TextBroken b) w m h = cc
  text_memory r (text_error.NotRun (error.NoProgram k)) w m h = cc
  text_memory r (text_error.NotRun error.RetainedRead) w m h = cc
  text_memory r (text_error.NotRun (error.Line k)) w m h = cc
  text_memory r (text_error.NotRun error.EventsRead) w m h = cc
  text_memory r (text_error.NotRun (error.Row k)) w m h = cc
  text_memory r (text_error.NotRun error.NoMemory) w m h = h.2 refl
  text_memory r text_error.NoMemory w m h = m refl

  -- want of memory is told by its own line
  memory-found : (command : Option Command) (a : Answer) (line : List ℕ) → a ≡ refusal why'.NoMemory line → Found told rose command a → ⊥
  memory-found command a line is (faulty n e) = cc
  memory-found command a line is (measured n m text h e) = cc
  memory-found command a line is (unread name p r e) = cc
  memory-found command a line is (breaks b name p v e) = cc
  memory-found command a line is (traced r n text h e) = cc
  memory-found command a line is (stopped r n x h m e) = let same : text_refused x ≡ why'.NoMemory = cc in text_memory r x same m h
  memory-found command a line is (accepts c n name p f) = elim (kind told rose c f.bytes a f.follows) [
    | gives text e ↦ cc
    | refuses x i e ↦ let same : cause_refused x ≡ why'.NoMemory = cc in no_memory c f.bytes x same i
  ]

  memory-line : (command : Option Command) (a : Answer) (line : List ℕ) → a ≡ refusal why'.NoMemory line → MaySay told rose command a → line ≡ memory_line
  memory-line command a line is (inl says) = absurd (memory-found command a line is (found told rose command a says))
  memory-line command a line is (inr m) = let both : refusal why'.NoMemory line ≡ memory_answer = sym is ∙ m in cc

  pub tells_memory : (command : Option Command) (s : Status) (out err : Change) → Ends told rose Became command s out err → TellsMemory s out err
  tells_memory command s out err ends e =
      let w = refused why'.NoMemory ends.answer s out err e ends.written in
      (subst (Gets err) (memory-line command ends.answer w.line w.is ends.said) w.gets, w.quiet)

  -- ---- what a watch hears

  other-hears : (command : Option Command) (a : Answer) → ((r : Run) → command ≡ Some (simulate r) → ⊥) → ((n : ℕ) → command ≡ Some (bench n) → ⊥) → Hears told Became command a → Became []
  other-hears None a ne nor h = h
  other-hears (Some (check n)) a ne nor h = h
  other-hears (Some (compile n)) a ne nor h = h
  other-hears (Some (simulate r)) a ne nor h = absurd (ne r refl)
  other-hears (Some (run r)) a ne nor h = h
  other-hears (Some (bench n)) a ne nor h = absurd (nor n refl)
  other-hears (Some (cycle t)) a ne nor h = h
  other-hears (Some (migrate m)) a ne nor h = h
  other-hears (Some (report m)) a ne nor h = h
  other-hears (Some (cover r)) a ne nor h = h

  nothing-heard : (part : Type 0) (why : Refused) → why ≢ why'.NoMemory → HearsRefused Became part why → Became []
  nothing-heard part why'.Broken ne h = h
  nothing-heard part why'.Usage ne h = h
  nothing-heard part why'.ReadFault ne h = h
  nothing-heard part why'.NoMemory ne h = absurd (ne refl)
  nothing-heard part why'.TextBroken ne h = h
  nothing-heard part why'.EventsBroken ne h = h
  nothing-heard part why'.NoProgram ne h = h
  nothing-heard part why'.TasksBroken ne h = h

  refused-hears : (command : Option Command) (why : Refused) (line : List ℕ) → why ≢ why'.NoMemory → Hears told Became command (refusal why line) → Became []
  refused-hears None why line ne h = h
  refused-hears (Some (check n)) why line ne h = h
  refused-hears (Some (compile n)) why line ne h = h
  refused-hears (Some (simulate r)) why line ne h = nothing-heard (IsHeardInPart told r Became) why ne h
  refused-hears (Some (run r)) why line ne h = h
  refused-hears (Some (bench n)) why line ne h = nothing-heard (HearsFront n Became) why ne h
  refused-hears (Some (cycle t)) why line ne h = h
  refused-hears (Some (migrate m)) why line ne h = h
  refused-hears (Some (report m)) why line ne h = h
  refused-hears (Some (cover r)) why line ne h = h

  -- a refusal for another cause than memory, whatever the status
  quiet-status : (command : Option Command) (s : Status) (out err : Change) → Ends told rose Became command s out err → (why : Refused) → why ≢ why'.NoMemory → s ≡ status_of why → Became []
  quiet-status command s out err ends why ne e =
      let w = refused why ends.answer s out err e ends.written in
      refused-hears command why w.line ne (subst (Hears told Became command) w.is ends.heard)

  refusing-hears : (command : Option Command) (s : Status) (out err : Change) → Ends told rose Became command s out err → IsRefusing s → Became []
  refusing-hears command status.Done out err ends h = absurd h
  refusing-hears command status.WriteFault out err ends h = absurd h
  refusing-hears command status.NoMemory out err ends h = absurd h
  refusing-hears command status.Broken out err ends h = quiet-status command status.Broken out err ends why'.Broken (λ x. cc) refl
  refusing-hears command status.Usage out err ends h = quiet-status command status.Usage out err ends why'.Usage (λ x. cc) refl
  refusing-hears command status.ReadFault out err ends h = quiet-status command status.ReadFault out err ends why'.ReadFault (λ x. cc) refl
  refusing-hears command status.TextBroken out err ends h = quiet-status command status.TextBroken out err ends why'.TextBroken (λ x. cc) refl
  refusing-hears command status.EventsBroken out err ends h = quiet-status command status.EventsBroken out err ends why'.EventsBroken (λ x. cc) refl
  refusing-hears command status.NoProgram out err ends h = quiet-status command status.NoProgram out err ends why'.NoProgram (λ x. cc) refl
  refusing-hears command status.TasksBroken out err ends h = quiet-status command status.TasksBroken out err ends why'.TasksBroken (λ x. cc) refl

  run-hears : (r : Run) (command : Option Command) (a : Answer) → command ≡ Some (simulate r) → Hears told Became command a → HearsRun told Became r a
  run-hears r command a is h = subst (λ (c : Option Command). Hears told Became c a) is h

  bench-hears : (n : ℕ) (command : Option Command) (a : Answer) → command ≡ Some (bench n) → Hears told Became command a → HearsBench Became n a
  bench-hears n command a is h = subst (λ (c : Option Command). Hears told Became c a) is h

  pub watches_exactly : (command : Option Command) (s : Status) (out err : Change) → Ends told rose Became command s out err → WatchesExactly told Became command s
  watches_exactly command s out err ends = record {
    done = λ r is e. let w = done ends.answer s out err e ends.written in (w.text, run-hears r command (output w.text) is (subst (Hears told Became command) w.is ends.heard));
    bench_done = λ n is e. let w = done ends.answer s out err e ends.written in bench-hears n command (output w.text) is (subst (Hears told Became command) w.is ends.heard);
    other = λ ne nor. other-hears command ends.answer ne nor ends.heard;
    refused = λ h. refusing-hears command s out err ends h;
    wanted = λ r is e.
        let w = refused why'.NoMemory ends.answer s out err e ends.written in
        run-hears r command (refusal why'.NoMemory w.line) is (subst (Hears told Became command) w.is ends.heard);
    bench_wanted = λ n is e.
        let w = refused why'.NoMemory ends.answer s out err e ends.written in
        bench-hears n command (refusal why'.NoMemory w.line) is (subst (Hears told Became command) w.is ends.heard);
  }
