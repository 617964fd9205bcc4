-- What a simulation was answered for.
use Rattle.std.proofs.Common.{◌≡◌, ◌∙◌, ℕ, List, refl, sym, ap, subst, Option, Some, None}
use Rattle.std.specs.Prelude.{Result, Ok, Err}
use Rattle.plcx_meaning.specs.Diagram.{Project}
use Rattle.plcx_meaning.specs.Evaluate.{Heard}
use Rattle.plcx_words.specs.Command.{Command, Run}
use Rattle.plcx_state.specs.declared.layout.Leaf.{Leaf}
use Rattle.plcx_traced.specs.declared.error.RunError.{RunError}
use Rattle.plcx_traced.specs.declared.error.RunError.TheVariants as error
use Rattle.plcx_traced.specs.Files.{WhyNotBegun}
use Rattle.plcx_traced.specs.Runs.{AreTold}
use Rattle.plcx_command.specs.Answer.{Answer, output}
use Rattle.plcx_command.specs.Compiled.{HasDiagrams}
use Rattle.plcx_command.specs.Ends.{Ends, Change, Gets, Unchanged}
use Rattle.plcx_command.specs.Says.{Follows}
use Rattle.plcx_command.specs.Headline.{IsDefined, project_file, Reads, Never, IsTold, TellsAll, LeavesExactly}
use Rattle.plcx_command.specs.Simulated.{RunForm, Trace, Coverage, run_action, RunComesTo, Simulates, AnswersRun, answer_to}
use Rattle.plcx_command.specs.Verdict as verdict
use Rattle.plcx_command.specs.Verdict.{Verdict, FileVerdict, Within, Passed}
use Rattle.plcx_command.specs.declared.status.Status.{Status}
use Rattle.plcx_command.specs.declared.status.Status.TheVariants as status
use Rattle.plcx_command.proofs.Forms.{OneRun, MissingRun, file_of_run, reads_file, reads_kept, reads_events}
use Rattle.plcx_command.proofs.Found.{tells-same, IsFollowed}
use Rattle.plcx_command.proofs.Statuses.{status_for, done}
use Rattle.plcx_command.proofs.Laws.{IsAnswered, answered, ByVerdict, passes, fails, by_verdict, done-passes}

-- a trace is answered to a run alone that leaves it
traced-outcome : (r : Run) (x : Result (List ℕ) RunError) (text : List ℕ) → output text ≡ answer_to r x → x ≡ Ok text
traced-outcome r (Ok t) text e = let same : text ≡ t = cc in ap Ok (sym same)
traced-outcome r (Err f) text e = absurd (cc)

module _ (one_verdict : (bytes : List ℕ) (v w : Verdict) → FileVerdict bytes v → FileVerdict bytes w → v ≡ w)
    (one_list : (bytes : List ℕ) (a b : Project) → HasDiagrams bytes a → HasDiagrams bytes b → a ≡ b)
    (one_outcome : OneRun) (missing : MissingRun)
    (told : List ℕ → Option (List ℕ)) (rose : List ℕ → Type 0) (Became : List Heard → Type 0) (form : RunForm) where
  -- ---- one outcome

  simulates-bytes : (r : Run) (x y : Result (List ℕ) RunError) (h : Simulates told Never form r x) (k : Simulates told Never form r y) → h.bytes ≡ k.bytes
  simulates-bytes r x y h k = let both : Some h.bytes ≡ Some k.bytes = sym h.tells ∙ k.tells in cc

  simulates-diagrams : (r : Run) (x y : Result (List ℕ) RunError) (h : Simulates told Never form r x) (k : Simulates told Never form r y) → h.simulated.diagrams ≡ k.simulated.diagrams
  simulates-diagrams r x y h k =
      one_list k.bytes h.simulated.diagrams k.simulated.diagrams (subst (λ (b : List ℕ). HasDiagrams b h.simulated.diagrams) (simulates-bytes r x y h k) h.simulated.has) k.simulated.has

  told-run : (r : Run) → TellsAll told (Some (run_action form r)) → AreTold told r
  told-run r all = record { retained = λ name is. all name (reads_kept form r name is); events = all r.events (reads_events form r) }

  -- where all files are told, a simulation comes to one thing
  pub one_simulated : (r : Run) → TellsAll told (Some (run_action form r)) → (x y : Result (List ℕ) RunError) → Simulates told Never form r x → Simulates told Never form r y → x ≡ y
  one_simulated r all x y h k =
      one_outcome form k.simulated.diagrams told r (told-run r all) x y h.simulated.there k.simulated.there
      (subst (λ (ds : Project). RunComesTo told Never form ds r x) (simulates-diagrams r x y h k) h.simulated.comes) k.simulated.comes

  -- and where the program is missing, no matter what is told of the others
  pub missing_alone : (r : Run) (n : ℕ) (x : Result (List ℕ) RunError) → Simulates told Never form r x → Simulates told Never form r (Err (error.NoProgram n)) → (m : ℕ) × (x ≡ Err (error.NoProgram m))
  missing_alone r n x h k =
      missing form k.simulated.diagrams told r x h.simulated.there (subst (λ (ds : Project). RunComesTo told Never form ds r x) (simulates-diagrams r x (Err (error.NoProgram n)) h k) h.simulated.comes) k.simulated.comes.1

  -- ---- a run whose status is defined did not fail

  calm-begun : (retain : Option (List ℕ)) (leaves : List Leaf) (line : ℕ) → WhyNotBegun told rose leaves retain (error.Line line) → WhyNotBegun told Never leaves retain (error.Line line)
  calm-begun None leaves line h = h
  calm-begun (Some name) leaves line h = h

  pub calm : (project : Project) (r : Run) (x : Result (List ℕ) RunError) → IsDefined (status_for (answer_to r x)) → RunComesTo told rose form project r x
      → RunComesTo told Never form project r x
  calm project r (Ok text) d h = h
  calm project r (Err (error.NoProgram n)) d h = h
  calm project r (Err error.RetainedRead) d h = absurd d
  calm project r (Err (error.Line n)) d h = (h.0, calm-begun r.retain h.0.laid.leaves n h.1)
  calm project r (Err error.EventsRead) d h = absurd d
  calm project r (Err (error.Row n)) d h = h
  calm project r (Err error.NoMemory) d h = absurd d

  -- the answer of a simulation
  run-follows : (f : RunForm) (r : Run) (bytes : List ℕ) (a : Answer) → Follows told rose (run_action f r) bytes a → AnswersRun told rose f r bytes a
  run-follows Trace r bytes a h = h
  run-follows Coverage r bytes a h = h

  simulate-answers : (r : Run) (c : Command) (a : Answer) → run_action form r ≡ c → (f : IsFollowed told rose c r.file a) → AnswersRun told rose form r f.bytes a
  simulate-answers r c a is f = run-follows form r f.bytes a (subst (λ (d : Command). Follows told rose d f.bytes a) (sym is) f.follows)

  -- what a simulation whose status is defined comes to
  pub record IsOutcome (r : Run) (a : Answer) : Type 0 where
    pub outcome : Result (List ℕ) RunError
    pub simulates : Simulates told Never form r outcome
    pub answer : a ≡ answer_to r outcome

  outcome-of : (r : Run) (c : Command) (bytes : List ℕ) (a : Answer) → run_action form r ≡ c → told r.file ≡ Some bytes → IsDefined (status_for a) → IsFollowed told rose c r.file a → IsOutcome r a
  outcome-of r c bytes a is k d f =
      let run = simulate-answers r c a is f in
      let own = tells-same (told r.file) f.bytes bytes k f.tells in
      record {
        outcome = run.outcome;
        simulates = record {
          bytes = f.bytes;
          tells = k ∙ ap Some (sym own);
          short = f.short;
          simulated = record {
            diagrams = run.simulated.diagrams;
            has = run.simulated.has;
            comes = calm run.simulated.diagrams r run.outcome (subst (λ (x : Answer). IsDefined (status_for x)) run.answer d) run.simulated.comes;
            there = run.simulated.there;
          };
        };
        answer = run.answer;
      }

  -- a simulation that comes to something has a file that is accepted
  pub simulates-accepted : (r : Run) (x : Result (List ℕ) RunError) (bytes : List ℕ) → told r.file ≡ Some bytes → Simulates told Never form r x → FileVerdict bytes verdict.Accepted
  simulates-accepted r x bytes k h =
      let both : Some h.bytes ≡ Some bytes = sym h.tells ∙ k in
      let same : h.bytes ≡ bytes = cc in
      subst (λ (b : List ℕ). FileVerdict b verdict.Accepted) same (Within h.short (Passed h.simulated.has.project h.simulated.has.keeps))

  -- a simulation that comes to something was answered to that of it
  outcome-passes : (r : Run) (command : Option Command) (bytes : List ℕ) (a : Answer) (s : Status) (x : Result (List ℕ) RunError) → command ≡ Some (run_action form r)
      → told r.file ≡ Some bytes → IsDefined s → s ≡ status_for a
      → Simulates told Never form r x → ByVerdict one_verdict told rose Became command r.file bytes a → IsOutcome r a
  outcome-passes r command bytes a s x is k d st h (passes c n v f) = let same : run_action form r ≡ c = cc in outcome-of r c bytes a same k (subst IsDefined st d) f
  outcome-passes r command bytes a s x is k d st h (fails b v e) =
      let both : verdict.Accepted ≡ verdict.Broken b = one_verdict bytes verdict.Accepted (verdict.Broken b) (simulates-accepted r x bytes k h) v in absurd (cc)

  -- ---- the clauses

  pub project_told : (r : Run) (command : Option Command) → command ≡ Some (run_action form r) → TellsAll told command → IsTold told r.file
  project_told r command is all = subst (λ (c : Option Command). TellsAll told c) is all r.file (reads_file form r)

  by-run : (r : Run) (command : Option Command) (a : Answer) (s : Status) → command ≡ Some (run_action form r) → (file : IsTold told r.file) → IsDefined s
      → IsAnswered one_verdict told rose Became command a s → ByVerdict one_verdict told rose Became command r.file file.0 a
  by-run r command a s is file d answer = by_verdict one_verdict told rose Became command r.file file.0 a s (ap project_file is ∙ file_of_run form r) file.1 d answer

  -- what a trace that was written is
  record IsTrace (r : Run) (out err : Change) : Type 0 where
    text : List ℕ
    simulates : Simulates told Never form r (Ok text)
    gets : Gets out text
    quiet : Unchanged err

  done-trace : (r : Run) (command : Option Command) (s : Status) (out err : Change) (ends : Ends told rose Became command s out err) → command ≡ Some (run_action form r)
      → IsTold told r.file → IsDefined s → s ≡ status.Done → IsTrace r out err
  done-trace r command s out err ends is file d e =
      let answer = answered one_verdict told rose Became command s out err d ends in
      let by = by-run r command ends.answer s is file d answer in
      let w = done ends.answer s out err e ends.written in
      let p = done-passes one_verdict told rose Became command r.file file.0 ends.answer w.text w.is by in
      let n = p.1 in
      let same : run_action form r ≡ p.0 = cc in
      let o = outcome-of r p.0 file.0 ends.answer same file.1 (subst IsDefined answer.status d) p.2 in
      record {
        text = w.text;
        simulates = subst (Simulates told Never form r) (traced-outcome r o.outcome w.text (sym w.is ∙ o.answer)) o.simulates;
        gets = w.gets;
        quiet = w.quiet;
      }

  trace-done : (r : Run) (command : Option Command) (s : Status) (out err : Change) (ends : Ends told rose Became command s out err) → command ≡ Some (run_action form r)
      → TellsAll told command → IsDefined s
      → (text : List ℕ) → Simulates told Never form r (Ok text) → s ≡ status.Done
  trace-done r command s out err ends is all d text h =
      let answer = answered one_verdict told rose Became command s out err d ends in
      let file = project_told r command is all in
      let by = by-run r command ends.answer s is file d answer in
      let o = outcome-passes r command file.0 ends.answer s (Ok text) is file.1 d answer.status h by in
      answer.status ∙ ap status_for o.answer ∙ ap (λ x. status_for (answer_to r x)) (one_simulated r (subst (λ (c : Option Command). TellsAll told c) is all) o.outcome (Ok text) o.simulates h)

  pub exactly : (command : Option Command) (s : Status) (out err : Change) → Ends told rose Became command s out err → LeavesExactly form told command s out err
  exactly command s out err ends r is all d = (
    (
      (λ e. let t = done-trace r command s out err ends is (project_told r command is all) d e in (t.text, t.simulates)),
      (λ h. trace-done r command s out err ends is all d h.0 h.1),
    ),
    (λ e. let t = done-trace r command s out err ends is (project_told r command is all) d e in (t.text, t.simulates, t.gets, t.quiet)),
  )

  -- ---- a run that comes to a cause was answered to that of it

  pub run_outcome : (r : Run) (command : Option Command) (a : Answer) (s : Status) (x : Result (List ℕ) RunError) → command ≡ Some (run_action form r) → (file : IsTold told r.file) → IsDefined s
      → IsAnswered one_verdict told rose Became command a s → Simulates told Never form r x → IsOutcome r a
  run_outcome r command a s x is file d answer h = outcome-passes r command file.0 a s x is file.1 d answer.status h (by-run r command a s is file d answer)

  -- ---- completeness

  quiet-begun : (r : Run) (leaves : List Leaf) (o : Option (List ℕ)) → r.retain ≡ o → ((name : List ℕ) → Reads (Some (run_action form r)) name → rose name → ⊥)
      → WhyNotBegun told rose leaves o error.RetainedRead → ⊥
  quiet-begun r leaves None is quiet h = cc
  quiet-begun r leaves (Some name) is quiet h = quiet name (reads_kept form r name is) h

  -- a run over files whose counts did not rise did not fail
  pub quiet-run : (project : Project) (r : Run) (x : Result (List ℕ) RunError) → ((name : List ℕ) → Reads (Some (run_action form r)) name → rose name → ⊥)
      → RunComesTo told rose form project r x → RunComesTo told Never form project r x
  quiet-run project r (Ok text) quiet h = h
  quiet-run project r (Err (error.NoProgram n)) quiet h = h
  quiet-run project r (Err error.RetainedRead) quiet h = absurd (quiet-begun r h.0.laid.leaves r.retain refl quiet h.1)
  quiet-run project r (Err (error.Line n)) quiet h = (h.0, calm-begun r.retain h.0.laid.leaves n h.1)
  quiet-run project r (Err error.EventsRead) quiet h = absurd (quiet r.events (reads_events form r) h.1)
  quiet-run project r (Err (error.Row n)) quiet h = h
  quiet-run project r (Err error.NoMemory) quiet h = tt
