-- What a run of tasks was answered for, and that it comes to one thing.
use Rattle.std.proofs.Common.{◌≡◌, ◌≢◌, ◌≤◌, ◌↔◌, ◌∙◌, ℕ, List, length, refl, sym, ap, subst, inl, inr, Option, Some}
use Rattle.std.specs.Prelude.{Result, Ok, Err}
use Rattle.plcx_io.specs.Told.{Tells}
use Rattle.plcx_types.specs.Limits.{max_file_bytes}
use Rattle.plcx_xml.specs.StandsForTree.{IsTreeOf}
use Rattle.plcx_xml.specs.declared.tree.Node.{Node}
use Rattle.plcx_xml.specs.declared.tree.Node.TheOpen.{Node-F}
use Rattle.plcx_xml.specs.declared.tree.Element.{Element}
use Rattle.plcx_model.specs.declared.project.Project as model
use Rattle.plcx_profile.specs.Profile.{project_in}
use Rattle.plcx_meaning.specs.Diagram.{Project}
use Rattle.plcx_meaning.specs.Evaluate.{Heard}
use Rattle.plcx_words.specs.Command.{Command, TaskRun, cycle}
use Rattle.plcx_tasks.specs.declared.planning.TaskPlan.{TaskPlan}
use Rattle.plcx_plan.specs.Plans.{StandsForPlan, IsFaultOf}
use Rattle.plcx_plan.specs.declared.condition.TaskKind.{TaskKind}
use Rattle.plcx_cycle.specs.Cycles.{ComesTo}
use Rattle.plcx_cycle.specs.declared.error.CycleError.{CycleError}
use Rattle.plcx_cycle.specs.declared.error.CycleError.TheVariants as error
use Rattle.plcx_command.specs.Answer.{Answer, output}
use Rattle.plcx_command.specs.Compiled.{HasDiagrams}
use Rattle.plcx_command.specs.Cycled.{IsCycled, AnswersCycle, Cycles, answer_to_cycle}
use Rattle.plcx_command.specs.Ends.{Ends, Change, Gets, Unchanged}
use Rattle.plcx_command.specs.Headline.{IsDefined, project_file, Reads, Never, IsTold, TellsAll}
use Rattle.plcx_command.specs.Verdict as verdict
use Rattle.plcx_command.specs.Verdict.{Verdict, FileVerdict, Within, Passed}
use Rattle.plcx_command.specs.declared.status.Status.{Status}
use Rattle.plcx_command.specs.declared.status.Status.TheVariants as status
use Rattle.plcx_command.proofs.Found.{tells-same, IsFollowed}
use Rattle.plcx_command.proofs.Statuses.{status_for, done}
use Rattle.plcx_command.proofs.Laws.{IsAnswered, answered, ByVerdict, passes, fails, by_verdict, done-passes}

-- bytes stand for one tree
abbrev pub OneTree : Type 0
OneTree = (bytes : List ℕ) (a b : Element) → IsTreeOf bytes a → IsTreeOf bytes b → a ≡ b

-- over ticks that are told a run of tasks comes to one thing
abbrev pub OneCycle : Type 0
OneCycle = (root : Node-F Node Element) (project : model.Project) (diagrams : Project) (told : List ℕ → Option (List ℕ)) (t : TaskRun) (bytes : List ℕ) → told t.ticks ≡ Some bytes
    → (x y : Result (List ℕ) CycleError) → x ≢ Err error.NoMemory → y ≢ Err error.NoMemory → ComesTo told ⊥ root project diagrams t x → ComesTo told ⊥ root project diagrams t y → x ≡ y

-- tasks that are wrong are no plan
abbrev pub NoPlan : Type 0
NoPlan = (root : Node-F Node Element) (project : model.Project) (kind : TaskKind) (at : ℕ) (plan : TaskPlan) → IsFaultOf root project kind at → StandsForPlan root project plan → ⊥

-- the files of a run
pub reads_tasks : (t : TaskRun) → Reads (Some (cycle t)) t.file
reads_tasks t = inl refl

pub reads_ticks : (t : TaskRun) → Reads (Some (cycle t)) t.ticks
reads_ticks t = inr refl

-- a text is answered to a run alone that leaves it
cycle-outcome : (t : TaskRun) (x : Result (List ℕ) CycleError) (text : List ℕ) → output text ≡ answer_to_cycle t x → x ≡ Ok text
cycle-outcome t (Ok s) text e = let same : text ≡ s = cc in ap Ok (sym same)
cycle-outcome t (Err f) text e = absurd (cc)

module _ (one_tree : OneTree) (one_list : (bytes : List ℕ) (a b : Project) → HasDiagrams bytes a → HasDiagrams bytes b → a ≡ b) where
  -- a file has one tree, one project and one list of diagrams
  record IsOneSource (a b : List ℕ) (d e : Project) (h : HasDiagrams a d) (k : HasDiagrams b e) : Type 0 where
    root : h.keeps.root ≡ k.keeps.root
    project : h.project ≡ k.project
    diagrams : d ≡ e

  one_source : (a b : List ℕ) → a ≡ b → (d e : Project) (h : HasDiagrams a d) (k : HasDiagrams b e) → IsOneSource a b d e h k
  one_source a b same d e h k =
      let root = one_tree b h.keeps.root k.keeps.root (subst (λ (x : List ℕ). IsTreeOf x h.keeps.root) same h.keeps.tree) k.keeps.tree in
      record {
        root = root;
        project = h.keeps.stands ∙ ap project_in root ∙ sym k.keeps.stands;
        diagrams = one_list b d e (subst (λ (x : List ℕ). HasDiagrams x d) same h) k;
      }

  module _ (told : List ℕ → Option (List ℕ)) (t : TaskRun) (x y : Result (List ℕ) CycleError) (h : Cycles told Never t x) (k : Cycles told Never t y) where
    -- what one run comes to, over the source of the other
    over_one : ComesTo told ⊥ (Node-F.Element k.cycled.has.keeps.root) k.cycled.has.project k.cycled.diagrams t x
    over_one =
        let both : Some h.bytes ≡ Some k.bytes = sym h.tells ∙ k.tells in
        let same : h.bytes ≡ k.bytes = cc in
        let s = one_source h.bytes k.bytes same h.cycled.diagrams k.cycled.diagrams h.cycled.has k.cycled.has in
        subst (λ (r : Element). ComesTo told ⊥ (Node-F.Element r) k.cycled.has.project k.cycled.diagrams t x) s.root
        (subst (λ (p : model.Project). ComesTo told ⊥ (Node-F.Element h.cycled.has.keeps.root) p k.cycled.diagrams t x) s.project
        (subst (λ (d : Project). ComesTo told ⊥ (Node-F.Element h.cycled.has.keeps.root) h.cycled.has.project d t x) s.diagrams h.cycled.comes))

    -- where the ticks are told, a run of tasks comes to one thing
    pub one_cycled : OneCycle → IsTold told t.ticks → x ≡ y
    one_cycled one held =
        one (Node-F.Element k.cycled.has.keeps.root) k.cycled.has.project k.cycled.diagrams told t held.0 held.1 x y h.cycled.there k.cycled.there over_one k.cycled.comes

  -- where the tasks are wrong, no run comes to anything else
  no_tasks : NoPlan → (told : List ℕ → Option (List ℕ)) (root : Node-F Node Element) (project : model.Project) (diagrams : Project) (t : TaskRun) (kind : TaskKind) (at : ℕ) → IsFaultOf root project kind at
      → (x : Result (List ℕ) CycleError) → x ≢ Err error.NoMemory → ComesTo told ⊥ root project diagrams t x → status_for (answer_to_cycle t x) ≡ status.TasksBroken
  no_tasks none told root project diagrams t kind at wrong (Ok text) there h = absurd (none root project kind at h.plan wrong h.is)
  no_tasks none told root project diagrams t kind at wrong (Err (error.Tasks k a)) there h = refl
  no_tasks none told root project diagrams t kind at wrong (Err error.TicksRead) there h = absurd h.1
  no_tasks none told root project diagrams t kind at wrong (Err (error.Row n)) there h = absurd (none root project kind at h.0.plan wrong h.0.is)
  no_tasks none told root project diagrams t kind at wrong (Err error.NoMemory) there h = absurd (there refl)

  pub tasks_alone : NoPlan → (told : List ℕ → Option (List ℕ)) (t : TaskRun) (x : Result (List ℕ) CycleError) (kind : TaskKind) (at : ℕ) → Cycles told Never t x
      → Cycles told Never t (Err (error.Tasks kind at)) → status_for (answer_to_cycle t x) ≡ status.TasksBroken
  tasks_alone none told t x kind at h k =
      no_tasks none told (Node-F.Element k.cycled.has.keeps.root) k.cycled.has.project k.cycled.diagrams t kind at k.cycled.comes x h.cycled.there (over_one told t x (Err (error.Tasks kind at)) h k)

module _ (one_verdict : (bytes : List ℕ) (v w : Verdict) → FileVerdict bytes v → FileVerdict bytes w → v ≡ w)
    (told : List ℕ → Option (List ℕ)) (rose : List ℕ → Type 0) (Became : List Heard → Type 0) (t : TaskRun) where
  -- ---- a run whose status is defined did not fail

  cycle-calm : (bytes : List ℕ) (x : Result (List ℕ) CycleError) → IsDefined (status_for (answer_to_cycle t x)) → IsCycled told rose t bytes x → IsCycled told Never t bytes x
  cycle-calm bytes (Ok text) d h = record { diagrams = h.diagrams; has = h.has; comes = h.comes; there = h.there }
  cycle-calm bytes (Err (error.Tasks kind at)) d h = record { diagrams = h.diagrams; has = h.has; comes = h.comes; there = h.there }
  cycle-calm bytes (Err error.TicksRead) d h = absurd d
  cycle-calm bytes (Err (error.Row n)) d h = record { diagrams = h.diagrams; has = h.has; comes = h.comes; there = h.there }
  cycle-calm bytes (Err error.NoMemory) d h = absurd d

  -- the same of a cause
  pub calm_cycle : (bytes : List ℕ) (e : CycleError) → IsDefined (status_for (answer_to_cycle t (Err e))) → IsCycled told rose t bytes (Err e) → IsCycled told Never t bytes (Err e)
  calm_cycle bytes e d h = cycle-calm bytes (Err e) d h

  -- what a run whose status is defined comes to
  pub record CycleOutcome (a : Answer) : Type 0 where
    pub outcome : Result (List ℕ) CycleError
    pub cycles : Cycles told Never t outcome
    pub answer : a ≡ answer_to_cycle t outcome

  outcome-of : (bytes : List ℕ) (a : Answer) → told t.file ≡ Some bytes → IsDefined (status_for a) → IsFollowed told rose (cycle t) t.file a → CycleOutcome a
  outcome-of bytes a k d f =
      let own = tells-same (told t.file) f.bytes bytes k f.tells in
      let run = f.follows in
      record {
        outcome = run.outcome;
        cycles = record {
          bytes = f.bytes;
          tells = k ∙ ap Some (sym own);
          short = f.short;
          cycled = cycle-calm f.bytes run.outcome (subst (λ (x : Answer). IsDefined (status_for x)) run.answer d) run.cycled;
        };
        answer = run.answer;
      }

  -- a run that comes to something has a file that is accepted
  pub cycles-accepted : (x : Result (List ℕ) CycleError) (bytes : List ℕ) → told t.file ≡ Some bytes → Cycles told Never t x → FileVerdict bytes verdict.Accepted
  cycles-accepted x bytes k h =
      let both : Some h.bytes ≡ Some bytes = sym h.tells ∙ k in
      let same : h.bytes ≡ bytes = cc in
      subst (λ (b : List ℕ). FileVerdict b verdict.Accepted) same (Within h.short (Passed h.cycled.has.project h.cycled.has.keeps))

  by-cycle : (command : Option Command) (a : Answer) (s : Status) → command ≡ Some (cycle t) → (file : IsTold told t.file) → IsDefined s → IsAnswered one_verdict told rose Became command a s
      → ByVerdict one_verdict told rose Became command t.file file.0 a
  by-cycle command a s is file d answer = by_verdict one_verdict told rose Became command t.file file.0 a s (ap project_file is) file.1 d answer

  followed : (c : Command) (a : Answer) → c ≡ cycle t → IsFollowed told rose c t.file a → IsFollowed told rose (cycle t) t.file a
  followed c a is f = subst (λ (d : Command). IsFollowed told rose d t.file a) is f

  -- a run that comes to something was answered to that of it
  pub cycle_outcome : (command : Option Command) (a : Answer) (s : Status) (x : Result (List ℕ) CycleError) → command ≡ Some (cycle t) → (file : IsTold told t.file) → IsDefined s
      → IsAnswered one_verdict told rose Became command a s → Cycles told Never t x → CycleOutcome a
  cycle_outcome command a s x is file d answer h = by (by-cycle command a s is file d answer)
    where
      by : ByVerdict one_verdict told rose Became command t.file file.0 a → CycleOutcome a
      by (passes c n v f) = let same : c ≡ cycle t = cc in outcome-of file.0 a file.1 (subst IsDefined answer.status d) (followed c a same f)
      by (fails b v e) =
          let both : verdict.Accepted ≡ verdict.Broken b = one_verdict file.0 verdict.Accepted (verdict.Broken b) (cycles-accepted x file.0 file.1 h) v in absurd (cc)

  -- ---- the clause

  record IsText (out err : Change) : Type 0 where
    text : List ℕ
    cycles : Cycles told Never t (Ok text)
    gets : Gets out text
    quiet : Unchanged err

  done-text : (command : Option Command) (s : Status) (out err : Change) (ends : Ends told rose Became command s out err) → command ≡ Some (cycle t)
      → IsTold told t.file → IsDefined s → s ≡ status.Done → IsText out err
  done-text command s out err ends is file d e =
      let answer = answered one_verdict told rose Became command s out err d ends in
      let by = by-cycle command ends.answer s is file d answer in
      let w = done ends.answer s out err e ends.written in
      let p = done-passes one_verdict told rose Became command t.file file.0 ends.answer w.text w.is by in
      let n = p.1 in
      let same : p.0 ≡ cycle t = cc in
      let o = outcome-of file.0 ends.answer file.1 (subst IsDefined answer.status d) (followed p.0 ends.answer same p.2) in
      record {
        text = w.text;
        cycles = subst (Cycles told Never t) (cycle-outcome t o.outcome w.text (sym w.is ∙ o.answer)) o.cycles;
        gets = w.gets;
        quiet = w.quiet;
      }

  module _ (one_tree : OneTree) (one_list : (bytes : List ℕ) (a b : Project) → HasDiagrams bytes a → HasDiagrams bytes b → a ≡ b) (one : OneCycle) where
    -- where all files are told, the answer is to what the run comes to
    pub same_cycle : (command : Option Command) → command ≡ Some (cycle t) → TellsAll told command → (a : Answer) (s : Status) → IsDefined s
        → IsAnswered one_verdict told rose Became command a s → (x : Result (List ℕ) CycleError) → Cycles told Never t x → s ≡ status_for (answer_to_cycle t x)
    same_cycle command is k a s d answer x h =
        let all = subst (λ (c : Option Command). TellsAll told c) is k in
        let o = cycle_outcome command a s x is (all t.file (reads_tasks t)) d answer h in
        answer.status
        ∙ ap status_for o.answer
        ∙ ap (λ y. status_for (answer_to_cycle t y)) (one_cycled one_tree one_list told t o.outcome x o.cycles h one (all t.ticks (reads_ticks t)))

    pub cycles_exactly : (command : Option Command) (s : Status) (out err : Change) → Ends told rose Became command s out err → command ≡ Some (cycle t) → TellsAll told command → IsDefined s
        → ((s ≡ status.Done) ↔ ((text : List ℕ) × Cycles told Never t (Ok text))) × (s ≡ status.Done → (text : List ℕ) × Cycles told Never t (Ok text) × Gets out text × Unchanged err)
    cycles_exactly command s out err ends is all d =
        let file = subst (λ (c : Option Command). TellsAll told c) is all t.file (reads_tasks t) in (
          (
            (λ e. let w = done-text command s out err ends is file d e in (w.text, w.cycles)),
            (λ h. same_cycle command is all ends.answer s d (answered one_verdict told rose Became command s out err d ends) (Ok h.0) h.1),
          ),
          (λ e. let w = done-text command s out err ends is file d e in (w.text, w.cycles, w.gets, w.quiet)),
        )

    -- ---- completeness

    quiet-cycle : (bytes : List ℕ) (x : Result (List ℕ) CycleError) → ((name : List ℕ) → Reads (Some (cycle t)) name → rose name → ⊥) → IsCycled told rose t bytes x → IsCycled told Never t bytes x
    quiet-cycle bytes (Ok text) quiet h = record { diagrams = h.diagrams; has = h.has; comes = h.comes; there = h.there }
    quiet-cycle bytes (Err (error.Tasks kind at)) quiet h = record { diagrams = h.diagrams; has = h.has; comes = h.comes; there = h.there }
    quiet-cycle bytes (Err error.TicksRead) quiet h = absurd (quiet t.ticks (reads_ticks t) h.comes.1)
    quiet-cycle bytes (Err (error.Row n)) quiet h = record { diagrams = h.diagrams; has = h.has; comes = h.comes; there = h.there }
    quiet-cycle bytes (Err error.NoMemory) quiet h = absurd (h.there refl)

    pub fine_cycle : (bytes : List ℕ) (a : Answer) → length bytes ≤ max_file_bytes → Tells (told t.file) bytes → (text : List ℕ) → Cycles told Never t (Ok text)
        → TellsAll told (Some (cycle t)) → ((x : List ℕ) → Reads (Some (cycle t)) x → rose x → ⊥) → AnswersCycle told rose t bytes a → (out : List ℕ) × (a ≡ output out)
    fine_cycle bytes a short tells text h all quiet follows =
        let held = all t.file (reads_tasks t) in
        let own = tells-same (told t.file) bytes held.0 held.1 tells in
        let s : Cycles told Never t follows.outcome = record {
          bytes = bytes;
          tells = held.1 ∙ ap Some (sym own);
          short = short;
          cycled = quiet-cycle bytes follows.outcome quiet follows.cycled;
        } in
        (text, follows.answer ∙ ap (answer_to_cycle t) (one_cycled one_tree one_list told t follows.outcome (Ok text) s h one (all t.ticks (reads_ticks t))))
