-- Statements of a body at an instance.
use Rattle.std.proofs.Common.{ℕ, ◌+◌, ◌≤◌, ℤ, Bool, true, false, List, [], ◌∷◌, length, Some, sym, ap, ◌∙◌, subst}
use Rattle.std.specs.Prelude.{slice_range, if◌then◌else◌}
use Rattle.plcx_types.specs.declared.ty.Ty.{Ty}
use Rattle.plcx_types.specs.declared.ty.Ty.TheVariants as ty
use Rattle.plcx_types.specs.TypeName.{same_ty}
use Rattle.plcx_types.specs.Value.{Value}
use Rattle.plcx_meaning.specs.Base.{Path, is_true, Outcome, Ended, Stuck, Site}
use Rattle.plcx_meaning.specs.Tree.{Statement, Assign, Call, If, While, Case, Statements, no_statement, statement, Arms, no_arm, arm}
use Rattle.plcx_meaning.specs.Typed.{variable_in}
use Rattle.plcx_meaning.specs.Execute.{referent, TextState, Frame, TextCalls, value_of, assign, turns, selects, statement_runs, statements_run, arms_run, list_runs}
use Rattle.plcx_steps.specs.declared.program.Source.{Source}
use Rattle.plcx_steps.specs.declared.program.Instance.{Instance as Standing}
use Rattle.plcx_steps.specs.Numbered.{Here, read}
use Rattle.plcx_numbered.specs.Agreeing.{AreApart}
use Rattle.plcx_text_steps.specs.declared.text.Line.{Line}
use Rattle.plcx_text_steps.specs.declared.text.Line.TheVariants as line
use Rattle.plcx_text_steps.specs.declared.text.Arm.{Arm as Choice}
use Rattle.plcx_text_steps.specs.Numbered.{Numbers, cells_of, is_on, choice, case_does, lines_do, section_does}
use Rattle.plcx_text_steps.specs.Numbered.{turns as turns_do}
use Rattle.plcx_text_numbered.specs.Agreeing.{Lies, SameInOuts, Agree, Alike, Reads, Runs}
use Rattle.plcx_text_numbered.specs.Setting.{setting}
use Rattle.plcx_text_numbered.specs.Statements.{Around, store_line, IsSection, IsStatement, AreStatements, AreArms, AreLines}
use Rattle.plcx_text_numbered.proofs.Runs.{lines_append}
use Rattle.plcx_text_numbered.proofs.Alikes.{both_end, alike_then, alike_as, alike_from, alike_value, alike_truth, last_line}
use Rattle.plcx_text_numbered.proofs.Assigning.{here, InFrame, in_frame, value_runs, store_alike, turns_alike, section_lines}
use Rattle.plcx_text_numbered.proofs.Calling.{StepsStandard, CallsAlike, call_alike}

module _ (whole : List Path) (apart : AreApart whole) (c : Around) (temporaries_apart : AreApart c.own.plan.temporaries) (site : Site) (k : ℕ) (time : ℕ) (at : Standing) (in_outs : List ℕ)
    (lies : Lies whole c.own.plan.paths site.path at.leaves) (same_in_outs : SameInOuts whole c.own.plan.in_outs site.bound in_outs)
    (call : TextCalls) (standard : StepsStandard time call) (calls : CallsAlike whole apart c temporaries_apart site k time at in_outs lies same_in_outs call) where
  abbrev own_frame : Frame → List Value → Type 0
  own_frame = InFrame whole apart c temporaries_apart site k time at in_outs lies same_in_outs

  abbrev own_here : Here
  own_here = here whole apart c temporaries_apart site k time at in_outs lies same_in_outs

  -- pieces that begin alike are alike
  abbrev PiecesAlike : (TextState → Frame → Outcome TextState Frame) → (Numbers → List Value → Outcome Numbers (List Value)) → Type 0
  PiecesAlike o q = (g : TextState) (f : Frame) (n : Numbers) (ws : List Value) → Agree whole g n → own_frame f ws → Alike whole own_frame (o g f) (q n ws)

  keeps : (f : Frame) (n : Numbers) (wire : ℕ) (ws vs : List Value) (t : Ty) (source : Source) (v : Value) → length c.own.plan.temporaries ≤ wire → Reads own_here n wire ws t source v vs → own_frame f ws → own_frame f vs
  keeps f n wire ws vs t source v free r fr = in_frame whole apart c temporaries_apart site k time at in_outs lies same_in_outs f wire ws vs free r.below fr

  -- statements that are alike in their lines are so as a section
  section_alike : (ss : Statements) (below d number : ℕ) (inner : List Line) → below ≤ d → IsSection c.text below number inner
      → ((e : ℕ) → number ≤ e → PiecesAlike (statements_run ss (setting c.num.scope site) call) (lines_do (section_does e c.text) c.text own_here inner))
      → PiecesAlike (statements_run ss (setting c.num.scope site) call) (section_does d c.text own_here number)
  section_alike ss below d number inner le h alike g f n ws a fr =
      let s = section_lines whole apart c temporaries_apart site k time at in_outs lies same_in_outs d below number inner le h in
      alike_as _ _ (s.2 n ws) (alike s.0 s.1 g f n ws a fr)

  -- the choice of an arm
  chosen_alike : (label section : ℕ) (more : List Choice) (d : ℕ) (ss : Statements) (rest : Arms) (m : ℤ) → PiecesAlike (statements_run ss (setting c.num.scope site) call) (section_does d c.text own_here section)
      → PiecesAlike (arms_run rest (setting c.num.scope site) call m) (case_does (section_does d c.text) own_here (choice more m))
      → PiecesAlike (arms_run (arm label ss rest) (setting c.num.scope site) call m) (case_does (section_does d c.text) own_here (choice (record { label = label; section = section } ∷ more) m))
  chosen_alike label section more d ss rest m first others g f n ws a fr = by_test (selects m label)
    where
      by_test : (b : Bool) → Alike whole own_frame (if b then statements_run ss (setting c.num.scope site) call g f else arms_run rest (setting c.num.scope site) call m g f)
          (case_does (section_does d c.text) own_here (if b then Some section else choice more m) n ws)
      by_test true = first g f n ws a fr
      by_test false = others g f n ws a fr

  mutual
    pub statement_alike : (s : Statement) (below d : ℕ) (lines : List Line) → below ≤ d → IsStatement c below s lines
        → PiecesAlike (statement_runs s (setting c.num.scope site) call) (lines_do (section_does d c.text) c.text own_here lines)
    statement_alike (Assign x e) below d lines le h g f n ws a fr =
        let sections = section_does d c.text in
        let store = store_line (c.num.place x) h.source ∷ [] in
        alike_as _ _ (ap (λ ls. lines_do sections c.text own_here ls n ws) h.are_lines ∙ lines_append sections c.text own_here h.before store n ws)
        (alike_value g n (Reads own_here n h.value.wire ws h.type h.source) (value_of e (setting c.num.scope site) g.store f) (lines_do sections c.text own_here h.before n ws)
        (λ v. assign (referent c.num.scope.world (variable_in c.num.scope x)) x site v g f) (lines_do sections c.text own_here store) a
        (value_runs whole apart c temporaries_apart site k time at in_outs lies same_in_outs sections g f n ws a fr h.value.wire e h.type h.before h.source h.value.value)
        (λ v vs r.
        store_alike whole apart c temporaries_apart site k time at in_outs lies same_in_outs sections x (referent c.num.scope.world (variable_in c.num.scope x)) (c.num.place x) h.type h.place h.typed v r.typed h.source g f n vs r.number a
        (keeps f n h.value.wire ws vs h.type h.source v h.value.value.free r fr)))
    statement_alike (Call i args) below d lines le h g f n ws a fr =
        call_alike whole apart c temporaries_apart site k time at in_outs lies same_in_outs call standard calls below d le i args lines h g f n ws a fr
    statement_alike (If e ss) below d lines le h g f n ws a fr =
        let sections = section_does d c.text in
        let last = line.If h.1 h.2 ∷ [] in
        let inner = section_alike ss below d h.2 h.3 le h.6 (λ lower low. statements_alike ss h.2 lower h.3 low h.7) in
        alike_as _ _ (ap (λ ls. lines_do sections c.text own_here ls n ws) h.4 ∙ lines_append sections c.text own_here h.0 last n ws)
        (alike_truth g n (Reads own_here n h.5.wire ws ty.Bool h.1) (value_of e (setting c.num.scope site) g.store f) (lines_do sections c.text own_here h.0 n ws)
        (λ b. if b then statements_run ss (setting c.num.scope site) call g f else Ended g f) (lines_do sections c.text own_here last) (is_on own_here h.1 n) a
        (value_runs whole apart c temporaries_apart site k time at in_outs lies same_in_outs sections g f n ws a fr h.5.wire e ty.Bool h.0 h.1 h.5.value)
        (λ v vs r. (r.typed, ap is_true r.number))
        (λ v vs r.
        alike_as _ _ (last_line sections c.text own_here (if is_on own_here h.1 n vs then sections own_here h.2 n vs else Ended n vs))
        (by_test (is_on own_here h.1 n vs) vs (keeps f n h.5.wire ws vs ty.Bool h.1 v h.5.value.free r fr) inner)))
      where
        by_test : (b : Bool) (vs : List Value) → own_frame f vs → PiecesAlike (statements_run ss (setting c.num.scope site) call) (section_does d c.text own_here h.2)
            → Alike whole own_frame (if b then statements_run ss (setting c.num.scope site) call g f else Ended g f) (if b then section_does d c.text own_here h.2 n vs else Ended n vs)
        by_test true vs here' inner = inner g f n vs a here'
        by_test false vs here' inner = both_end a here'
    statement_alike (While e ss) below d lines le h g f n ws a fr =
        let sections = section_does d c.text in
        let inner = section_alike ss below d h.3 h.4 le h.8 (λ lower low. statements_alike ss h.3 lower h.4 low h.9) in
        let test = section_lines whole apart c temporaries_apart site k time at in_outs lies same_in_outs d below h.2 h.0 le h.7 in
        alike_as _ _ (ap (λ ls. lines_do sections c.text own_here ls n ws) h.5 ∙ last_line sections c.text own_here (turns_do n.left (sections own_here h.2) (is_on own_here h.1) (sections own_here h.3) n ws))
        (alike_from _ _ (ap (λ fuel. turns fuel (λ g' f'. value_of e (setting c.num.scope site) g'.store f') (statements_run ss (setting c.num.scope site) call) g f) a.left)
        (turns_alike whole apart c temporaries_apart site k time at in_outs lies same_in_outs (λ g' f'. value_of e (setting c.num.scope site) g'.store f') (statements_run ss (setting c.num.scope site) call)
        (sections own_here h.2) (is_on own_here h.1) (sections own_here h.3)
        (λ g' f' m us. Reads own_here m h.6.wire us ty.Bool h.1)
        (λ g' f' m us b i.
        subst (Runs m (Reads own_here m h.6.wire us ty.Bool h.1) (value_of e (setting c.num.scope site) g'.store f')) (sym (test.2 m us))
        (value_runs whole apart c temporaries_apart site k time at in_outs lies same_in_outs (section_does test.0 c.text) g' f' m us b i h.6.wire e ty.Bool h.0 h.1 h.6.value))
        (λ g' f' m us v vs r i. ((r.typed, ap is_true r.number), keeps f' m h.6.wire us vs ty.Bool h.1 v h.6.value.free r i))
        inner n.left g f n ws a fr))
    statement_alike (Case e arms) below d lines le h g f n ws a fr =
        let sections = section_does d c.text in
        let choices = slice_range c.text.arms.items h.2 (h.2 + h.3) in
        let last = line.Case h.1 h.2 h.3 ∷ [] in
        alike_as _ _ (ap (λ ls. lines_do sections c.text own_here ls n ws) h.4 ∙ lines_append sections c.text own_here h.0 last n ws)
        (alike_value g n (Reads own_here n h.5.wire ws ty.Dint h.1) (value_of e (setting c.num.scope site) g.store f) (lines_do sections c.text own_here h.0 n ws)
        (λ v. if same_ty v.ty ty.Dint then arms_run arms (setting c.num.scope site) call v.n g f else Stuck) (lines_do sections c.text own_here last) a
        (value_runs whole apart c temporaries_apart site k time at in_outs lies same_in_outs sections g f n ws a fr h.5.wire e ty.Dint h.0 h.1 h.5.value)
        (λ v vs r.
        alike_from _ _ (ap (λ t. if same_ty t ty.Dint then arms_run arms (setting c.num.scope site) call v.n g f else Stuck) r.typed ∙ ap (λ m. arms_run arms (setting c.num.scope site) call m g f) r.number)
        (alike_as _ _ (last_line sections c.text own_here (case_does sections own_here (choice choices (read own_here (cells_of n vs) h.1)) n vs))
        (arms_alike arms below d choices le h.6 (read own_here (cells_of n vs) h.1) g f n vs a (keeps f n h.5.wire ws vs ty.Dint h.1 v h.5.value.free r fr)))))

    pub statements_alike : (ss : Statements) (below d : ℕ) (lines : List Line) → below ≤ d → AreStatements c below ss lines
        → PiecesAlike (statements_run ss (setting c.num.scope site) call) (lines_do (section_does d c.text) c.text own_here lines)
    statements_alike no_statement below d lines le h g f n ws a fr = alike_as _ _ (ap (λ ls. lines_do (section_does d c.text) c.text own_here ls n ws) h) (both_end a fr)
    statements_alike (statement s ss) below d lines le h g f n ws a fr =
        alike_as _ _ (ap (λ ls. lines_do (section_does d c.text) c.text own_here ls n ws) h.2 ∙ lines_append (section_does d c.text) c.text own_here h.0 h.1 n ws)
        (alike_then _ _ _ _ (statement_alike s below d h.0 le h.3 g f n ws a fr) (λ g' f' m vs b i. statements_alike ss below d h.1 le h.4 g' f' m vs b i))

    pub arms_alike : (arms : Arms) (below d : ℕ) (choices : List Choice) → below ≤ d → AreArms c below arms choices → (m : ℤ)
        → PiecesAlike (arms_run arms (setting c.num.scope site) call m) (case_does (section_does d c.text) own_here (choice choices m))
    arms_alike no_arm below d choices le h m g f n ws a fr = alike_as _ _ (ap (λ cs. case_does (section_does d c.text) own_here (choice cs m) n ws) h) (both_end a fr)
    arms_alike (arm label ss rest) below d choices le h m g f n ws a fr =
        alike_as _ _ (ap (λ cs. case_does (section_does d c.text) own_here (choice cs m) n ws) h.3)
        (chosen_alike label h.0 h.2 d ss rest m (section_alike ss below d h.0 h.1 le h.4 (λ lower low. statements_alike ss h.0 lower h.1 low h.5)) (arms_alike rest below d h.2 le h.6 m) g f n ws a fr)

  pub lines_alike : (ss : List Statement) (below d : ℕ) (lines : List Line) → below ≤ d → AreLines c below ss lines
      → PiecesAlike (list_runs ss (setting c.num.scope site) call) (lines_do (section_does d c.text) c.text own_here lines)
  lines_alike [] below d lines le h g f n ws a fr = alike_as _ _ (ap (λ ls. lines_do (section_does d c.text) c.text own_here ls n ws) h) (both_end a fr)
  lines_alike (s ∷ ss) below d lines le h g f n ws a fr =
      alike_as _ _ (ap (λ ls. lines_do (section_does d c.text) c.text own_here ls n ws) h.2 ∙ lines_append (section_does d c.text) c.text own_here h.0 h.1 n ws)
      (alike_then _ _ _ _ (statement_alike s below d h.0 le h.3 g f n ws a fr) (λ g' f' m vs b i. lines_alike ss below d h.1 le h.4 g' f' m vs b i))
