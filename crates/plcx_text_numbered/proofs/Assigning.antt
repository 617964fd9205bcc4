-- Assignments, conditions and loops of a body at an instance.
use Rattle.std.proofs.Common.{◌≡◌, ℕ, zero, suc, ◌+◌, ◌≤◌, ℤ, pos, Bool, true, false, List, [], ◌∷◌, length, set, Some, refl, sym, ap, ◌∙◌, subst, arith}
use Rattle.std.specs.Prelude.{slice_get, if◌then◌else◌}
use Rattle.std.specs.Str.{bytes_eq}
use Rattle.std.proofs.lemmas.List.{length-set}
use Rattle.std.proofs.lemmas.Slice.Eq.{bytes_eq-Decides}
use Rattle.plcx_types.specs.declared.ty.Ty.{Ty}
use Rattle.plcx_types.specs.declared.ty.Ty.TheVariants as ty
use Rattle.plcx_types.specs.Name.{in_lower_case}
use Rattle.plcx_types.specs.TypeName.{same_ty}
use Rattle.plcx_types.specs.Value.{Value}
use Rattle.plcx_types.proofs.TypeTable.{same_refl}
use Rattle.plcx_meaning.specs.Base.{Path, same_path, is_true, put, OutOfTurns, Outcome, Ended, Stopped, Stuck, then_do, spend, found, Site}
use Rattle.plcx_meaning.specs.Tree.{Expression}
use Rattle.plcx_meaning.specs.Functions.{Answer}
use Rattle.plcx_meaning.specs.Execute.{Referent, Temporary, Kept, Bound, Instance, Unknown, TextState, Frame, hold, value_of, assign, turns}
use Rattle.plcx_meaning.specs.Typed.{referent_type}
use Rattle.plcx_steps.specs.declared.program.Operand.TheVariants.{Leaf, InOut}
use Rattle.plcx_steps.specs.declared.program.Source.{Source}
use Rattle.plcx_steps.specs.declared.program.Instance.{Instance as Standing}
use Rattle.plcx_steps.specs.Numbered.{Here, here_at, source_at, read}
use Rattle.plcx_numbered.specs.Agreeing.{AreApart, plain_path}
use Rattle.plcx_numbered.proofs.Keys.{paths_decide}
use Rattle.plcx_numbered.proofs.Holding.{holds_set}
use Rattle.plcx_text_steps.specs.declared.text.Line.{Line}
use Rattle.plcx_text_steps.specs.declared.text.Section.{Section}
use Rattle.plcx_text_steps.specs.Numbered.{Numbers, Sections, cells_of, lines_do, section_does}
use Rattle.plcx_text_steps.specs.Numbered.{turns as turns_do}
use Rattle.plcx_text_numbered.specs.Agreeing.{Lies, SameInOuts, Agree, plain_name, SameFrame, Alike, IsBelow, Reads, Runs}
use Rattle.plcx_text_numbered.specs.Prepared.{Place, Held, Stored, lines_of}
use Rattle.plcx_text_numbered.specs.Right.{IsPlaceOf}
use Rattle.plcx_text_numbered.specs.Setting.{setting}
use Rattle.plcx_text_numbered.specs.Statements.{Around, IsExpression, store_line, IsSection}
use Rattle.plcx_text_numbered.proofs.Runs.{frame_below}
use Rattle.plcx_text_numbered.proofs.Values.{computes}
use Rattle.plcx_text_numbered.proofs.Alikes.{both_end, both_stop, alike_then, alike_from, alike_spend, alike_truth}

-- a leaf is written
pub agree_set : (whole : List Path) → AreApart whole → (g : TextState) (n : Numbers) (p : Path) (i : ℕ) (v : ℤ) (w : Value) → slice_get whole i ≡ Some p → v ≡ w.n → Agree whole g n
    → Agree whole (record g { store = put g.store p v }) (record n { values = set n.values i w })
agree_set whole apart g n p i v w there is a = record { store = holds_set plain_path same_path paths_decide whole apart g.store n.values i p v w there is a.store; left = a.left }

pub agree_left : (whole : List Path) (g : TextState) (n : Numbers) (left : ℕ) → Agree whole g n → Agree whole (record g { left = left }) (record n { left = left })
agree_left whole g n left a = record { store = a.store; left = refl }

module _ (whole : List Path) (apart : AreApart whole) (c : Around) (temporaries_apart : AreApart c.own.plan.temporaries) (site : Site) (k : ℕ) (time : ℕ) (at : Standing) (in_outs : List ℕ)
    (lies : Lies whole c.own.plan.paths site.path at.leaves) (same_in_outs : SameInOuts whole c.own.plan.in_outs site.bound in_outs) where
  abbrev pub here : Here
  here = here_at c.program (pos time) k at in_outs

  -- the first wires are the temporaries, and there are as many as the body has
  pub record InFrame (f : Frame) (ws : List Value) : Type 0 where
    pub frame : SameFrame c.own.plan.temporaries f ws
    pub width_is : length ws ≡ c.width

  pub in_frame : (f : Frame) (wire : ℕ) (ws vs : List Value) → length c.own.plan.temporaries ≤ wire → IsBelow wire ws vs → InFrame f ws → InFrame f vs
  in_frame f wire ws vs le b fr = record { frame = frame_below c.own.plan.temporaries f wire ws vs le b fr.frame; width_is = b.count ∙ fr.width_is }

  -- the lines of an expression
  pub value_runs : (sections : Sections) (g : TextState) (f : Frame) (n : Numbers) (ws : List Value) → Agree whole g n → InFrame f ws → (wire : ℕ) (e : Expression) (t : Ty) (lines : List Line) (source : Source) → IsExpression c wire e t lines source
      → Runs n (Reads here n wire ws t source) (value_of e (setting c.num.scope site) g.store f) (lines_do sections c.text here lines n ws)
  value_runs sections g f n ws a fr wire e t lines source h =
      let room = h.room in
      let wide = fr.width_is in
      let P : List Line → Type 0 = λ ls. Runs n (Reads here n wire ws t source) (value_of e (setting c.num.scope site) g.store f) (lines_do sections c.text here ls n ws) in
      let Q : Source → Type 0 = λ s. Runs n (Reads here n wire ws t s) (value_of e (setting c.num.scope site) g.store f) (lines_do sections c.text here (lines_of c.num h.first wire e) n ws) in
      subst P (sym h.are_lines) (subst Q (sym h.is_source) (computes whole c.own.plan c.num site sections c.text here g f n lies same_in_outs a e t h.typed h.right h.first wire ws h.has h.free (omega arith) fr.frame))

  -- a value goes to the place of a name
  pub store_alike : (sections : Sections) (x : List ℕ) (r : Referent) (p : Place) (t : Ty) → IsPlaceOf c.own.plan x r p → referent_type r ≡ Some t → (v : Value) → v.ty ≡ t → (source : Source) (g : TextState) (f : Frame) (n : Numbers) (ws : List Value)
      → v.n ≡ read here (cells_of n ws) source → Agree whole g n → InFrame f ws → Alike whole InFrame (assign r x site v g f) (lines_do sections c.text here (store_line p source ∷ []) n ws)
  store_alike sections x (Temporary u) (Held w) t h typed v is source g f n ws reads a fr =
      let same : u ≡ t = cc in
      alike_from _ _ (ap (λ b. if b then Ended g (hold f x v.n) else Stuck) (ap (λ s. same_ty s u) (is ∙ sym same) ∙ same_refl u))
      (both_end a (record {
        frame = holds_set plain_name bytes_eq bytes_eq-Decides c.own.plan.temporaries temporaries_apart f ws w (in_lower_case x) v.n (source_at here (cells_of n ws) source) h reads fr.frame;
        width_is = length-set ws w (source_at here (cells_of n ws) source) ∙ fr.width_is;
      }))
  store_alike sections x (Temporary u) (Stored o) t h typed v is source g f n ws reads a fr = absurd h
  store_alike sections x (Kept u) (Held w) t h typed v is source g f n ws reads a fr = absurd h
  store_alike sections x (Kept u) (Stored (Leaf offset)) t h typed v is source g f n ws reads a fr =
      let same : u ≡ t = cc in
      let p = in_lower_case x ∷ site.path in
      alike_from _ _ (ap (λ b. if b then Ended (record g { store = put g.store p v.n }) f else Stuck) (ap (λ s. same_ty s u) (is ∙ sym same) ∙ same_refl u))
      (both_end (agree_set whole apart g n p (at.leaves + offset) v.n (source_at here (cells_of n ws) source) (lies.paths offset (in_lower_case x ∷ []) h) reads a) fr)
  store_alike sections x (Kept u) (Stored (InOut j)) t h typed v is source g f n ws reads a fr = absurd h
  store_alike sections x (Bound u) (Held w) t h typed v is source g f n ws reads a fr = absurd h
  store_alike sections x (Bound u) (Stored (Leaf offset)) t h typed v is source g f n ws reads a fr = absurd h
  store_alike sections x (Bound u) (Stored (InOut j)) t h typed v is source g f n ws reads a fr =
      let same : u ≡ t = cc in
      let p = site.bound (in_lower_case x) in
      alike_from _ _ (ap (λ b. if b then Ended (record g { store = put g.store p v.n }) f else Stuck) (ap (λ s. same_ty s u) (is ∙ sym same) ∙ same_refl u))
      (both_end (agree_set whole apart g n p _ v.n (source_at here (cells_of n ws) source) (same_in_outs.each j (in_lower_case x) h) reads a) fr)
  store_alike sections x (Instance type) p t h typed v is source g f n ws reads a fr = absurd h
  store_alike sections x Unknown p t h typed v is source g f n ws reads a fr = absurd h

  -- a loop, whose test and body are alike
  pub turns_alike : (test : TextState → Frame → Answer Value) (body : TextState → Frame → Outcome TextState Frame) (before : Numbers → List Value → Outcome Numbers (List Value)) (on : Numbers → List Value → Bool) (turn : Numbers → List Value → Outcome Numbers (List Value))
      → (R : TextState → Frame → Numbers → List Value → Value → List Value → Type 0)
      → ((g : TextState) (f : Frame) (n : Numbers) (ws : List Value) → Agree whole g n → InFrame f ws → Runs n (R g f n ws) (test g f) (before n ws))
      → ((g : TextState) (f : Frame) (n : Numbers) (ws : List Value) (v : Value) (vs : List Value) → R g f n ws v vs → InFrame f ws → ((v.ty ≡ ty.Bool) × (is_true v.n ≡ on n vs)) × InFrame f vs)
      → ((g : TextState) (f : Frame) (n : Numbers) (ws : List Value) → Agree whole g n → InFrame f ws → Alike whole InFrame (body g f) (turn n ws))
      → (fuel : ℕ) (g : TextState) (f : Frame) (n : Numbers) (ws : List Value) → Agree whole g n → InFrame f ws → Alike whole InFrame (turns fuel test body g f) (turns_do fuel before on turn n ws)
  turns_alike test body before on turn R runs facts bodies zero g f n ws a fr =
      alike_truth g n (R g f n ws) (test g f) (before n ws) (λ b. if b then Stopped OutOfTurns g else Ended g f) (λ m vs. if on m vs then Stopped OutOfTurns m else Ended m vs) (on n) a (runs g f n ws a fr) (λ v vs r. (facts g f n ws v vs r fr).0)
      (λ v vs r. by_test (on n vs) vs (facts g f n ws v vs r fr).1)
    where
      by_test : (b : Bool) (vs : List Value) → InFrame f vs → Alike whole InFrame (if b then Stopped OutOfTurns g else Ended g f) (if b then Stopped OutOfTurns n else Ended n vs)
      by_test true vs h = both_stop OutOfTurns a
      by_test false vs h = both_end a h
  turns_alike test body before on turn R runs facts bodies (suc fuel) g f n ws a fr =
      alike_truth g n (R g f n ws) (test g f) (before n ws) (λ b. if b then spend g.left g (λ left. then_do (body (record g { left = left }) f) (turns fuel test body)) else Ended g f)
      (λ m vs. if on m vs then spend m.left m (λ left. then_do (turn (record m { left = left }) vs) (turns_do fuel before on turn)) else Ended m vs) (on n) a (runs g f n ws a fr) (λ v vs r. (facts g f n ws v vs r fr).0)
      (λ v vs r. by_test (on n vs) vs (facts g f n ws v vs r fr).1 (λ h l m us b i. turns_alike test body before on turn R runs facts bodies fuel h l m us b i))
    where
      by_test : (b : Bool) (vs : List Value) → InFrame f vs → ((h : TextState) (l : Frame) (m : Numbers) (us : List Value) → Agree whole h m → InFrame l us → Alike whole InFrame (turns fuel test body h l) (turns_do fuel before on turn m us))
          → Alike whole InFrame (if b then spend g.left g (λ left. then_do (body (record g { left = left }) f) (turns fuel test body)) else Ended g f)
          (if b then spend n.left n (λ left. then_do (turn (record n { left = left }) vs) (turns_do fuel before on turn)) else Ended n vs)
      by_test true vs h again =
          alike_from _ _ (ap (λ left'. spend left' g (λ left. then_do (body (record g { left = left }) f) (turns fuel test body))) a.left)
          (alike_spend n.left g n _ _ a (λ left. alike_then _ _ _ _ (bodies (record g { left = left }) f (record n { left = left }) vs (agree_left whole g n left a) h) (λ h' l m us b i. again h' l m us b i)))
      by_test false vs h again = both_end a h

  -- a section is its lines, one level lower
  pub section_lines : (d below number : ℕ) (lines : List Line) → below ≤ d → IsSection c.text below number lines → (e : ℕ) × (number ≤ e) × ((n : Numbers) (ws : List Value) → section_does d c.text here number n ws ≡ lines_do (section_does e c.text) c.text here lines n ws)
  section_lines zero below number lines le h = let low = h.low in absurd (omega arith)
  section_lines (suc d) below number lines le h =
      let low = h.low in (
        d,
        omega arith,
        λ n ws.
            ap (λ o. found o (λ (s : Section). lines_do (section_does d c.text) c.text here s.lines.items n ws)) h.is
            ∙ ap (λ ls. lines_do (section_does d c.text) c.text here ls n ws) h.are_lines,
      )
