-- A body does what its text does: its networks one after another, or a loop in which each network is an arm.
use Rattle.std.proofs.Common.{◌≡◌, ◌≤◌, ℕ, zero, suc, ◌+◌, pos, Bool, true, false, List, [], ◌∷◌, ◌++◌, length, Option, Some, None, refl, sym, ap, ◌∙◌, subst, arith, if◌then◌else◌, slice_get, map, eq-eqb, ne_eqb, lt-ltb, le-ltb}
use Rattle.std.proofs.lemmas.Option.{slice_get_within}
use Rattle.plcx_types.specs.declared.ty.Ty.TheVariants as ty
use Rattle.plcx_types.specs.Name.{in_lower_case}
use Rattle.plcx_types.specs.Value.{Value}
use Rattle.plcx_funcs.specs.Applied.{value}
use Rattle.plcx_types.specs.Lists.{Each}
use Rattle.plcx_meaning.specs.Base.{is_true, OutOfTurns, Outcome, Ended, Stopped, then_do, spend}
use Rattle.plcx_meaning.specs.Tree.{Name, Binary, Less, Assign, If, While, Case, statements, arms}
use Rattle.plcx_meaning.specs.Layout.{Variable}
use Rattle.plcx_meaning.specs.Functions.{Answer, Given}
use Rattle.plcx_meaning.specs.Diagram.{ElementKind, Still, In, Out, Contact, Coil, Pass, Label, Jump, Return, Function, Call, Port, ports, DiagramElement, has_jump, target}
use Rattle.plcx_meaning.specs.Evaluate.{DiagramState, Wires, no_wires, DiagramCalls, DiagramSetting, elements_do, straight, leads_to, chosen, successor, at_network, jumping, body_does}
use Rattle.plcx_meaning.specs.Execute.{TextState, Frame, hold, with_truth, TextSetting, referent_of, Temporary, TextCalls, value_of, statement_runs, statements_run, arms_run, list_runs, turns}
use Rattle.plcx_meaning.specs.Templates.{wire_name, counter_name, wire, dint, elements_text, choice_text, choices_text, turn_text, arms_text, straight_text, jumping_text, body_text}
use Rattle.plcx_meaning.specs.Same.{Agree}
use Rattle.plcx_meaning.specs.Fits.{fixed_by}
use Rattle.plcx_meaning.proofs.Alike.{Alike, both_end, both_stop, alike_then, alike_as, alike_from}
use Rattle.plcx_meaning.proofs.Asked.{OwnAsked, ElementsAsked, BodyAsked, SameWires, done_after, ElementsAlike}
use Rattle.plcx_meaning.proofs.Lists.{each_weaker}
use Rattle.plcx_meaning.proofs.Names.{wire_not_counter}
use Rattle.plcx_meaning.proofs.BodiesSteps.{then_ended, run_append, run_within, agree_turns, alike_spend}

-- the wires, and the number of the network that follows
abbrev pub AtNext : List (ℕ × Port) → (Wires → ℕ) → Wires → Frame → Type 0
AtNext done next ws f = SameWires done ws f × (f (in_lower_case counter_name) ≡ pos (next ws))

-- behind a body its temporaries no longer count
abbrev pub Anything : Unit {0} → Frame → Type 0
Anything u f = Unit {0}

each_before : (P : (ℕ × Port) → Type 0) (xs ys : List (ℕ × Port)) → Each P (xs ++ ys) → Each P xs × Each P ys
each_before P [] ys all = (tt, all)
each_before P (x ∷ xs) ys all = let rest = each_before P xs ys all.1 in ((all.0, rest.0), rest.1)

-- what holds of all that is fixed behind elements holds of what was fixed before
each_behind : (P : (ℕ × Port) → Type 0) (es : List DiagramElement) (done : List (ℕ × Port)) → Each P (done_after es done) → Each P done
each_behind P [] done all = all
each_behind P (e ∷ es) done all = (each_before P (fixed_by e) done (each_behind P es (fixed_by e ++ done) all)).1

pub each_get : {A : Type 0} (P : A → Type 0) (xs : List A) (i : ℕ) (x : A) → Each P xs → slice_get xs i ≡ Some x → P x
each_get P [] i x all e = absurd (cc)
each_get P (y ∷ ys) zero x all e = let same : y ≡ x = cc in subst P same all.0
each_get P (y ∷ ys) (suc i) x all e = each_get P ys i x all.1 e

none_past : {A : Type 0} (xs : List A) (i : ℕ) → slice_get xs i ≡ None → length xs ≤ i
none_past [] i e = omega arith
none_past (x ∷ xs) zero e = absurd (cc)
none_past (x ∷ xs) (suc i) e = let h = none_past xs i e in omega arith

module _ (c : TextSetting) (pou : ℕ) (vs : List Variable) (called : DiagramCalls) (call : TextCalls) (networks : List (List DiagramElement))
    (elements : ElementsAlike c pou vs called call) where
  abbrev setting : DiagramSetting
  setting = record { pou = pou; variables = vs; site = c.site; called = called }

  module _ (counter : referent_of c counter_name ≡ Temporary ty.Dint) where
    -- the counter is set
    count : (n : ℕ) (g : TextState) (f : Frame) → statement_runs (Assign counter_name (dint n)) c call g f ≡ Ended g (hold f counter_name (pos n))
    count n g f = rw (counter) refl

    -- it is none of the wires
    counted : (done : List (ℕ × Port)) (ws : Wires) (f : Frame) (n : ℕ) → SameWires done ws f → SameWires done ws (hold f counter_name (pos n))
    counted done ws f n same =
        each_weaker _ _ done (λ d h. h ∙ sym (ap (λ b. if b then pos n else f (in_lower_case (wire_name d.0 d.1.pin))) (wire_not_counter d.0 d.1.pin))) same

    -- one jump or return
    goes : (id to : ℕ) → referent_of c (wire_name id []) ≡ Temporary ty.Bool → (done : List (ℕ × Port)) (other : Wires → ℕ) (d : DiagramState) (ws : Wires) (g : TextState) (f : Frame)
        → ws id [] ≡ f (in_lower_case (wire_name id [])) → Agree d g → AtNext done other ws f
        → Alike (AtNext done (λ l. chosen (Some to) (l id []) (other l))) (Ended d ws) (list_runs (If (wire id []) (statements (Assign counter_name (dint to) ∷ [])) ∷ []) c call g f)
    goes id to temporary done other d ws g f same a at = alike_as _ _ (then_ended _ ∙ known) (by_test (is_true (ws id [])) refl)
      where
        known : statement_runs (If (wire id []) (statements (Assign counter_name (dint to) ∷ []))) c call g f ≡ (if is_true (ws id []) then Ended g (hold f counter_name (pos to)) else Ended g f)
        known = rw (temporary, counter, ← same) refl

        by_test : (b : Bool) → is_true (ws id []) ≡ b → Alike (AtNext done (λ l. chosen (Some to) (l id []) (other l))) (Ended d ws) (if b then Ended g (hold f counter_name (pos to)) else Ended g f)
        by_test true e = both_end a (counted done ws f to at.0, ap pos (sym (ap (λ b. if b then to else other ws) e)))
        by_test false e = both_end a (at.0, at.1 ∙ ap pos (sym (ap (λ b. if b then to else other ws) e)))

    choice_alike : (e : DiagramElement) (before done : List (ℕ × Port)) → OwnAsked c e → (other : Wires → ℕ) (d : DiagramState) (ws : Wires) (g : TextState) (f : Frame)
        → Each (λ (o : ℕ × Port). ws o.0 o.1.pin ≡ f (in_lower_case (wire_name o.0 o.1.pin))) (fixed_by e) → Agree d g → AtNext done other ws f
        → Alike (AtNext done (λ l. chosen (leads_to networks e.kind) (l e.id []) (other l))) (Ended d ws) (list_runs (choice_text networks e) c call g f)
    choice_alike e before done own other d ws g f same a at = by_kind e.kind own.wires same
      where
        by_kind : (k : ElementKind)
            → Each (λ (o : Port). referent_of c (wire_name e.id o.pin) ≡ Temporary o.ty) (ports k)
            → Each (λ (o : ℕ × Port). ws o.0 o.1.pin ≡ f (in_lower_case (wire_name o.0 o.1.pin))) (map (λ (o : Port). (e.id, o)) (ports k))
            → Alike (AtNext done (λ l. chosen (leads_to networks k) (l e.id []) (other l))) (Ended d ws)
            (list_runs (elim (leads_to networks k) [ Some n ↦ If (wire e.id []) (statements (Assign counter_name (dint n) ∷ [])) ∷ [] | None ↦ [] ]) c call g f)
        by_kind (Jump label link) wires known = goes e.id (target label networks) wires.0 done other d ws g f known.0 a at
        by_kind (Return link) wires known = goes e.id (length networks) wires.0 done other d ws g f known.0 a at
        by_kind Still wires known = both_end a at
        by_kind (In t negated operand) wires known = both_end a at
        by_kind (Out how x link) wires known = both_end a at
        by_kind (Contact how operand link) wires known = both_end a at
        by_kind (Coil how x link) wires known = both_end a at
        by_kind (Pass link) wires known = both_end a at
        by_kind (Label name) wires known = both_end a at
        by_kind (Function func t enable inputs negated) wires known = both_end a at
        by_kind (Call i enable inputs in_outs outputs) wires known = both_end a at

    choices_alike : (es : List DiagramElement) (next : ℕ) (before : List (ℕ × Port)) → ElementsAsked c vs before es → (d : DiagramState) (ws : Wires) (g : TextState) (f : Frame)
        → Agree d g → AtNext (done_after es before) (λ l. next) ws f
        → Alike (AtNext (done_after es before) (successor networks es next)) (Ended d ws) (list_runs (choices_text networks es) c call g f)
    choices_alike [] next before asked d ws g f a at = both_end a at
    choices_alike (e ∷ es) next before asked d ws g f a at =
        let done = done_after es (fixed_by e ++ before) in
        alike_as _ _ (run_append (choices_text networks es) (choice_text networks e) c call g f)
        (alike_then (Ended d ws) _ (λ d' ws'. Ended d' ws') _ (choices_alike es next (fixed_by e ++ before) asked.3 d ws g f a at) (λ d' ws' g' f' a' at'.
        choice_alike e before done asked.0 (successor networks es next) d' ws' g' f'
        (each_before (λ (o : ℕ × Port). ws' o.0 o.1.pin ≡ f' (in_lower_case (wire_name o.0 o.1.pin))) (fixed_by e) before
        (each_behind (λ (o : ℕ × Port). ws' o.0 o.1.pin ≡ f' (in_lower_case (wire_name o.0 o.1.pin))) es (fixed_by e ++ before) at'.0)).0
        a' at'))

    -- one network and its arm
    turn_alike : (es : List DiagramElement) (next : ℕ) → ElementsAsked c vs [] es → (d : DiagramState) (g : TextState) (f : Frame) → Agree d g
        → Alike (AtNext (done_after es []) (successor networks es next)) (elements_do es setting d no_wires) (list_runs (turn_text networks next es) c call g f)
    turn_alike es next asked d g f a =
        alike_as _ _ (run_append (elements_text es) (Assign counter_name (dint next) ∷ choices_text networks es) c call g f)
        (alike_from _ _ (sym (then_ended (elements_do es setting d no_wires)))
        (alike_then (elements_do es setting d no_wires) _ (λ d' ws'. Ended d' ws') _ (elements [] es asked d no_wires g f a tt) (λ d' ws' g' f' a' same.
        alike_as _ _ (ap (λ o. then_do o (list_runs (choices_text networks es) c call)) (count next g' f'))
        (choices_alike es next [] asked d' ws' g' (hold f' counter_name (pos next)) a' (counted (done_after es []) ws' f' next same, refl)))))

    -- the arm of a network is found by its number
    arm_at : (ns : List (List DiagramElement)) (i j v : ℕ) (es : List DiagramElement) (g : TextState) (f : Frame) → v ≡ i + j → slice_get ns j ≡ Some es
        → arms_run (arms (arms_text networks i ns)) c call (pos v) g f ≡ list_runs (turn_text networks (v + 1) es) c call g f
    arm_at [] i j v es g f at e = absurd (cc)
    arm_at (m ∷ ns) i zero v es g f at e =
        let here : m ≡ es = cc in
        let same : v ≡ i = omega arith in
        rw (eq-eqb v i same, same) (run_within (turn_text networks (i + 1) m) c call g f ∙ ap (λ k. list_runs (turn_text networks (i + 1) k) c call g f) here)
    arm_at (m ∷ ns) i (suc j) v es g f at e =
        let other = ne_eqb v i (λ h. omega arith) in
        rw (other) (arm_at ns (i + 1) j v es g f (omega arith) e)

    abbrev loop_test : TextState → Frame → Answer Value
    loop_test g f = value_of (Binary Less (Name counter_name) (dint (length networks))) c g.store f

    abbrev loop_body : TextState → Frame → Outcome TextState Frame
    loop_body = statements_run (statements (Case (Name counter_name) (arms (arms_text networks 0 networks)) ∷ [])) c call

    case_at : (i : ℕ) (es : List DiagramElement) (g : TextState) (f : Frame) → f (in_lower_case counter_name) ≡ pos i → slice_get networks i ≡ Some es
        → loop_body g f ≡ list_runs (turn_text networks (i + 1) es) c call g f
    case_at i es g f at e =
        let found : statement_runs (Case (Name counter_name) (arms (arms_text networks 0 networks))) c call g f ≡ arms_run (arms (arms_text networks 0 networks)) c call (f (in_lower_case counter_name)) g f = rw (counter) refl in
        then_ended _ ∙ found ∙ ap (λ n. arms_run (arms (arms_text networks 0 networks)) c call n g f) at ∙ arm_at networks 0 i i es g f (omega arith) e

    past : (i : ℕ) (g : TextState) (f : Frame) → f (in_lower_case counter_name) ≡ pos i → slice_get networks i ≡ None → loop_test g f ≡ Given (value ty.Bool (pos 0))
    past i g f at e = rw (counter, at, le-ltb i (length networks) (none_past networks i e)) refl

    within : (i : ℕ) (es : List DiagramElement) (g : TextState) (f : Frame) → f (in_lower_case counter_name) ≡ pos i → slice_get networks i ≡ Some es → loop_test g f ≡ Given (value ty.Bool (pos 1))
    within i es g f at e = rw (counter, at, lt-ltb i (length networks) (slice_get_within networks i es e)) refl

    -- the loop from a network on; both sides have the same count of turns
    jumping_alike : Each (ElementsAsked c vs []) networks → (n i : ℕ) (d : DiagramState) (g : TextState) (f : Frame) → Agree d g → f (in_lower_case counter_name) ≡ pos i
        → Alike Anything (jumping n networks setting i d) (turns n loop_test loop_body g f)
    jumping_alike asked zero i d g f a at = by_network (slice_get networks i) refl
      where
        by_network : (o : Option (List DiagramElement)) → slice_get networks i ≡ o → Alike Anything (at_network o d (λ es. Stopped OutOfTurns d)) (turns zero loop_test loop_body g f)
        by_network None e = alike_as _ _ (ap (λ v. with_truth v g (λ b. if b then Stopped OutOfTurns g else Ended g f)) (past i g f at e)) (both_end a tt)
        by_network (Some es) e = alike_as _ _ (ap (λ v. with_truth v g (λ b. if b then Stopped OutOfTurns g else Ended g f)) (within i es g f at e)) (both_stop OutOfTurns a)
    jumping_alike asked (suc n) i d g f a at = by_network (λ j. jumping_alike asked n j) (slice_get networks i) refl
      where
        rest : ℕ → Outcome TextState Frame
        rest left = then_do (loop_body (record g { left = left }) f) (turns n loop_test loop_body)

        turn : List DiagramElement → ℕ → Outcome DiagramState (Unit {0})
        turn es left = then_do (elements_do es setting (record d { left = left }) no_wires) (λ d' ws. jumping n networks setting (successor networks es (i + 1) ws) d')

        by_network : ((j : ℕ) (d : DiagramState) (g : TextState) (f : Frame) → Agree d g → f (in_lower_case counter_name) ≡ pos j → Alike Anything (jumping n networks setting j d) (turns n loop_test loop_body g f))
            → (o : Option (List DiagramElement)) → slice_get networks i ≡ o → Alike Anything (at_network o d (λ es. spend d.left d (turn es))) (turns (suc n) loop_test loop_body g f)
        by_network again None e = alike_as _ _ (ap (λ v. with_truth v g (λ b. if b then spend g.left g rest else Ended g f)) (past i g f at e)) (both_end a tt)
        by_network again (Some es) e =
            alike_as _ _ (ap (λ v. with_truth v g (λ b. if b then spend g.left g rest else Ended g f)) (within i es g f at e))
            (alike_spend d.left g.left d g (turn es) rest a.lefts a (λ left.
            alike_then _ _ _ _
            (alike_as _ _ (case_at i es (record g { left = left }) f at e)
            (turn_alike es (i + 1) (each_get (ElementsAsked c vs []) networks i es asked e) (record d { left = left }) (record g { left = left }) f (agree_turns d g left a)))
            (λ d' ws' g' f' a' at'. again (successor networks es (i + 1) ws') d' g' f' a' at'.1)))

  straight_alike : (ns : List (List DiagramElement)) → Each (ElementsAsked c vs []) ns → (d : DiagramState) (g : TextState) (f : Frame) → Agree d g
      → Alike Anything (straight ns setting d) (list_runs (straight_text ns) c call g f)
  straight_alike [] asked d g f a = both_end a tt
  straight_alike (es ∷ ns) asked d g f a =
      alike_as _ _ (run_append (elements_text es) (straight_text ns) c call g f)
      (alike_then _ _ _ _ (elements [] es asked.0 d no_wires g f a tt) (λ d' ws' g' f' a' same. straight_alike ns asked.1 d' g' f' a'))

  -- a whole body
  pub body_alike : BodyAsked c vs networks → (d : DiagramState) (g : TextState) (f : Frame) → Agree d g → Alike Anything (body_does networks setting d) (list_runs (body_text networks) c call g f)
  body_alike asked d g f a = by_shape (has_jump networks) refl
    where
      by_shape : (b : Bool) → has_jump networks ≡ b
          → Alike Anything (if b then jumping d.left networks setting 0 d else straight networks setting d) (list_runs (if b then jumping_text networks else straight_text networks) c call g f)
      by_shape true e =
          let counter = asked.counter e in
          alike_as _ _
          (ap (λ o. then_do o (list_runs (While (Binary Less (Name counter_name) (dint (length networks))) (statements (Case (Name counter_name) (arms (arms_text networks 0 networks)) ∷ [])) ∷ []) c call)) (count counter 0 g f)
          ∙ then_ended _)
          (alike_from _ _ (ap (λ n. jumping n networks setting 0 d) a.lefts)
          (jumping_alike counter asked.networks g.left 0 d g (hold f counter_name (pos 0)) a refl))
      by_shape false e = straight_alike networks asked.networks d g f a
