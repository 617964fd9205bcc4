-- Lists of scans and restarts: the text of a project does what the project does.
use Rattle.std.proofs.Common.{◌≡◌, ◌≢◌, ℕ, zero, suc, ℤ, Bool, true, false, ◌&&◌, List, [], ◌∷◌, refl, sym, ap, ap₂, ◌∙◌, subst, if◌then◌else◌}
use Rattle.std.specs.Prelude.{not}
use Rattle.std.specs.List.{Contains}
use Rattle.std.specs.Option.{option_map}
use Rattle.std.proofs.lemmas.Bool.{and_parts, and_from}
use Rattle.plcx_types.specs.declared.ty.Ty.{Ty}
use Rattle.plcx_types.specs.Name.{in_lower_case}
use Rattle.plcx_types.specs.Reserved.{is_own}
use Rattle.plcx_types.specs.Lists.{Each}
use Rattle.plcx_meaning.specs.Base.{Path, is_declared, Memory, Outcome, Ended, Stopped, Stuck}
use Rattle.plcx_meaning.specs.Tree.{Mark}
use Rattle.plcx_meaning.specs.Layout.{Variable, Meaning, Elementary, Composed, meaning, Scope, is_retained, initial_at, Spelling, path_of, Leaf, is_outside, is_constant, leaf_of, is_kept, variable_leaves, leaves, layout, initial_in, IsSpelled, IsOutside, Restart, Warm, Cold, restarted}
use Rattle.plcx_meaning.specs.Run.{Input, Event, Scan, Again, put_inputs, Halted, NoStep, TheStop, Side, told_of, side_after, begin_side, IsInput, AreEvents}
use Rattle.plcx_meaning.specs.Diagram.{Pou, Project}
use Rattle.plcx_meaning.specs.Evaluate.{DiagramState, scope_of, restarted_memories, diagram_machine}
use Rattle.plcx_meaning.specs.Execute.{TextState, TextSetting, TextCalls, text_machine}
use Rattle.plcx_meaning.specs.Execute as text
use Rattle.plcx_meaning.specs.Templates.{memory_name, pou_text, unit_of}
use Rattle.plcx_meaning.specs.Same.{SameValues, SameRuns, IsSame, Behaves, Agree, AgreeThroughout}
use Rattle.plcx_meaning.specs.Fits.{PouFits, ProjectFits}
use Rattle.plcx_meaning.specs.Laws.{OfPrograms, StatesAgree}
use Rattle.plcx_meaning.proofs.Alike.{Alike, Nothing, unheard_agrees, unheard_alike}
use Rattle.plcx_meaning.proofs.Lists.{each_at, each_from, each_weaker, each_flat_map}
use Rattle.plcx_meaning.proofs.Names.{memory_own}
use Rattle.plcx_meaning.proofs.Agree.{agree_set}
use Rattle.plcx_meaning.proofs.BodiesSteps.{agree_turns}
use Rattle.plcx_meaning.proofs.Nesting.{program_alike}
use Rattle.plcx_meaning.proofs.Units.{program_text, program_there}
use Rattle.plcx_meaning.proofs.Layouts.{Extends, own_initial, own_retained, layouts_same, begun_same, begun_own, restarted_same}
use Rattle.plcx_meaning.proofs.Declared.{pou_extends, worlds_extend}
use Rattle.plcx_meaning.proofs.Starts.{initial_alike}

-- what is settable or shown is declared
outside_declared : (p : Path) → is_outside p ≡ true → is_declared p ≡ true
outside_declared [] h = refl
outside_declared (x ∷ []) h = and_from (not (is_own x)) true h refl
outside_declared (x ∷ y ∷ p) h = absurd (cc)

leaf_outside : (c : Scope) (p : Spelling) (t : Ty) (mark : Mark) → IsOutside (leaf_of c p t mark)
leaf_outside c p t mark = ((λ h. outside_declared (path_of p) (and_parts (is_outside (path_of p)) (not (is_constant mark)) h).0), (λ h. outside_declared (path_of p) h))

-- what holds of each leaf that is made holds of each leaf of a program
module _ (P : Leaf → Type 0) (c : Scope) (made : (p : Spelling) (t : Ty) (mark : Mark) → P (leaf_of c p t mark)) where
  of_variable : (inner : Spelling → List Variable → List Leaf) → ((p : Spelling) (vs : List Variable) → Each P (inner p vs)) → (p : Spelling) (v : Variable) → Each P (variable_leaves inner c p v)
  of_variable inner all p v = by_class (is_kept v.class)
    where
      by_meaning : (m : Meaning) → Each P (elim m [ Elementary t ↦ leaf_of c (v.name ∷ p) t v.mark ∷ [] | Composed vs ↦ inner (v.name ∷ p) vs ])
      by_meaning (Elementary t) = (made (v.name ∷ p) t v.mark, tt)
      by_meaning (Composed vs) = all (v.name ∷ p) vs

      by_class : (b : Bool) → Each P (if b then (elim (meaning c.world v.ty) [ Elementary t ↦ leaf_of c (v.name ∷ p) t v.mark ∷ [] | Composed vs ↦ inner (v.name ∷ p) vs ]) else [])
      by_class true = by_meaning (meaning c.world v.ty)
      by_class false = tt

  of_leaves : (n : ℕ) (p : Spelling) (vs : List Variable) → Each P (leaves n c p vs)
  of_leaves zero p vs = tt
  of_leaves (suc n) p vs = each_flat_map P (variable_leaves (leaves n c) c p) vs (each_from _ vs (λ v there. of_variable (leaves n c) (λ q. of_leaves n q) p v))

pub layout_outside : (c : Scope) → Each IsOutside (layout c)
layout_outside c = of_leaves IsOutside c (leaf_outside c) 18 [] c.own

pub layout_spelled : (c : Scope) → Each IsSpelled (layout c)
layout_spelled c = of_leaves IsSpelled c (λ p t mark. refl) 18 [] c.own

input_declared : (ls : List Leaf) → Each IsOutside ls → (i : Input) → IsInput ls i → is_declared i.path ≡ true
input_declared ls all i h = subst (λ p. is_declared p ≡ true) h.3 ((each_at IsOutside ls h.0 all h.1).0 h.2)

inputs_agree : (inputs : List Input) → Each (λ (i : Input). is_declared i.path ≡ true) inputs → (d : DiagramState) (g : TextState) → Agree d g
    → Agree (record d { store = put_inputs inputs d.store }) (record g { store = put_inputs inputs g.store })
inputs_agree [] h d g a = a
inputs_agree (i ∷ is) h d g a = inputs_agree is h.1 _ _ (agree_set d g i.path i.value h.0 a)

pub record SidesAgree (s : Side DiagramState) (t : Side TextState) : Type 0 where
  pub state : Agree s.state t.state
  pub halted : s.halted ≡ t.halted

-- a scan whose outcomes are alike
record After (time : ℕ) (old : DiagramState) (old' : TextState) (o : Outcome DiagramState (Unit {0})) (p : Outcome TextState (Unit {0})) : Type 0 where
  same : told_of o ≡ told_of p
  steps : told_of p ≢ NoStep
  agree : SidesAgree (side_after time old o) (side_after time old' p)

after_alike : (time : ℕ) (old : DiagramState) (old' : TextState) (o : Outcome DiagramState (Unit {0})) (p : Outcome TextState (Unit {0})) → Alike Nothing o p → After time old old' o p
after_alike time old old' (Ended d l) (Ended g k) a = record { same = refl; steps = λ e. cc; agree = record { state = a.is.0; halted = refl } }
after_alike time old old' (Ended d l) (Stopped r g) a = absurd a.is
after_alike time old old' (Ended d l) Stuck a = absurd a.is
after_alike time old old' (Stopped s d) (Ended g k) a = absurd a.is
after_alike time old old' (Stopped s d) (Stopped r g) a = record { same = ap TheStop a.is.0; steps = λ e. cc; agree = record { state = a.is.1; halted = refl } }
after_alike time old old' (Stopped s d) Stuck a = absurd a.is
after_alike time old old' Stuck p a = absurd a.is

-- a scan of two sides, of which a halted one changes nothing but its time
record AfterScan (time : ℕ) (s : Side DiagramState) (t : Side TextState) (x y : Bool) (o : Outcome DiagramState (Unit {0})) (p : Outcome TextState (Unit {0})) : Type 0 where
  same : (if x then Halted else told_of o) ≡ (if y then Halted else told_of p)
  steps : (if y then Halted else told_of p) ≢ NoStep
  agree : SidesAgree (if x then record s { last = time } else side_after time s.state o) (if y then record t { last = time } else side_after time t.state p)

after_scan : (time : ℕ) (s : Side DiagramState) (t : Side TextState) → SidesAgree s t → (x y : Bool) → x ≡ y → (o : Outcome DiagramState (Unit {0})) (p : Outcome TextState (Unit {0})) → After time s.state t.state o p → AfterScan time s t x y o p
after_scan time s t a true true e o p r = record { same = refl; steps = λ h. cc; agree = record { state = a.state; halted = a.halted } }
after_scan time s t a true false e o p r = absurd (cc)
after_scan time s t a false true e o p r = absurd (cc)
after_scan time s t a false false e o p r = record { same = r.same; steps = r.steps; agree = r.agree }

module _ (project : Project) (fits : ProjectFits project) (p : Pou) (there : Contains project p) where
  abbrev c : Scope
  c = scope_of project p

  abbrev e : Scope
  e = text.scope_of (unit_of project) (pou_text p)

  owns : Extends c.own e.own
  owns = pou_extends project p (each_at (PouFits project) project p fits.pous there)

  -- two retained states that are the same on declared paths
  begin_agrees : (kept other : Path → ℤ) → ((q : Path) → is_declared q ≡ true → kept q ≡ other q)
      → SidesAgree (begin_side (diagram_machine project p) kept) (begin_side (text_machine (unit_of project) (pou_text p)) other)
  begin_agrees kept other same = record {
    state = record {
      stores = λ q h. begun_same c e (worlds_extend project fits) owns kept q h ∙ ap (λ v. if is_declared q && is_retained e q then v else initial_at e q) (same q h);
      memories = λ q k h. sym (begun_own c e (worlds_extend project fits) owns other (in_lower_case (memory_name k)) q (memory_own k) h);
      lefts = refl;
    };
    halted = refl;
  }

  memories_restart : (r : Restart) (d : DiagramState) (g : TextState) → Agree d g → (q : Path) (k : Memory) → is_declared q ≡ true
      → restarted_memories c r d.memories q k ≡ restarted e r g.store (in_lower_case (memory_name k) ∷ q)
  memories_restart Warm d g a q k h =
      ap₂ (λ b v. if b then d.memories q k else v)
      (sym (own_retained c e (worlds_extend project fits) owns (in_lower_case (memory_name k)) q (memory_own k) h))
      (sym (own_initial c e (worlds_extend project fits) owns (in_lower_case (memory_name k)) q (memory_own k) h))
      ∙ ap (λ v. if is_retained e (in_lower_case (memory_name k) ∷ q) then v else initial_at e (in_lower_case (memory_name k) ∷ q)) (a.memories q k h)
  memories_restart Cold d g a q k h = sym (own_initial c e (worlds_extend project fits) owns (in_lower_case (memory_name k)) q (memory_own k) h)

  restart_agrees : (r : Restart) (d : DiagramState) (g : TextState) → Agree d g → Agree ((diagram_machine project p).restart r d) ((text_machine (unit_of project) (pou_text p)).restart r g)
  restart_agrees r d g a = record {
    stores = λ q h. restarted_same c e (worlds_extend project fits) owns r d.store g.store q h (a.stores q h);
    memories = λ q k h. memories_restart r d g a q k h;
    lefts = refl;
  }

  module _ (turns : ℕ) where
    scan_alike : (time : ℕ) (inputs : List Input) → Each (IsInput (layout c)) inputs → (d : DiagramState) (g : TextState) → Agree d g
        → After time d g ((diagram_machine project p).scan turns time inputs d) ((text_machine (unit_of project) (pou_text p)).scan turns time inputs g)
    scan_alike time inputs good d g a =
        after_alike time d g _ _
        (unheard_alike _ _
        (program_alike project fits time p there _ _
        (unheard_agrees _ _ []
        (agree_turns _ _ turns (inputs_agree inputs (each_weaker (IsInput (layout c)) _ inputs (λ i h. input_declared (layout c) (layout_outside c) i h) good) d g a)))))

    runs_alike : (es : List Event) (last : ℕ) → AreEvents (layout c) last es → (s : Side DiagramState) (t : Side TextState) → SidesAgree s t
        → SameRuns (diagram_machine project p) (text_machine (unit_of project) (pou_text p)) turns es s t
    runs_alike [] last good s t a = tt
    runs_alike (Scan time inputs ∷ es) last good s t a =
        let both = after_scan time s t a s.halted t.halted a.halted _ _ (scan_alike time inputs good.2 s.state t.state a.state) in
        (both.same, both.steps, both.agree.state.stores, runs_alike es time good.3 _ _ both.agree)
    runs_alike (Again r ∷ es) last good s t a =
        let new = restart_agrees r s.state t.state a.state in
        (refl, (λ e. cc), new.stores, runs_alike es last good _ _ (record { state = new; halted = refl }))

    agree_throughout : (es : List Event) (last : ℕ) → AreEvents (layout c) last es → (s : Side DiagramState) (t : Side TextState) → SidesAgree s t
        → AgreeThroughout (diagram_machine project p) (text_machine (unit_of project) (pou_text p)) turns es s t
    agree_throughout [] last good s t a = tt
    agree_throughout (Scan time inputs ∷ es) last good s t a =
        let both = after_scan time s t a s.halted t.halted a.halted _ _ (scan_alike time inputs good.2 s.state t.state a.state) in
        (both.agree.state, agree_throughout es time good.3 _ _ both.agree)
    agree_throughout (Again r ∷ es) last good s t a =
        let new = restart_agrees r s.state t.state a.state in
        (new, agree_throughout es last good _ _ (record { state = new; halted = refl }))

  pub program_same : IsSame (diagram_machine project p) (text_machine (unit_of project) (pou_text p))
  program_same = record {
    layouts = layouts_same c e (worlds_extend project fits) owns;
    begins = λ kept. (begin_agrees kept kept (λ q h. refl)).state.stores;
    runs = λ kept retained es good turns. runs_alike turns es 0 good _ _ (begin_agrees kept kept (λ q h. refl));
  }

  -- from the initial values on, which each side has from its own leaves
  abbrev left_initial : Path → ℤ
  left_initial = initial_in (diagram_machine project p).layout

  abbrev right_initial : Path → ℤ
  right_initial = initial_in (text_machine (unit_of project) (pou_text p)).layout

  starts_agree : SidesAgree (begin_side (diagram_machine project p) left_initial) (begin_side (text_machine (unit_of project) (pou_text p)) right_initial)
  starts_agree = begin_agrees left_initial right_initial (initial_alike (layout c) (layout e) program_same.layouts)

  pub starts_same : SameValues (diagram_machine project p) (text_machine (unit_of project) (pou_text p))
      (begin_side (diagram_machine project p) left_initial) (begin_side (text_machine (unit_of project) (pou_text p)) right_initial)
  starts_same = starts_agree.state.stores

  pub starts_run : (es : List Event) → AreEvents (layout c) 0 es → (turns : ℕ) → SameRuns (diagram_machine project p) (text_machine (unit_of project) (pou_text p)) turns es
      (begin_side (diagram_machine project p) left_initial) (begin_side (text_machine (unit_of project) (pou_text p)) right_initial)
  starts_run es good turns = runs_alike turns es 0 good _ _ starts_agree

  pub program_agrees : (kept : Path → ℤ) (es : List Event) → AreEvents (layout c) 0 es → (turns : ℕ)
      → AgreeThroughout (diagram_machine project p) (text_machine (unit_of project) (pou_text p)) turns es
      (begin_side (diagram_machine project p) kept) (begin_side (text_machine (unit_of project) (pou_text p)) kept)
  program_agrees kept es good turns = agree_throughout turns es 0 good _ _ (begin_agrees kept kept (λ q h. refl))

pub all_behave : (project : Project) → ProjectFits project → Behaves project (unit_of project)
all_behave project fits name p named = (pou_text p, program_text name project ∙ ap (option_map pou_text) named, program_same project fits p (program_there name project p named))

pub all_agree : OfPrograms StatesAgree
all_agree project fits name p named = program_agrees project fits p (program_there name project p named)
