-- Rows are known by their places and by the lines of each instance.
use Rattle.std.proofs.Common.{◌≡◌, ◌∙◌, ◌∷◌, ℕ, Bool, true, false, List, [], Some, map, refl, sym, ap, ap₂, subst, if◌then◌else◌}
use Rattle.std.specs.Prelude.{nat_eq, slice_get, filter}
use Rattle.std.proofs.lemmas.Bool.{eq-eqb}
use Rattle.std.proofs.lemmas.Option.{same_Some}
use Rattle.plcx_types.specs.Lists.{Each}
use Rattle.plcx_types.specs.Value.{Value}
use Rattle.plcx_meaning.specs.Base.{Faulted, OutOfTurns}
use Rattle.plcx_meaning.specs.Run.{Told, TheEnd, Halted, Restarted, NoStep, TheStop}
use Rattle.plcx_meaning.specs.Traces.{Line}
use Rattle.plcx_state.specs.declared.layout.Leaf.{Leaf}
use Rattle.plcx_state.specs.Layouts.{Laid}
use Rattle.plcx_state.specs.Retains.{Pairwise, numbers}
use Rattle.plcx_scan.specs.declared.side.Outcome.{Outcome}
use Rattle.plcx_scan.specs.declared.side.Outcome.TheVariants as outcome
use Rattle.plcx_scan.specs.Rows.{shown_leaves}
use Rattle.plcx_scan.specs.Sides.{told, HasTypeOf}
use Rattle.plcx_tasks.specs.declared.rows.TaskRow.{TaskRow}
use Rattle.plcx_tasks.specs.Runs.{place_of, task_line, lines_of, IsTaskRow}

-- an outcome by what is told
outcome_of : Told → Outcome
outcome_of TheEnd = outcome.Ended
outcome_of Halted = outcome.Halted
outcome_of Restarted = outcome.Restarted
outcome_of NoStep = outcome.Ended
outcome_of (TheStop (Faulted f)) = outcome.Fault f
outcome_of (TheStop OutOfTurns) = outcome.OutOfTurns

outcome_is : (o : Outcome) → outcome_of (told o) ≡ o
unfolding outcome_of
outcome_is outcome.Ended = refl
outcome_is (outcome.Fault f) = refl
outcome_is outcome.OutOfTurns = refl
outcome_is outcome.Halted = refl
outcome_is outcome.Restarted = refl

-- values of types are known by their numbers
values_same : (leaves : List Leaf) (vs ws : List Value) → Pairwise HasTypeOf leaves vs → Pairwise HasTypeOf leaves ws → numbers vs ≡ numbers ws → vs ≡ ws
values_same [] [] [] h k e = refl
values_same [] [] (w ∷ ws) h k e = absurd k
values_same [] (v ∷ vs) ws h k e = absurd h
values_same (l ∷ leaves) [] ws h k e = absurd h
values_same (l ∷ leaves) (v ∷ vs) [] h k e = absurd k
values_same (l ∷ leaves) (v ∷ vs) (w ∷ ws) h k e =
    let first : v.n ≡ w.n = cc in
    let rest : numbers vs ≡ numbers ws = cc in
    ap₂ (λ (z : Value) (zs : List Value). z ∷ zs) (ap₂ (λ t n. record { ty = t; n = n }) (h.0 ∙ sym k.0) first) (values_same leaves vs ws h.1 k.1 rest)

module _ (lays : List Laid) where
  row_same : (r s : TaskRow) → IsTaskRow lays r → IsTaskRow lays s → r.event ≡ s.event → r.instance ≡ s.instance → task_line r ≡ task_line s → r ≡ s
  row_same r s h k event instance line =
      let own : h.own ≡ k.own = same_Some h.own k.own (sym h.there ∙ ap (slice_get lays) instance ∙ k.there) in
      let outcome : r.outcome ≡ s.outcome = sym (outcome_is r.outcome) ∙ ap (λ (l : Line). outcome_of l.told) line ∙ outcome_is s.outcome in
      let values : r.values ≡ s.values =
      values_same (shown_leaves h.own.leaves) r.values s.values h.values (subst (λ (l : Laid). Pairwise HasTypeOf (shown_leaves l.leaves) s.values) (sym own) k.values) (ap (λ (l : Line). l.values) line) in
      ap₂ (λ e i. record { event = e; instance = i; outcome = r.outcome; values = r.values }) event instance
      ∙ ap₂ (λ (o : Outcome) (vs : List Value). record { event = s.event; instance = s.instance; outcome = o; values = vs }) outcome values

  -- the lines of an instance, with a row in front that is its own or not
  abbrev with_row : ℕ → TaskRow → Bool → List Line → List Line
  with_row i r b lines = if b then task_line r ∷ lines else lines

  lines_first : (i : ℕ) (r : TaskRow) (rows : List TaskRow) → lines_of i (r ∷ rows) ≡ with_row i r (nat_eq r.instance i) (lines_of i rows)
  lines_first i r rows = by (nat_eq r.instance i)
    where
      by : (b : Bool) → map task_line (if b then r ∷ filter (λ (x : TaskRow). nat_eq x.instance i) rows else filter (λ (x : TaskRow). nat_eq x.instance i) rows) ≡ with_row i r b (lines_of i rows)
      by true = refl
      by false = refl

  -- rows of the same places, where each instance has the same lines
  pub one_rows : (rs ss : List TaskRow) → Each (IsTaskRow lays) rs → Each (IsTaskRow lays) ss → map place_of rs ≡ map place_of ss
      → ((i : ℕ) (l : Laid) → slice_get lays i ≡ Some l → lines_of i rs ≡ lines_of i ss) → rs ≡ ss
  one_rows [] [] h k places lines = refl
  one_rows [] (s ∷ ss) h k places lines = absurd (cc)
  one_rows (r ∷ rs) [] h k places lines = absurd (cc)
  one_rows (r ∷ rs) (s ∷ ss) h k places lines =
      let first : place_of r ≡ place_of s = cc in
      let rest : map place_of rs ≡ map place_of ss = cc in
      let event : r.event ≡ s.event = ap (λ (p : ℕ × ℕ). p.0) first in
      let instance : r.instance ≡ s.instance = ap (λ (p : ℕ × ℕ). p.1) first in
      let both : task_line r ∷ lines_of r.instance rs ≡ task_line s ∷ lines_of r.instance ss =
      ap (λ b. with_row r.instance r b (lines_of r.instance rs)) (sym (eq-eqb r.instance r.instance refl)) ∙ sym (lines_first r.instance r rs) ∙ lines r.instance h.0.own h.0.there
      ∙ lines_first r.instance s ss ∙ ap (λ b. with_row r.instance s b (lines_of r.instance ss)) (eq-eqb s.instance r.instance (sym instance)) in
      let line : task_line r ≡ task_line s = cc in
      ap₂ (λ (x : TaskRow) (xs : List TaskRow). x ∷ xs) (row_same r s h.0 k.0 event instance line) (one_rows rs ss h.1 k.1 rest (λ i l there.
      behind i (nat_eq r.instance i) refl (ap (λ n. nat_eq n i) (sym instance)) line (sym (lines_first i r rs) ∙ lines i l there ∙ lines_first i s ss)))
    where
      behind : (i : ℕ) (b : Bool) → nat_eq r.instance i ≡ b → nat_eq s.instance i ≡ nat_eq r.instance i → task_line r ≡ task_line s
          → with_row i r (nat_eq r.instance i) (lines_of i rs) ≡ with_row i s (nat_eq s.instance i) (lines_of i ss) → lines_of i rs ≡ lines_of i ss
      behind i true e f line all =
          let front : task_line r ∷ lines_of i rs ≡ task_line s ∷ lines_of i ss =
          ap (λ b. with_row i r b (lines_of i rs)) (sym e) ∙ all ∙ ap (λ b. with_row i s b (lines_of i ss)) (f ∙ e) in
          cc
      behind i false e f line all = ap (λ b. with_row i r b (lines_of i rs)) (sym e) ∙ all ∙ ap (λ b. with_row i s b (lines_of i ss)) (f ∙ e)
