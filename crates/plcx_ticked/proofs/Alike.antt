-- Layouts whose leaves mean the same: what fits one fits the other.
use Rattle.std.proofs.Common.{◌≡◌, ◌∙◌, ◌∷◌, ℕ, List, [], Some, None, map, refl, sym, ap, ap₂, subst}
use Rattle.std.specs.Prelude.{nat_abs, Bool, true, false, slice_get, Option, if◌then◌else◌}
use Rattle.std.specs.Option.{option_map}
use Rattle.std.proofs.lemmas.Option.{same_Some, slice_get-map}
use Rattle.plcx_types.specs.Lists.{Each}
use Rattle.plcx_types.specs.Range.{InRange}
use Rattle.plcx_types.specs.Value.{Value}
use Rattle.plcx_types.proofs.Wholes.{mapped}
use Rattle.plcx_meaning.specs.Layout.{Leaf as Meant}
use Rattle.plcx_meaning.specs.Run as meant
use Rattle.plcx_state.specs.declared.layout.Leaf.{Leaf}
use Rattle.plcx_state.specs.Layouts.{Laid, all_meant, meant as leaf_meant}
use Rattle.plcx_state.specs.Retains.{Pairwise}
use Rattle.plcx_scan.specs.declared.event.Input.{Input}
use Rattle.plcx_scan.specs.Events.{Event, Scan, Warm, Cold, IsInput, path_of, meant_input, meant_event, meant_events}
use Rattle.plcx_scan.specs.Rows.{shown_leaves}
use Rattle.plcx_scan.specs.Sides.{HasTypeOf}
use Rattle.plcx_tasks.specs.declared.ticking.TaskInput.{TaskInput}
use Rattle.plcx_tasks.specs.declared.ticking.TaskEvent.{TaskEvent}
use Rattle.plcx_tasks.specs.declared.ticking.TaskEvent.TheVariants as event
use Rattle.plcx_tasks.specs.Tasks.{IsTaskInput, CanComeNext, AreTicks, tick_after, input_of}
use Rattle.plcx_tasks.specs.declared.rows.TaskRow.{TaskRow}
use Rattle.plcx_tasks.specs.Runs.{IsTaskRow}
use Rattle.plcx_ticks.specs.Ticks.{meant_lays}

-- what is at a place of one list is at that of the other
module _ (lays others : List Laid) (same : meant_lays lays ≡ meant_lays others) where
  record Other (i : ℕ) (l : Laid) : Type 0 where
    other : Laid
    there : slice_get others i ≡ Some other
    alike : all_meant other.leaves ≡ all_meant l.leaves

  other_at : (i : ℕ) (l : Laid) → slice_get lays i ≡ Some l → Other i l
  other_at i l at =
      let r = mapped (λ (x : Laid). all_meant x.leaves) (slice_get others i) (all_meant l.leaves)
      (sym (slice_get-map (λ (x : Laid). all_meant x.leaves) others i) ∙ ap (λ (ms : List (List Meant)). slice_get ms i) (sym same)
      ∙ slice_get-map (λ (x : Laid). all_meant x.leaves) lays i ∙ ap (option_map (λ (x : Laid). all_meant x.leaves)) at) in
      record { other = r.0; there = r.1; alike = r.2 }

  input_alike : (xs ys : List Leaf) → all_meant ys ≡ all_meant xs → (x : Input) → IsInput xs x → IsInput ys x
  input_alike xs ys e x h =
      let r = mapped leaf_meant (slice_get ys x.leaf) (leaf_meant h.leaf)
      (sym (slice_get-map leaf_meant ys x.leaf) ∙ ap (λ (ms : List Meant). slice_get ms x.leaf) e ∙ slice_get-map leaf_meant xs x.leaf ∙ ap (option_map leaf_meant) h.there) in
      let ty : h.leaf.ty ≡ r.0.ty = ap (λ (m : Meant). m.ty) (sym r.2) in
      record {
        leaf = r.0;
        there = r.1;
        settable = ap (λ (m : Meant). m.settable) r.2 ∙ h.settable;
        typed = h.typed ∙ ty;
        range = subst (λ t. InRange t x.value.n) ty h.range;
      }

  given_alike : (xs : List TaskInput) → Each (IsTaskInput lays) xs → Each (IsTaskInput others) xs
  given_alike [] h = tt
  given_alike (x ∷ xs) h =
      let o = other_at x.instance h.0.own h.0.there in
      (record { own = o.other; there = o.there; fits = input_alike h.0.own.leaves o.other.leaves o.alike (input_of x) h.0.fits }, given_alike xs h.1)

  next_alike : (last : ℕ) (e : TaskEvent) → CanComeNext lays last e → CanComeNext others last e
  next_alike last (event.Tick time inputs) h = (h.0, given_alike inputs h.1)
  next_alike last event.Warm h = h
  next_alike last event.Cold h = h

  -- events that may come one after another
  pub ticks_alike : (last : ℕ) (es : List TaskEvent) → AreTicks lays last es → AreTicks others last es
  ticks_alike last [] h = h
  ticks_alike last (e ∷ es) h = (next_alike last e h.0, ticks_alike (tick_after last e) es h.1)

-- events mean the same
path_alike : (xs ys : List Leaf) → all_meant xs ≡ all_meant ys → (i : ℕ) → path_of (slice_get xs i) ≡ path_of (slice_get ys i)
path_alike xs ys e i =
    by (slice_get xs i) (slice_get ys i) (sym (slice_get-map leaf_meant xs i) ∙ ap (λ (ms : List Meant). slice_get ms i) e ∙ slice_get-map leaf_meant ys i)
  where
    by : (a b : Option Leaf) → option_map leaf_meant a ≡ option_map leaf_meant b → path_of a ≡ path_of b
    by None None h = refl
    by None (Some b) h = absurd (cc)
    by (Some a) None h = absurd (cc)
    by (Some a) (Some b) h = ap (λ (m : Meant). m.path) (same_Some (leaf_meant a) (leaf_meant b) h)

inputs_alike : (xs ys : List Leaf) → all_meant xs ≡ all_meant ys → (is : List Input) → map (meant_input xs) is ≡ map (meant_input ys) is
inputs_alike xs ys e [] = refl
inputs_alike xs ys e (i ∷ is) = ap₂ (λ p (rest : List meant.Input). record { path = p; value = i.value.n } ∷ rest) (path_alike xs ys e i.leaf) (inputs_alike xs ys e is)

event_alike : (xs ys : List Leaf) → all_meant xs ≡ all_meant ys → (e : Event) → meant_event xs e ≡ meant_event ys e
event_alike xs ys e (Scan time is) = ap (meant.Scan (nat_abs time)) (inputs_alike xs ys e is)
event_alike xs ys e Warm = refl
event_alike xs ys e Cold = refl

pub events_alike : (xs ys : List Leaf) → all_meant xs ≡ all_meant ys → (es : List Event) → meant_events xs es ≡ meant_events ys es
events_alike xs ys e [] = refl
events_alike xs ys e (d ∷ es) = ap₂ (λ (x : meant.Event) (rest : List meant.Event). x ∷ rest) (event_alike xs ys e d) (events_alike xs ys e es)

-- values of the types of shown leaves
abbrev with_shown : Leaf → Bool → List Leaf → List Leaf
with_shown x b rest = if b then x ∷ rest else rest

pub shown_alike : (xs ys : List Leaf) → all_meant xs ≡ all_meant ys → (vs : List Value) → Pairwise HasTypeOf (shown_leaves xs) vs → Pairwise HasTypeOf (shown_leaves ys) vs
shown_alike [] [] e vs h = h
shown_alike [] (y ∷ ys) e vs h = absurd (cc)
shown_alike (x ∷ xs) [] e vs h = absurd (cc)
shown_alike (x ∷ xs) (y ∷ ys) e vs h =
    let first : leaf_meant x ≡ leaf_meant y = cc in
    let rest : all_meant xs ≡ all_meant ys = cc in
    let shown : x.shown ≡ y.shown = ap (λ (m : Meant). m.shown) first in
    let ty : x.ty ≡ y.ty = ap (λ (m : Meant). m.ty) first in
    subst (λ b. Pairwise HasTypeOf (with_shown y b (shown_leaves ys)) vs) shown (by x.shown vs ty (shown_alike xs ys rest) h)
  where
    by : (b : Bool) (us : List Value) → x.ty ≡ y.ty → ((ws : List Value) → Pairwise HasTypeOf (shown_leaves xs) ws → Pairwise HasTypeOf (shown_leaves ys) ws)
        → Pairwise HasTypeOf (with_shown x b (shown_leaves xs)) us → Pairwise HasTypeOf (with_shown y b (shown_leaves ys)) us
    by false us ty more k = more us k
    by true [] ty more k = absurd k
    by true (u ∷ us) ty more k = (k.0 ∙ ty, more us k.1)

-- rows fit
pub rows_alike : (lays others : List Laid) → meant_lays lays ≡ meant_lays others → (rows : List TaskRow) → Each (IsTaskRow lays) rows → Each (IsTaskRow others) rows
rows_alike lays others same [] h = tt
rows_alike lays others same (row ∷ rows) h =
    let o = other_at lays others same row.instance h.0.own h.0.there in
    (record { own = o.other; there = o.there; values = shown_alike h.0.own.leaves o.other.leaves (sym o.alike) row.values h.0.values }, rows_alike lays others same rows h.1)
