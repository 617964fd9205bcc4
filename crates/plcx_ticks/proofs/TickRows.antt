-- The records behind a header: what is read of them is what they stand for.
use Rattle.std.proofs.Common.{◌≡◌, ◌+◌, ◌∷◌, ◌++◌, ◌∙◌, ℕ, suc, Bool, true, false, List, [], Option, Some, None, length, refl, sym, ap, subst, arith, if◌then◌else◌}
use Rattle.std.specs.Prelude.{ℤ, nat_eq, nat_le, codes}
use Rattle.std.specs.Option.{option_map, option_and_then}
use Rattle.std.specs.List.{list_all}
use Rattle.std.specs.Str.{bytes_eq}
use Rattle.std.proofs.lemmas.Bool.{eqb-true, eq-eqb, leb-true, le-leb}
use Rattle.std.proofs.lemmas.Option.{same_Some}
use Rattle.std.proofs.lemmas.Slice.Eq.{bytes_eq-Decides}
use Rattle.plcx_types.specs.Lists.{Each}
use Rattle.plcx_types.specs.Literal.{StandsForValue}
use Rattle.plcx_types.specs.Range.{InRange}
use Rattle.plcx_types.specs.ReadLiteral.{value_of}
use Rattle.plcx_types.specs.Value.{Value}
use Rattle.plcx_types.proofs.DurationsRead.{bound}
use Rattle.plcx_types.proofs.Literals.{value_reads, value_is}
use Rattle.plcx_types.proofs.Wholes.{mapped}
use Rattle.plcx_state.specs.Layouts.{Laid}
use Rattle.plcx_state.proofs.Keeping.{stands_ranged}
use Rattle.plcx_scan.specs.Files.{Record}
use Rattle.plcx_scan.specs.ReadFiles.{time_of, is_empty}
use Rattle.plcx_scan.proofs.EventRows.{passed, time_sound, time_complete, empty_each, each_empty}
use Rattle.plcx_tasks.specs.declared.ticking.TaskInput.{TaskInput}
use Rattle.plcx_tasks.specs.declared.ticking.TaskEvent.{TaskEvent}
use Rattle.plcx_tasks.specs.declared.ticking.TaskEvent.TheVariants as event
use Rattle.plcx_tasks.specs.Tasks.{tick_after, IsTaskInput, CanComeNext, AreTicks}
use Rattle.plcx_ticks.specs.declared.column.TickColumn.{TickColumn}
use Rattle.plcx_ticks.specs.Ticks.{input_of, IsInput, AreInputs, IsTick, IsRestart, IsEvent, AreEvents}
use Rattle.plcx_ticks.specs.ReadTicks.{field_inputs, inputs_of, tick_at, tick_from, tick_event, restart_event, row_event, rows_events, tick_at_end}
use Rattle.plcx_ticks.proofs.Columns.{IsColumnIn}

-- a value that a text stands for, where the text is not empty
input_sound : (lays : List Laid) (c : TickColumn) → IsColumnIn lays c → (byte : ℕ) (bytes : List ℕ) (is : List TaskInput) → field_inputs c (byte ∷ bytes) ≡ Some is
    → (i : TaskInput) × (is ≡ i ∷ []) × IsInput c (byte ∷ bytes) i × IsTaskInput lays i
input_sound lays c of byte bytes is e =
    let read = mapped (λ (v : Value). input_of c v ∷ []) (value_of c.ty (byte ∷ bytes)) is e in
    let v = read.0 in
    let stands : StandsForValue c.ty (byte ∷ bytes) v = value_is c.ty (byte ∷ bytes) v read.1 in
    let ranged = stands_ranged c.ty (byte ∷ bytes) v stands in (
      input_of c v,
      sym read.2,
      record { value = v; stands = stands; input_is = refl },
      record {
        own = of.own;
        there = of.there;
        fits = record { leaf = of.leaf; there = of.is_leaf; settable = of.settable; typed = ranged.0 ∙ of.typed; range = subst (λ t. InRange t v.n) (ranged.0 ∙ of.typed) ranged.1 };
      },
    )

-- the fields of a tick
inputs_sound : (lays : List Laid) (cs : List TickColumn) → Each (IsColumnIn lays) cs → (fields : Record) (is : List TaskInput) → length fields ≡ length cs → inputs_of cs fields ≡ Some is
    → AreInputs cs fields is × Each (IsTaskInput lays) is
inputs_sound lays [] of [] is long e = subst (λ (js : List TaskInput). AreInputs [] [] js × Each (IsTaskInput lays) js) (same_Some [] is e) (tt, tt)
inputs_sound lays [] of (f ∷ fields) is long e = absurd (omega arith)
inputs_sound lays (c ∷ cs) of [] is long e = absurd (omega arith)
inputs_sound lays (c ∷ cs) of (f ∷ fields) is long e =
    let first = bound (λ (some : List TaskInput). option_map (λ (js : List TaskInput). some ++ js) (inputs_of cs fields)) (field_inputs c f) is e in
    let rest = mapped (λ (js : List TaskInput). first.0 ++ js) (inputs_of cs fields) is first.2 in
    let more = inputs_sound lays cs of.1 fields rest.0 (let l = long in omega arith) rest.1 in
    subst (λ (js : List TaskInput). AreInputs (c ∷ cs) (f ∷ fields) js × Each (IsTaskInput lays) js) rest.2 (by f first.0 first.1 rest.0 more)
  where
    by : (g : List ℕ) (some : List TaskInput) → field_inputs c g ≡ Some some → (js : List TaskInput) → AreInputs cs fields js × Each (IsTaskInput lays) js
        → AreInputs (c ∷ cs) (g ∷ fields) (some ++ js) × Each (IsTaskInput lays) (some ++ js)
    by [] some read js h = subst (λ (x : List TaskInput). AreInputs cs fields (x ++ js) × Each (IsTaskInput lays) (x ++ js)) (same_Some [] some read) h
    by (byte ∷ bytes) some read js h =
        let one = input_sound lays c of.0 byte bytes some read in
        subst (λ (x : List TaskInput). AreInputs (c ∷ cs) ((byte ∷ bytes) ∷ fields) (x ++ js) × Each (IsTaskInput lays) (x ++ js)) (sym one.1) ((one.2, h.0), (one.3, h.1))

inputs_complete : (cs : List TickColumn) (fields : Record) (is : List TaskInput) → AreInputs cs fields is → inputs_of cs fields ≡ Some is
inputs_complete [] [] [] h = refl
inputs_complete [] [] (i ∷ is) h = absurd h
inputs_complete [] (f ∷ fields) is h = absurd h
inputs_complete (c ∷ cs) [] is h = absurd h
inputs_complete (c ∷ cs) ([] ∷ fields) is h = ap (option_map (λ (js : List TaskInput). js)) (inputs_complete cs fields is h)
inputs_complete (c ∷ cs) ((byte ∷ bytes) ∷ fields) [] h = absurd h
inputs_complete (c ∷ cs) ((byte ∷ bytes) ∷ fields) (i ∷ is) h =
    let v = h.0.value in
    let read : value_of c.ty (byte ∷ bytes) ≡ Some v = value_reads c.ty (byte ∷ bytes) v h.0.stands in
    ap (λ (o : Option Value). option_and_then (λ (some : List TaskInput). option_map (λ (js : List TaskInput). some ++ js) (inputs_of cs fields)) (option_map (λ (x : Value). input_of c x ∷ []) o)) read
    ∙ ap (option_map (λ (js : List TaskInput). input_of c v ∷ js)) (inputs_complete cs fields is h.1)
    ∙ ap (λ (x : TaskInput). Some (x ∷ is)) (sym h.0.input_is)

inputs_long : (cs : List TickColumn) (fields : Record) (is : List TaskInput) → AreInputs cs fields is → length fields ≡ length cs
inputs_long [] [] [] h = refl
inputs_long [] [] (i ∷ is) h = absurd h
inputs_long [] (f ∷ fields) is h = absurd h
inputs_long (c ∷ cs) [] is h = absurd h
inputs_long (c ∷ cs) ([] ∷ fields) is h = ap suc (inputs_long cs fields is h)
inputs_long (c ∷ cs) ((byte ∷ bytes) ∷ fields) [] h = absurd h
inputs_long (c ∷ cs) ((byte ∷ bytes) ∷ fields) (i ∷ is) h = ap suc (inputs_long cs fields is h.1)

-- what is read of a record: an event that it stands for, and which may come next
record Sound (lays : List Laid) (cs : List TickColumn) (last : ℕ) (row : Record) (e : TaskEvent) : Type 0 where
  is : IsEvent cs last row e
  next : CanComeNext lays last e

tick_sound : (lays : List Laid) (cs : List TickColumn) → Each (IsColumnIn lays) cs → (last : ℕ) (w text : List ℕ) (fields : Record) → length fields ≡ length cs → w ≡ codes "tick"
    → (e : TaskEvent) → tick_event cs last (w ∷ text ∷ fields) ≡ Some e → Sound lays cs last (w ∷ text ∷ fields) e
unfolding tick_event
tick_sound lays cs of last w text fields long word e h =
    let first = bound (tick_from cs last (w ∷ text ∷ fields)) (time_of text) e h in
    let t = first.0 in
    let second = passed (nat_le last t) (option_map (tick_at t) (inputs_of cs fields)) e first.2 in
    let read = mapped (tick_at t) (inputs_of cs fields) e second.1 in
    let inputs = inputs_sound lays cs of fields read.0 long read.1 in
    let time = time_sound text t first.1 in
    let before = leb-true last t second.0 in
    subst (Sound lays cs last (w ∷ text ∷ fields)) read.2 (record {
      is = record { text = text; fields = fields; row_is = ap (λ (x : List ℕ). x ∷ text ∷ fields) word; at = t; at_is = time; time_is = refl; not_before = before; are_inputs = inputs.0 };
      next = (record { time_is = refl; not_before = before; within = time.within }, inputs.1);
    })

restart_sound : (lays : List Laid) (cs : List TickColumn) (last : ℕ) (w : List ℕ) (fields : Record) → length fields ≡ length cs + 1
    → (e : TaskEvent) → restart_event (w ∷ fields) ≡ Some e → Sound lays cs last (w ∷ fields) e
unfolding restart_event
restart_sound lays cs last w fields long e h =
    let alone = passed (list_all is_empty fields) (if bytes_eq w (codes "warm") then Some event.Warm else (if bytes_eq w (codes "cold") then Some event.Cold else None)) e h in
    by (bytes_eq w (codes "warm")) refl (empty_each fields alone.0) alone.1
  where
    of_word : (word : List ℕ) → bytes_eq w word ≡ true → Each (λ (f : List ℕ). f ≡ []) fields → IsRestart cs word (w ∷ fields)
    of_word word is empty = record { fields = fields; row_is = ap (λ (x : List ℕ). x ∷ fields) ((bytes_eq-Decides w word).0 is); long = long; empty = empty }

    by : (b : Bool) → bytes_eq w (codes "warm") ≡ b → Each (λ (f : List ℕ). f ≡ []) fields → (if b then Some event.Warm else (if bytes_eq w (codes "cold") then Some event.Cold else None)) ≡ Some e → Sound lays cs last (w ∷ fields) e
    by true is empty k = subst (Sound lays cs last (w ∷ fields)) (same_Some event.Warm e k) (record { is = of_word (codes "warm") is empty; next = tt })
    by false is empty k =
        let cold = passed (bytes_eq w (codes "cold")) (Some event.Cold) e k in
        subst (Sound lays cs last (w ∷ fields)) (same_Some event.Cold e cold.1) (record { is = of_word (codes "cold") cold.0 empty; next = tt })

row_sound : (lays : List Laid) (cs : List TickColumn) → Each (IsColumnIn lays) cs → (last : ℕ) (row : Record) (e : TaskEvent) → row_event cs last row ≡ Some e → Sound lays cs last row e
unfolding row_event
row_sound lays cs of last [] e h =
    let long = eqb-true 0 (length cs + 2) (passed (nat_eq 0 (length cs + 2)) _ e h).0 in absurd (omega arith)
row_sound lays cs of last (w ∷ []) e h =
    let long = eqb-true 1 (length cs + 2) (passed (nat_eq 1 (length cs + 2)) _ e h).0 in absurd (omega arith)
row_sound lays cs of last (w ∷ text ∷ fields) e h =
    let first = passed (nat_eq (suc (suc (length fields))) (length cs + 2)) (if bytes_eq w (codes "tick") then tick_event cs last (w ∷ text ∷ fields) else restart_event (w ∷ text ∷ fields)) e h in
    let long = eqb-true (suc (suc (length fields))) (length cs + 2) first.0 in
    by (bytes_eq w (codes "tick")) refl (let l = long in omega arith) (let l = long in omega arith) first.1
  where
    by : (b : Bool) → bytes_eq w (codes "tick") ≡ b → length fields ≡ length cs → suc (length fields) ≡ length cs + 1 → (if b then tick_event cs last (w ∷ text ∷ fields) else restart_event (w ∷ text ∷ fields)) ≡ Some e
        → Sound lays cs last (w ∷ text ∷ fields) e
    by true is long longer k = tick_sound lays cs of last w text fields long ((bytes_eq-Decides w (codes "tick")).0 is) e k
    by false is long longer k = restart_sound lays cs last w (text ∷ fields) longer e k

-- the other way round: what a record stands for is read of it
tick_complete : (cs : List TickColumn) (last : ℕ) (row : Record) (time : ℤ) (is : List TaskInput) → IsTick cs last row time is → row_event cs last row ≡ Some (event.Tick time is)
unfolding row_event tick_event
tick_complete cs last row time is h =
    let fields = inputs_long cs h.fields is h.are_inputs in
    let long : suc (suc (length h.fields)) ≡ length cs + 2 = omega arith in
    ap (row_event cs last) h.row_is
    ∙ ap (λ b. if b then tick_event cs last (codes "tick" ∷ h.text ∷ h.fields) else None) (eq-eqb (suc (suc (length h.fields))) (length cs + 2) long)
    ∙ ap (option_and_then (tick_from cs last (codes "tick" ∷ h.text ∷ h.fields))) (time_complete h.text h.at h.at_is)
    ∙ ap (λ b. if b then option_map (tick_at h.at) (inputs_of cs h.fields) else None) (le-leb last h.at h.not_before)
    ∙ ap (option_map (tick_at h.at)) (inputs_complete cs h.fields is h.are_inputs)
    ∙ ap (λ t. Some (event.Tick t is)) (sym h.time_is)

restart_long : (cs : List TickColumn) (fields : Record) → length fields ≡ length cs + 1 → nat_eq (suc (length fields)) (length cs + 2) ≡ true
restart_long cs fields long = eq-eqb (suc (length fields)) (length cs + 2) (omega arith)

warm_complete : (cs : List TickColumn) (last : ℕ) (row : Record) → IsRestart cs (codes "warm") row → row_event cs last row ≡ Some event.Warm
unfolding row_event restart_event
warm_complete cs last row h =
    ap (row_event cs last) h.row_is
    ∙ ap (λ b. if b then restart_event (codes "warm" ∷ h.fields) else None) (restart_long cs h.fields h.long)
    ∙ ap (λ b. if b then Some event.Warm else None) (each_empty h.fields h.empty)

cold_complete : (cs : List TickColumn) (last : ℕ) (row : Record) → IsRestart cs (codes "cold") row → row_event cs last row ≡ Some event.Cold
unfolding row_event restart_event
cold_complete cs last row h =
    ap (row_event cs last) h.row_is
    ∙ ap (λ b. if b then restart_event (codes "cold" ∷ h.fields) else None) (restart_long cs h.fields h.long)
    ∙ ap (λ b. if b then Some event.Cold else None) (each_empty h.fields h.empty)

row_complete : (cs : List TickColumn) (last : ℕ) (row : Record) (e : TaskEvent) → IsEvent cs last row e → row_event cs last row ≡ Some e
row_complete cs last row (event.Tick time is) h = tick_complete cs last row time is h
row_complete cs last row event.Warm h = warm_complete cs last row h
row_complete cs last row event.Cold h = cold_complete cs last row h

-- records that are read as events stand for them, and these may come one after another
pub rows_sound : (lays : List Laid) (cs : List TickColumn) → Each (IsColumnIn lays) cs → (last : ℕ) (rows : List Record) (es : List TaskEvent) → rows_events cs last rows ≡ Some es
    → AreEvents cs last rows es × AreTicks lays last es
rows_sound lays cs of last [] es h = subst (λ (x : List TaskEvent). AreEvents cs last [] x × AreTicks lays last x) (same_Some [] es h) (tt, tt)
rows_sound lays cs of last (row ∷ rows) es h =
    let first = bound (λ (e : TaskEvent). option_map (λ (x : List TaskEvent). e ∷ x) (rows_events cs (tick_after last e) rows)) (row_event cs last row) es h in
    let rest = mapped (λ (x : List TaskEvent). first.0 ∷ x) (rows_events cs (tick_after last first.0) rows) es first.2 in
    let one = row_sound lays cs of last row first.0 first.1 in
    let more = rows_sound lays cs of (tick_after last first.0) rows rest.0 rest.1 in
    subst (λ (x : List TaskEvent). AreEvents cs last (row ∷ rows) x × AreTicks lays last x) rest.2 ((one.is, more.0), (one.next, more.1))

-- and the events that records stand for are read
pub rows_complete : (cs : List TickColumn) (last : ℕ) (rows : List Record) (es : List TaskEvent) → AreEvents cs last rows es → rows_events cs last rows ≡ Some es
rows_complete cs last [] [] h = refl
rows_complete cs last [] (e ∷ es) h = absurd h
rows_complete cs last (row ∷ rows) [] h = absurd h
rows_complete cs last (row ∷ rows) (e ∷ es) h =
    ap (option_and_then (λ (d : TaskEvent). option_map (λ (x : List TaskEvent). d ∷ x) (rows_events cs (tick_after last d) rows))) (row_complete cs last row e h.0)
    ∙ ap (option_map (λ (x : List TaskEvent). e ∷ x)) (rows_complete cs (tick_after last e) rows es h.1)

-- one record more
pub rows_push : (cs : List TickColumn) (last : ℕ) (rows : List Record) (row : Record) (es : List TaskEvent) → rows_events cs last rows ≡ Some es
    → rows_events cs last (rows ++ row ∷ []) ≡ option_map (λ (e : TaskEvent). es ++ e ∷ []) (row_event cs (tick_at_end last es) row)
rows_push cs last [] row es h =
    subst (λ (x : List TaskEvent). rows_events cs last (row ∷ []) ≡ option_map (λ (e : TaskEvent). x ++ e ∷ []) (row_event cs (tick_at_end last x) row)) (same_Some [] es h) (by (row_event cs last row))
  where
    by : (o : Option TaskEvent) → option_and_then (λ (e : TaskEvent). Some (e ∷ [])) o ≡ option_map (λ (e : TaskEvent). e ∷ []) o
    by None = refl
    by (Some e) = refl
rows_push cs last (r ∷ rows) row es h =
    let first = bound (λ (e : TaskEvent). option_map (λ (x : List TaskEvent). e ∷ x) (rows_events cs (tick_after last e) rows)) (row_event cs last r) es h in
    let rest = mapped (λ (x : List TaskEvent). first.0 ∷ x) (rows_events cs (tick_after last first.0) rows) es first.2 in
    let more = rows_push cs (tick_after last first.0) rows row rest.0 rest.1 in
    subst (λ (x : List TaskEvent). rows_events cs last (r ∷ (rows ++ row ∷ [])) ≡ option_map (λ (e : TaskEvent). x ++ e ∷ []) (row_event cs (tick_at_end last x) row)) rest.2
    (ap (option_and_then (λ (e : TaskEvent). option_map (λ (x : List TaskEvent). e ∷ x) (rows_events cs (tick_after last e) (rows ++ row ∷ [])))) first.1
    ∙ ap (option_map (λ (x : List TaskEvent). first.0 ∷ x)) more
    ∙ by first.0 rest.0 (row_event cs (tick_at_end (tick_after last first.0) rest.0) row))
  where
    by : (f : TaskEvent) (xs : List TaskEvent) (o : Option TaskEvent) → option_map (λ (x : List TaskEvent). f ∷ x) (option_map (λ (e : TaskEvent). xs ++ e ∷ []) o) ≡ option_map (λ (e : TaskEvent). f ∷ (xs ++ e ∷ [])) o
    by f xs None = refl
    by f xs (Some e) = refl
