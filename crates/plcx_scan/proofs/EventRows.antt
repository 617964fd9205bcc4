-- The records behind a header: what is read of them is what they stand for.
use Rattle.std.proofs.Common.{◌≡◌, ◌<◌, ◌≤◌, ◌+◌, ◌∷◌, ◌++◌, ◌∙◌, ℕ, suc, pos, Bool, true, false, List, [], Option, Some, None, map, length, refl, sym, ap, ap₂, subst, arith, if◌then◌else◌}
use Rattle.std.specs.Prelude.{slice_get, ◌&&◌, nat_eq, nat_lt, nat_le, codes}
use Rattle.std.specs.Option.{option_map, option_and_then}
use Rattle.std.specs.List.{list_all}
use Rattle.std.specs.Str.{bytes_eq}
use Rattle.std.proofs.lemmas.Bool.{and_parts, and_from, eqb-true, eq-eqb, leb-true, le-leb, ltb-true, lt-ltb}
use Rattle.std.proofs.lemmas.Option.{same_Some}
use Rattle.std.proofs.lemmas.Slice.Eq.{bytes_eq-Decides}
use Rattle.plcx_types.specs.Duration.{number}
use Rattle.plcx_types.specs.Limits.{max_event_time}
use Rattle.plcx_types.specs.Lists.{Each}
use Rattle.plcx_types.specs.Literal.{StandsForValue}
use Rattle.plcx_types.specs.Numeral.{is_digit}
use Rattle.plcx_types.specs.Range.{InRange}
use Rattle.plcx_types.specs.ReadLiteral.{value_of}
use Rattle.plcx_types.specs.Value.{Value}
use Rattle.plcx_types.proofs.DurationsRead.{bound}
use Rattle.plcx_types.proofs.Literals.{value_reads, value_is}
use Rattle.plcx_types.proofs.Wholes.{mapped}
use Rattle.plcx_meaning.specs.Layout as layout
use Rattle.plcx_meaning.specs.Layout.{Leaf as Meant}
use Rattle.plcx_meaning.specs.Run as run
use Rattle.plcx_state.specs.declared.layout.Leaf.{Leaf}
use Rattle.plcx_state.proofs.Keeping.{stands_ranged}
use Rattle.plcx_scan.specs.declared.column.Column.{Column}
use Rattle.plcx_scan.specs.declared.event.Input.{Input}
use Rattle.plcx_scan.specs.Events.{Event, Scan, Warm, Cold, last_at_end, path_of, meant_input, meant_event, meant_events, CanBeNext, CanFollow, last_after}
use Rattle.plcx_scan.specs.Events as events
use Rattle.plcx_scan.specs.Files.{Record, max_time_digits, IsTime, AreInputs, IsScan, IsRestart, IsEvent, AreEvents}
use Rattle.plcx_scan.specs.Files as files
use Rattle.plcx_scan.specs.ReadFiles.{are_time_digits, within_limit, time_of, input_of, field_inputs, inputs_of, scan_at, scan_after, scan_event, is_empty, restart_event, row_event, rows_events, IsColumnOf, AreColumns}

-- what a test lets through
pub passed : {A : Type 0} (b : Bool) (o : Option A) (x : A) → (if b then o else None) ≡ Some x → (b ≡ true) × (o ≡ Some x)
passed true o x e = (refl, e)
passed false o x e = absurd (cc)

-- a time
pub time_sound : (text : List ℕ) (t : ℕ) → time_of text ≡ Some t → IsTime text t
time_sound text t e =
    let first = passed (are_time_digits text) (within_limit (number text)) t e in
    let second = passed (nat_le (number text) max_event_time) (Some (number text)) t first.1 in
    let all = and_parts (nat_lt 0 (length text) && nat_le (length text) max_time_digits) (list_all (is_digit 10) text) first.0 in
    let few = and_parts (nat_lt 0 (length text)) (nat_le (length text) max_time_digits) all.0 in
    let is : number text ≡ t = same_Some (number text) t second.1 in
    record {
      digits = record { all = all.1; some = (let h = ltb-true 0 (length text) few.0 in omega arith); few = leb-true (length text) max_time_digits few.1 };
      time_is = sym is;
      within = subst (λ n. n ≤ max_event_time) is (leb-true (number text) max_event_time second.0);
    }

pub time_complete : (text : List ℕ) (t : ℕ) → IsTime text t → time_of text ≡ Some t
time_complete text t h =
    let some : 0 < length text = (let k = h.digits.some in omega arith) in
    let digits : are_time_digits text ≡ true =
    and_from (nat_lt 0 (length text) && nat_le (length text) max_time_digits) (list_all (is_digit 10) text) (and_from (nat_lt 0 (length text)) (nat_le (length text) max_time_digits) (lt-ltb 0 (length text) some) (le-leb (length text) max_time_digits h.digits.few)) h.digits.all in
    let within : nat_le (number text) max_event_time ≡ true = le-leb (number text) max_event_time (subst (λ n. n ≤ max_event_time) h.time_is h.within) in
    ap (λ b. if b then within_limit (number text) else None) digits ∙ ap (λ b. if b then Some (number text) else None) within ∙ ap Some (sym h.time_is)

-- a value that a text stands for, where the text is not empty
input_sound : (leaves : List Leaf) (d : Column) (c : Meant) → IsColumnOf leaves d c → (byte : ℕ) (bytes : List ℕ) (is : List Input) → field_inputs d (byte ∷ bytes) ≡ Some is
    → (i : Input) × (is ≡ i ∷ []) × files.IsInput c (byte ∷ bytes) (meant_input leaves i) × events.IsInput leaves i
input_sound leaves d c of byte bytes is e =
    let read = mapped (λ (v : Value). input_of d v ∷ []) (value_of d.ty (byte ∷ bytes)) is e in
    let v = read.0 in
    let stands : StandsForValue d.ty (byte ∷ bytes) v = value_is d.ty (byte ∷ bytes) v read.1 in
    let ranged = stands_ranged d.ty (byte ∷ bytes) v stands in
    let typed : d.ty ≡ c.ty = of.typed ∙ ap (λ (m : Meant). m.ty) (sym of.meant_is) in (
      input_of d v,
      sym read.2,
      record {
        path_is = ap path_of of.there ∙ ap (λ (m : Meant). m.path) (sym of.meant_is);
        value = v;
        stands = subst (λ t. StandsForValue t (byte ∷ bytes) v) typed stands;
        number_is = refl;
      },
      record { leaf = of.own; there = of.there; settable = of.settable; typed = ranged.0 ∙ of.typed; range = subst (λ t. InRange t v.n) (ranged.0 ∙ of.typed) ranged.1 },
    )

-- the fields of a scan
inputs_sound : (leaves : List Leaf) (ds : List Column) (cs : List Meant) → AreColumns leaves ds cs → (fields : Record) (is : List Input) → length fields ≡ length ds → inputs_of ds fields ≡ Some is
    → AreInputs cs fields (map (meant_input leaves) is) × Each (events.IsInput leaves) is
inputs_sound leaves [] [] of [] is long e = subst (λ (js : List Input). AreInputs [] [] (map (meant_input leaves) js) × Each (events.IsInput leaves) js) (same_Some [] is e) (tt, tt)
inputs_sound leaves [] [] of (f ∷ fields) is long e = absurd (omega arith)
inputs_sound leaves [] (c ∷ cs) of fields is long e = absurd of
inputs_sound leaves (d ∷ ds) [] of fields is long e = absurd of
inputs_sound leaves (d ∷ ds) (c ∷ cs) of [] is long e = absurd (omega arith)
inputs_sound leaves (d ∷ ds) (c ∷ cs) of (f ∷ fields) is long e =
    let first = bound (λ (some : List Input). option_map (λ (js : List Input). some ++ js) (inputs_of ds fields)) (field_inputs d f) is e in
    let rest = mapped (λ (js : List Input). first.0 ++ js) (inputs_of ds fields) is first.2 in
    let more = inputs_sound leaves ds cs of.1 fields rest.0 (let l = long in omega arith) rest.1 in
    subst (λ (js : List Input). AreInputs (c ∷ cs) (f ∷ fields) (map (meant_input leaves) js) × Each (events.IsInput leaves) js) rest.2 (by f first.0 first.1 rest.0 more)
  where
    by : (g : List ℕ) (some : List Input) → field_inputs d g ≡ Some some → (js : List Input) → AreInputs cs fields (map (meant_input leaves) js) × Each (events.IsInput leaves) js
        → AreInputs (c ∷ cs) (g ∷ fields) (map (meant_input leaves) (some ++ js)) × Each (events.IsInput leaves) (some ++ js)
    by [] some read js h = subst (λ (x : List Input). AreInputs cs fields (map (meant_input leaves) (x ++ js)) × Each (events.IsInput leaves) (x ++ js)) (same_Some [] some read) h
    by (byte ∷ bytes) some read js h =
        let one = input_sound leaves d c of.0 byte bytes some read in
        subst (λ (x : List Input). AreInputs (c ∷ cs) ((byte ∷ bytes) ∷ fields) (map (meant_input leaves) (x ++ js)) × Each (events.IsInput leaves) (x ++ js)) (sym one.1) ((one.2, h.0), (one.3, h.1))

inputs_complete : (leaves : List Leaf) (ds : List Column) (cs : List Meant) → AreColumns leaves ds cs → (fields : Record) (ms : List run.Input) → AreInputs cs fields ms
    → (is : List Input) × (inputs_of ds fields ≡ Some is) × (map (meant_input leaves) is ≡ ms)
inputs_complete leaves [] [] of [] [] h = ([], refl, refl)
inputs_complete leaves [] [] of [] (m ∷ ms) h = absurd h
inputs_complete leaves [] [] of (f ∷ fields) ms h = absurd h
inputs_complete leaves [] (c ∷ cs) of fields ms h = absurd of
inputs_complete leaves (d ∷ ds) [] of fields ms h = absurd of
inputs_complete leaves (d ∷ ds) (c ∷ cs) of [] ms h = absurd h
inputs_complete leaves (d ∷ ds) (c ∷ cs) of ([] ∷ fields) ms h =
    let rest = inputs_complete leaves ds cs of.1 fields ms h in
    (rest.0, ap (option_map (λ (js : List Input). js)) rest.1, rest.2)
inputs_complete leaves (d ∷ ds) (c ∷ cs) of ((byte ∷ bytes) ∷ fields) [] h = absurd h
inputs_complete leaves (d ∷ ds) (c ∷ cs) of ((byte ∷ bytes) ∷ fields) (m ∷ ms) h =
    let rest = inputs_complete leaves ds cs of.1 fields ms h.1 in
    let own = of.0 in
    let v = h.0.value in
    let typed : d.ty ≡ c.ty = own.typed ∙ ap (λ (x : Meant). x.ty) (sym own.meant_is) in
    let read : value_of d.ty (byte ∷ bytes) ≡ Some v = value_reads d.ty (byte ∷ bytes) v (subst (λ t. StandsForValue t (byte ∷ bytes) v) (sym typed) h.0.stands) in
    let path : path_of (slice_get leaves d.leaf) ≡ m.path = ap path_of own.there ∙ ap (λ (x : Meant). x.path) (sym own.meant_is) ∙ sym h.0.path_is in
    let one : meant_input leaves (input_of d v) ≡ m = ap₂ (λ p n. record { path = p; value = n }) path (sym h.0.number_is) in (
      input_of d v ∷ rest.0,
      ap (λ (o : Option Value). option_and_then (λ (some : List Input). option_map (λ (js : List Input). some ++ js) (inputs_of ds fields)) (option_map (λ (x : Value). input_of d x ∷ []) o)) read
          ∙ ap (option_map (λ (js : List Input). input_of d v ∷ js)) rest.1,
      ap₂ (λ (x : run.Input) (xs : List run.Input). x ∷ xs) one rest.2,
    )

columns_long : (leaves : List Leaf) (ds : List Column) (cs : List Meant) → AreColumns leaves ds cs → length ds ≡ length cs
columns_long leaves [] [] of = refl
columns_long leaves [] (c ∷ cs) of = absurd of
columns_long leaves (d ∷ ds) [] of = absurd of
columns_long leaves (d ∷ ds) (c ∷ cs) of = ap suc (columns_long leaves ds cs of.1)

inputs_long : (cs : List Meant) (fields : Record) (ms : List run.Input) → AreInputs cs fields ms → length fields ≡ length cs
inputs_long [] [] [] h = refl
inputs_long [] [] (m ∷ ms) h = absurd h
inputs_long [] (f ∷ fields) ms h = absurd h
inputs_long (c ∷ cs) [] ms h = absurd h
inputs_long (c ∷ cs) ([] ∷ fields) ms h = ap suc (inputs_long cs fields ms h)
inputs_long (c ∷ cs) ((byte ∷ bytes) ∷ fields) [] h = absurd h
inputs_long (c ∷ cs) ((byte ∷ bytes) ∷ fields) (m ∷ ms) h = ap suc (inputs_long cs fields ms h.1)

-- empty fields
pub empty_each : (fields : Record) → list_all is_empty fields ≡ true → Each (λ (f : List ℕ). f ≡ []) fields
empty_each [] h = tt
empty_each ([] ∷ fields) h = (refl, empty_each fields h)
empty_each ((byte ∷ bytes) ∷ fields) h = absurd (cc)

pub each_empty : (fields : Record) → Each (λ (f : List ℕ). f ≡ []) fields → list_all is_empty fields ≡ true
each_empty [] h = refl
each_empty (f ∷ fields) h = and_from (is_empty f) (list_all is_empty fields) (ap is_empty h.0) (each_empty fields h.1)

-- what is read of a record: an event that it stands for, and which may come next
record Sound (leaves : List Leaf) (cs : List Meant) (last : ℕ) (row : Record) (e : Event) : Type 0 where
  is : IsEvent cs last row (meant_event leaves e)
  next : CanBeNext leaves last e

scan_sound : (leaves : List Leaf) (ds : List Column) (cs : List Meant) → AreColumns leaves ds cs → (last : ℕ) (w text : List ℕ) (fields : Record) → length fields ≡ length ds → w ≡ codes "scan"
    → (e : Event) → scan_event ds last (w ∷ text ∷ fields) ≡ Some e → Sound leaves cs last (w ∷ text ∷ fields) e
unfolding scan_event
scan_sound leaves ds cs of last w text fields long word e h =
    let first = bound (scan_after ds last (w ∷ text ∷ fields)) (time_of text) e h in
    let t = first.0 in
    let second = passed (nat_le last t) (option_map (scan_at t) (inputs_of ds fields)) e first.2 in
    let read = mapped (scan_at t) (inputs_of ds fields) e second.1 in
    let inputs = inputs_sound leaves ds cs of fields read.0 long read.1 in
    let time = time_sound text t first.1 in
    let before = leb-true last t second.0 in
    subst (Sound leaves cs last (w ∷ text ∷ fields)) read.2 (record {
      is = record { text = text; fields = fields; row_is = ap (λ (x : List ℕ). x ∷ text ∷ fields) word; time_is = time; not_before = before; are_inputs = inputs.0 };
      next = (record { time_is = refl; not_before = before; within = time.within }, inputs.1);
    })

restart_sound : (leaves : List Leaf) (cs : List Meant) (last : ℕ) (w : List ℕ) (fields : Record) → length fields ≡ length cs + 1
    → (e : Event) → restart_event (w ∷ fields) ≡ Some e → Sound leaves cs last (w ∷ fields) e
unfolding restart_event
restart_sound leaves cs last w fields long e h =
    let alone = passed (list_all is_empty fields) (if bytes_eq w (codes "warm") then Some Warm else (if bytes_eq w (codes "cold") then Some Cold else None)) e h in
    by (bytes_eq w (codes "warm")) refl (empty_each fields alone.0) alone.1
  where
    of_word : (word : List ℕ) → bytes_eq w word ≡ true → Each (λ (f : List ℕ). f ≡ []) fields → IsRestart cs word (w ∷ fields)
    of_word word is empty = record { fields = fields; row_is = ap (λ (x : List ℕ). x ∷ fields) ((bytes_eq-Decides w word).0 is); long = long; empty = empty }

    by : (b : Bool) → bytes_eq w (codes "warm") ≡ b → Each (λ (f : List ℕ). f ≡ []) fields → (if b then Some Warm else (if bytes_eq w (codes "cold") then Some Cold else None)) ≡ Some e → Sound leaves cs last (w ∷ fields) e
    by true is empty k = subst (Sound leaves cs last (w ∷ fields)) (same_Some Warm e k) (record { is = of_word (codes "warm") is empty; next = tt })
    by false is empty k =
        let cold = passed (bytes_eq w (codes "cold")) (Some Cold) e k in
        subst (Sound leaves cs last (w ∷ fields)) (same_Some Cold e cold.1) (record { is = of_word (codes "cold") cold.0 empty; next = tt })

row_sound : (leaves : List Leaf) (ds : List Column) (cs : List Meant) → AreColumns leaves ds cs → (last : ℕ) (row : Record) (e : Event) → row_event ds last row ≡ Some e → Sound leaves cs last row e
unfolding row_event
row_sound leaves ds cs of last [] e h =
    let long = eqb-true 0 (length ds + 2) (passed (nat_eq 0 (length ds + 2)) _ e h).0 in absurd (omega arith)
row_sound leaves ds cs of last (w ∷ []) e h =
    let long = eqb-true 1 (length ds + 2) (passed (nat_eq 1 (length ds + 2)) _ e h).0 in absurd (omega arith)
row_sound leaves ds cs of last (w ∷ text ∷ fields) e h =
    let first = passed (nat_eq (suc (suc (length fields))) (length ds + 2)) (if bytes_eq w (codes "scan") then scan_event ds last (w ∷ text ∷ fields) else restart_event (w ∷ text ∷ fields)) e h in
    let long = eqb-true (suc (suc (length fields))) (length ds + 2) first.0 in
    let same = columns_long leaves ds cs of in
    by (bytes_eq w (codes "scan")) refl (let l = long in omega arith) (let l = long in let s = same in omega arith) first.1
  where
    by : (b : Bool) → bytes_eq w (codes "scan") ≡ b → length fields ≡ length ds → suc (length fields) ≡ length cs + 1 → (if b then scan_event ds last (w ∷ text ∷ fields) else restart_event (w ∷ text ∷ fields)) ≡ Some e
        → Sound leaves cs last (w ∷ text ∷ fields) e
    by true is long longer k = scan_sound leaves ds cs of last w text fields long ((bytes_eq-Decides w (codes "scan")).0 is) e k
    by false is long longer k = restart_sound leaves cs last w (text ∷ fields) longer e k

-- the other way round: what a record stands for is read of it
scan_complete : (leaves : List Leaf) (ds : List Column) (cs : List Meant) → AreColumns leaves ds cs → (last : ℕ) (row : Record) (time : ℕ) (ms : List run.Input) → IsScan cs last row time ms
    → (e : Event) × (row_event ds last row ≡ Some e) × (meant_event leaves e ≡ run.Scan time ms)
unfolding row_event scan_event
scan_complete leaves ds cs of last row time ms h =
    let read = inputs_complete leaves ds cs of h.fields ms h.are_inputs in
    let same = columns_long leaves ds cs of in
    let fields = inputs_long cs h.fields ms h.are_inputs in
    let long : suc (suc (length h.fields)) ≡ length ds + 2 = omega arith in (
      Scan (pos time) read.0,
      ap (row_event ds last) h.row_is
          ∙ ap (λ b. if b then scan_event ds last (codes "scan" ∷ h.text ∷ h.fields) else None) (eq-eqb (suc (suc (length h.fields))) (length ds + 2) long)
          ∙ ap (option_and_then (scan_after ds last (codes "scan" ∷ h.text ∷ h.fields))) (time_complete h.text time h.time_is)
          ∙ ap (λ b. if b then option_map (scan_at time) (inputs_of ds h.fields) else None) (le-leb last time h.not_before)
          ∙ ap (option_map (scan_at time)) read.1,
      ap (run.Scan time) read.2,
    )

restart_long : (ds : List Column) (cs : List Meant) (fields : Record) → length ds ≡ length cs → length fields ≡ length cs + 1 → nat_eq (suc (length fields)) (length ds + 2) ≡ true
restart_long ds cs fields same long = eq-eqb (suc (length fields)) (length ds + 2) (omega arith)

warm_complete : (leaves : List Leaf) (ds : List Column) (cs : List Meant) → AreColumns leaves ds cs → (last : ℕ) (row : Record) → IsRestart cs (codes "warm") row → row_event ds last row ≡ Some Warm
unfolding row_event restart_event
warm_complete leaves ds cs of last row h =
    ap (row_event ds last) h.row_is
    ∙ ap (λ b. if b then restart_event (codes "warm" ∷ h.fields) else None) (restart_long ds cs h.fields (columns_long leaves ds cs of) h.long)
    ∙ ap (λ b. if b then Some Warm else None) (each_empty h.fields h.empty)

cold_complete : (leaves : List Leaf) (ds : List Column) (cs : List Meant) → AreColumns leaves ds cs → (last : ℕ) (row : Record) → IsRestart cs (codes "cold") row → row_event ds last row ≡ Some Cold
unfolding row_event restart_event
cold_complete leaves ds cs of last row h =
    ap (row_event ds last) h.row_is
    ∙ ap (λ b. if b then restart_event (codes "cold" ∷ h.fields) else None) (restart_long ds cs h.fields (columns_long leaves ds cs of) h.long)
    ∙ ap (λ b. if b then Some Cold else None) (each_empty h.fields h.empty)

row_complete : (leaves : List Leaf) (ds : List Column) (cs : List Meant) → AreColumns leaves ds cs → (last : ℕ) (row : Record) (m : run.Event) → IsEvent cs last row m
    → (e : Event) × (row_event ds last row ≡ Some e) × (meant_event leaves e ≡ m)
row_complete leaves ds cs of last row (run.Scan time ms) h = scan_complete leaves ds cs of last row time ms h
row_complete leaves ds cs of last row (run.Again layout.Warm) h = (Warm, warm_complete leaves ds cs of last row h, refl)
row_complete leaves ds cs of last row (run.Again layout.Cold) h = (Cold, cold_complete leaves ds cs of last row h, refl)

same_last : (leaves : List Leaf) (last : ℕ) (e : Event) → run.last_after last (meant_event leaves e) ≡ last_after last e
same_last leaves last (Scan time is) = refl
same_last leaves last Warm = refl
same_last leaves last Cold = refl

-- records that are read as events stand for them, and these may come one after another
pub rows_sound : (leaves : List Leaf) (ds : List Column) (cs : List Meant) → AreColumns leaves ds cs → (last : ℕ) (rows : List Record) (es : List Event) → rows_events ds last rows ≡ Some es
    → AreEvents cs last rows (meant_events leaves es) × CanFollow leaves last es
rows_sound leaves ds cs of last [] es h = subst (λ (x : List Event). AreEvents cs last [] (meant_events leaves x) × CanFollow leaves last x) (same_Some [] es h) (tt, tt)
rows_sound leaves ds cs of last (row ∷ rows) es h =
    let first = bound (λ (e : Event). option_map (λ (x : List Event). e ∷ x) (rows_events ds (last_after last e) rows)) (row_event ds last row) es h in
    let rest = mapped (λ (x : List Event). first.0 ∷ x) (rows_events ds (last_after last first.0) rows) es first.2 in
    let one = row_sound leaves ds cs of last row first.0 first.1 in
    let more = rows_sound leaves ds cs of (last_after last first.0) rows rest.0 rest.1 in
    subst (λ (x : List Event). AreEvents cs last (row ∷ rows) (meant_events leaves x) × CanFollow leaves last x) rest.2
    ((one.is, subst (λ n. AreEvents cs n rows (meant_events leaves rest.0)) (sym (same_last leaves last first.0)) more.0), (one.next, more.1))

-- and the events that records stand for are read
pub rows_complete : (leaves : List Leaf) (ds : List Column) (cs : List Meant) → AreColumns leaves ds cs → (last : ℕ) (rows : List Record) (ms : List run.Event) → AreEvents cs last rows ms
    → (es : List Event) × (rows_events ds last rows ≡ Some es) × (meant_events leaves es ≡ ms)
rows_complete leaves ds cs of last [] [] h = ([], refl, refl)
rows_complete leaves ds cs of last [] (m ∷ ms) h = absurd h
rows_complete leaves ds cs of last (row ∷ rows) [] h = absurd h
rows_complete leaves ds cs of last (row ∷ rows) (m ∷ ms) h =
    let one = row_complete leaves ds cs of last row m h.0 in
    let next : run.last_after last m ≡ last_after last one.0 = ap (run.last_after last) (sym one.2) ∙ same_last leaves last one.0 in
    let rest = rows_complete leaves ds cs of (last_after last one.0) rows ms (subst (λ n. AreEvents cs n rows ms) next h.1) in (
      one.0 ∷ rest.0,
      ap (option_and_then (λ (e : Event). option_map (λ (x : List Event). e ∷ x) (rows_events ds (last_after last e) rows))) one.1 ∙ ap (option_map (λ (x : List Event). one.0 ∷ x)) rest.1,
      ap₂ (λ (x : run.Event) (xs : List run.Event). x ∷ xs) one.2 rest.2,
    )

-- one record more
pub rows_push : (ds : List Column) (last : ℕ) (rows : List Record) (row : Record) (es : List Event) → rows_events ds last rows ≡ Some es
    → rows_events ds last (rows ++ row ∷ []) ≡ option_map (λ (e : Event). es ++ e ∷ []) (row_event ds (last_at_end last es) row)
rows_push ds last [] row es h = subst (λ (x : List Event). rows_events ds last (row ∷ []) ≡ option_map (λ (e : Event). x ++ e ∷ []) (row_event ds (last_at_end last x) row)) (same_Some [] es h) (by (row_event ds last row))
  where
    by : (o : Option Event) → option_and_then (λ (e : Event). Some (e ∷ [])) o ≡ option_map (λ (e : Event). e ∷ []) o
    by None = refl
    by (Some e) = refl
rows_push ds last (r ∷ rows) row es h =
    let first = bound (λ (e : Event). option_map (λ (x : List Event). e ∷ x) (rows_events ds (last_after last e) rows)) (row_event ds last r) es h in
    let rest = mapped (λ (x : List Event). first.0 ∷ x) (rows_events ds (last_after last first.0) rows) es first.2 in
    let more = rows_push ds (last_after last first.0) rows row rest.0 rest.1 in
    subst (λ (x : List Event). rows_events ds last (r ∷ (rows ++ row ∷ [])) ≡ option_map (λ (e : Event). x ++ e ∷ []) (row_event ds (last_at_end last x) row)) rest.2
    (ap (option_and_then (λ (e : Event). option_map (λ (x : List Event). e ∷ x) (rows_events ds (last_after last e) (rows ++ row ∷ [])))) first.1
    ∙ ap (option_map (λ (x : List Event). first.0 ∷ x)) more
    ∙ by first.0 rest.0 (row_event ds (last_at_end (last_after last first.0) rest.0) row))
  where
    by : (f : Event) (xs : List Event) (o : Option Event) → option_map (λ (x : List Event). f ∷ x) (option_map (λ (e : Event). xs ++ e ∷ []) o) ≡ option_map (λ (e : Event). f ∷ (xs ++ e ∷ [])) o
    by f xs None = refl
    by f xs (Some e) = refl
