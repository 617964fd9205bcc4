-- Runs over events: one event more.
use Rattle.std.proofs.Common.{◌≡◌, ◌<◌, ◌+◌, ◌∙◌, ◌∷◌, ◌++◌, ◌≤◌, ℕ, List, [], take, drop, length, get_or, refl, sym, ap, ap₂, subst}
use Rattle.std.specs.Prelude.{filter, OnErr}
use Rattle.std.specs.declared.result.Result.{Result}
use Rattle.std.specs.declared.result.Result.TheVariants.{Ok, Err}
use Rattle.std.proofs.Math.Nat.{le_refl}
use Rattle.std.proofs.Math.Seq.{take-length}
use Rattle.std.proofs.lemmas.List.{map-append, length-map, take-map, take_more, drop_more}
use Rattle.plcx_types.specs.Lists.{Each}
use Rattle.plcx_types.specs.Value.{Value}
use Rattle.plcx_meaning.specs.Layout.{Leaf as Meant}
use Rattle.plcx_meaning.specs.Run as meant
use Rattle.plcx_meaning.specs.Run.{Machine, tells, after}
use Rattle.plcx_meaning.specs.Traces.{Line, line, shown_values, values_at, lines_from, side_at_end}
use Rattle.plcx_state.specs.declared.layout.Leaf.{Leaf}
use Rattle.plcx_state.specs.Layouts.{all_meant}
use Rattle.plcx_state.specs.Retains.{Pairwise, numbers, Agrees}
use Rattle.plcx_scan.specs.declared.row.TraceRow.{TraceRow}
use Rattle.plcx_scan.specs.Events.{Event, meant_event, meant_events, CanBeNext, CanFollow, last_after, last_at_end}
use Rattle.plcx_scan.specs.Sides.{Tells, Brings, BringsAll, BringsSome, Shows, HasLine, HasLines, HasTypeOf, told}
use Rattle.plcx_scan.specs.Rows.{shown_leaves, shown_numbers, picked, meant_line, meant_lines, IsRowOf}
use Rattle.plcx_scan.specs.declared.side.Outcome.{Outcome}
use Rattle.plcx_state.proofs.Eaches.{each_push}
use Rattle.plcx_scan.proofs.Picked.{picked_is, shown_typed, shown_agree}

-- the values that are picked after an event are those that the machine shows
pub line_is : {G : Type 0} (m : Machine G) (turns : ℕ) (e : meant.Event) (Old New : meant.Side G → Type 0) (leaves : List Leaf) (values : List Value) (outcome : Outcome)
    → all_meant leaves ≡ m.layout → Pairwise HasTypeOf leaves values → Tells m turns e Old outcome → Brings m turns e Old New → Shows m leaves New values
    → HasLine m turns e Old (line (told outcome) (numbers (picked (shown_numbers leaves) values)))
line_is m turns e Old New leaves values outcome layout typed tells brings shows g stands =
    let values_are = ap numbers (picked_is leaves values typed) ∙ shown_agree (m.value (after m turns e g).state) leaves values (shows (after m turns e g) (brings g stands)) in
    ap₂ line (sym (tells g stands)) (values_are ∙ ap (λ (ms : List Meant). values_at m (after m turns e g) (filter (λ (leaf : Meant). leaf.shown) ms)) layout)

-- the side after one event more
side_more : {G : Type 0} (m : Machine G) (turns : ℕ) (es : List meant.Event) (e : meant.Event) (g : meant.Side G) → side_at_end m turns (es ++ e ∷ []) g ≡ after m turns e (side_at_end m turns es g)
side_more m turns [] e g = refl
side_more m turns (d ∷ es) e g = side_more m turns es e (after m turns d g)

lines_more : {G : Type 0} (m : Machine G) (turns : ℕ) (es : List meant.Event) (e : meant.Event) (g : meant.Side G)
    → lines_from m turns (es ++ e ∷ []) g ≡ lines_from m turns es g ++ line (tells m turns e (side_at_end m turns es g)) (shown_values m (after m turns e (side_at_end m turns es g))) ∷ []
lines_more m turns [] e g = refl
lines_more m turns (d ∷ es) e g = ap (λ (t : List Line). line (tells m turns d g) (shown_values m (after m turns d g)) ∷ t) (lines_more m turns es e (after m turns d g))

pub brings_more : {G : Type 0} (m : Machine G) (turns : ℕ) (es : List meant.Event) (e : meant.Event) (Old Now New : meant.Side G → Type 0)
    → BringsAll m turns es Old Now → Brings m turns e Now New → BringsAll m turns (es ++ e ∷ []) Old New
brings_more m turns es e Old Now New all one g stands = rw (side_more m turns es e g) (one (side_at_end m turns es g) (all g stands))

pub has_more : {G : Type 0} (m : Machine G) (turns : ℕ) (es : List meant.Event) (e : meant.Event) (Old Now : meant.Side G → Type 0) (lines : List Line) (l : Line)
    → BringsAll m turns es Old Now → HasLines m turns es Old lines → HasLine m turns e Now l → HasLines m turns (es ++ e ∷ []) Old (lines ++ l ∷ [])
has_more m turns es e Old Now lines l all before here g stands =
    ap₂ (λ (ls : List Line) (k : Line). ls ++ k ∷ []) (before g stands) (here (side_at_end m turns es g) (all g stands)) ∙ sym (lines_more m turns es e g)

-- the line of the row that is made after an event
pub row_line : {G : Type 0} (m k : Machine G) → k ≡ m → (turns : ℕ) (e : meant.Event) (Old New : meant.Side G → Type 0) (leaves there : List Leaf) → there ≡ leaves
    → (values : List Value) (outcome : Outcome) → all_meant leaves ≡ m.layout → Pairwise HasTypeOf there values → Tells m turns e Old outcome → Brings m turns e Old New → Shows k there New values
    → (row : TraceRow) (numbers_are : List ℕ) → numbers_are ≡ shown_numbers leaves → row.outcome ≡ outcome → row.values ≡ picked numbers_are values → HasLine m turns e Old (meant_line row)
row_line {G} m k same turns e Old New leaves there laid values outcome layout typed tells brings shows row ns ns_are outcome_is values_are g stands =
    ap₂ line (ap told outcome_is) (ap numbers (values_are ∙ ap (λ (x : List ℕ). picked x values) ns_are))
    ∙ line_is m turns e Old New leaves values outcome layout
    (subst (λ (ls : List Leaf). Pairwise HasTypeOf ls values) laid typed)
    tells brings
    (λ h s. subst (λ (x : Machine G). Agrees leaves (x.value h.state) (numbers values)) same (subst (λ (ls : List Leaf). Agrees ls (k.value h.state) (numbers values)) laid (shows h s)))
    g stands

-- and it is a row of the layout
pub row_of : (leaves there : List Leaf) → there ≡ leaves → (values : List Value) → Pairwise HasTypeOf there values → (row : TraceRow) (ns : List ℕ) → ns ≡ shown_numbers leaves → row.values ≡ picked ns values → IsRowOf leaves row
row_of leaves there laid values typed row ns ns_are values_are =
    let here = subst (λ (ls : List Leaf). Pairwise HasTypeOf ls values) laid typed in
    subst (Pairwise HasTypeOf (shown_leaves leaves)) (sym (values_are ∙ ap (λ (x : List ℕ). picked x values) ns_are ∙ picked_is leaves values here)) (shown_typed leaves values here)

-- the events up to one more, in the words of the meaning
events_more : (leaves : List Leaf) (events : List Event) (i : ℕ) (event : Event) → i < length events → event ≡ get_or events i event
    → meant_events leaves (take (i + 1) events) ≡ meant_events leaves (take i events) ++ meant_event leaves event ∷ []
events_more leaves events i event lt is = ap (meant_events leaves) (take_more events i event lt ∙ ap (λ (e : Event). take i events ++ e ∷ []) (sym is)) ∙ map-append (meant_event leaves) (take i events) (event ∷ [])

-- one event more leads on, where the machine and the layout are those that there were at first
pub brings_next : {G : Type 0} (m k : Machine G) → k ≡ m → (turns : ℕ) (leaves there : List Leaf) → there ≡ leaves
    → (events : List Event) (i : ℕ) (event : Event) → i < length events → event ≡ get_or events i event
    → (Old Now New : meant.Side G → Type 0) → BringsAll m turns (meant_events leaves (take i events)) Old Now → Brings k turns (meant_event there event) Now New
    → BringsAll m turns (meant_events leaves (take (i + 1) events)) Old New
brings_next {G} m k same turns leaves there laid events i event lt is Old Now New all one =
    subst (λ (es : List meant.Event). BringsAll m turns es Old New) (sym (events_more leaves events i event lt is))
    (brings_more m turns (meant_events leaves (take i events)) (meant_event leaves event) Old Now New all
    (subst (λ (x : Machine G). Brings x turns (meant_event leaves event) Now New) same (subst (λ (ls : List Leaf). Brings k turns (meant_event ls event) Now New) laid one)))

pub has_next : {G : Type 0} (m k : Machine G) → k ≡ m → (turns : ℕ) (leaves there : List Leaf) → there ≡ leaves
    → (events : List Event) (i : ℕ) (event : Event) → i < length events → event ≡ get_or events i event
    → (Old Now : meant.Side G → Type 0) (rows : List TraceRow) (row : TraceRow) → BringsAll m turns (meant_events leaves (take i events)) Old Now
    → HasLines m turns (meant_events leaves (take i events)) Old (meant_lines rows) → HasLine k turns (meant_event there event) Now (meant_line row)
    → HasLines m turns (meant_events leaves (take (i + 1) events)) Old (meant_lines (rows ++ row ∷ []))
has_next {G} m k same turns leaves there laid events i event lt is Old Now rows row all before here =
    subst (λ (es : List meant.Event). HasLines m turns es Old (meant_lines (rows ++ row ∷ []))) (sym (events_more leaves events i event lt is))
    (subst (λ (ls : List Line). HasLines m turns (meant_events leaves (take i events) ++ meant_event leaves event ∷ []) Old ls) (sym (map-append meant_line rows (row ∷ [])))
    (has_more m turns (meant_events leaves (take i events)) (meant_event leaves event) Old Now (meant_lines rows) (meant_line row) all before
    (subst (λ (x : Machine G). HasLine x turns (meant_event leaves event) Now (meant_line row)) same (subst (λ (ls : List Leaf). HasLine k turns (meant_event ls event) Now (meant_line row)) laid here))))

-- what so many events lead to, some of all events do
pub some_brought : {G : Type 0} (m : Machine G) (turns : ℕ) (leaves : List Leaf) (events : List Event) (count : ℕ) → count ≤ length events
    → (Old New : meant.Side G → Type 0) → BringsAll m turns (meant_events leaves (take count events)) Old New → BringsSome m turns (meant_events leaves events) Old New
some_brought m turns leaves events count le Old New all =
    (count, (rw (length-map events (meant_event leaves)) le), subst (λ (es : List meant.Event). BringsAll m turns es Old New) (sym (take-map (meant_event leaves) count events)) all)

pub on_err : {A E : Type 0} (r : Result A E) (P : Type 0) → P → OnErr r P
on_err (Ok x) P p = tt
on_err (Err e) P p = p

-- events that may follow: the one at a place, and those behind it
pub follow_next : (leaves : List Leaf) (last : ℕ) (events : List Event) (i : ℕ) (event : Event) → i < length events → event ≡ get_or events i event
    → CanFollow leaves last (drop i events) → CanBeNext leaves last event × CanFollow leaves (last_after last event) (drop (i + 1) events)
follow_next leaves last events i event lt is h = subst (CanFollow leaves last) (drop_more events i event lt ∙ ap (λ (e : Event). e ∷ drop (i + 1) events) (sym is)) h

-- the lines of rows that are equal
pub pushed_lines : {G : Type 0} (m : Machine G) (turns : ℕ) (es : List meant.Event) (Old : meant.Side G → Type 0) (rows more : List TraceRow) → rows ≡ more → HasLines m turns es Old (meant_lines more) → HasLines m turns es Old (meant_lines rows)
pushed_lines m turns es Old rows more same h g stands = ap meant_lines same ∙ h g stands

-- all events are some of them
pub all_brought : {G : Type 0} (m : Machine G) (turns : ℕ) (es : List meant.Event) (Old New : meant.Side G → Type 0) → BringsAll m turns es Old New → BringsSome m turns es Old New
all_brought m turns es Old New all = (length es, le_refl (length es), subst (λ (ds : List meant.Event). BringsAll m turns ds Old New) (sym (take-length es)) all)

-- the time of the last scan after one event more
pub last_push : (last : ℕ) (es : List Event) (e : Event) → last_at_end last (es ++ e ∷ []) ≡ last_after (last_at_end last es) e
last_push last [] e = refl
last_push last (d ∷ es) e = last_push (last_after last d) es e

pub time_next : (first : ℕ) (events : List Event) (i : ℕ) (event : Event) → i < length events → event ≡ get_or events i event → (last next : ℕ)
    → last ≡ last_at_end first (take i events) → next ≡ last_after last event → next ≡ last_at_end first (take (i + 1) events)
time_next first events i event lt is last next before now =
    now ∙ ap (λ n. last_after n event) before ∙ sym (last_push first (take i events) event)
    ∙ ap (last_at_end first) (sym (take_more events i event lt ∙ ap (λ (e : Event). take i events ++ e ∷ []) (sym is)))

-- one row more
pub rows_next : (leaves there : List Leaf) → there ≡ leaves → (rows more : List TraceRow) (row : TraceRow) → more ≡ rows ++ row ∷ [] → Each (IsRowOf leaves) rows → IsRowOf there row → Each (IsRowOf leaves) more
rows_next leaves there laid rows more row pushed before here =
    subst (Each (IsRowOf leaves)) (sym pushed) (each_push (IsRowOf leaves) rows row before (subst (λ (ls : List Leaf). IsRowOf ls row) laid here))
