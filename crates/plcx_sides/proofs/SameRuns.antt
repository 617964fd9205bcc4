-- Runs of programs that correspond come to the same.
use Rattle.std.proofs.Common.{◌≡◌, ◌≢◌, ◌∙◌, ℕ, ℤ, List, [], length, refl, sym, ap, subst}
use Rattle.std.specs.Prelude.{Option, Some, None, Result, Ok, Err, true}
use Rattle.plcx_types.specs.Lists.{Each}
use Rattle.plcx_types.specs.Value.{Value}
use Rattle.plcx_meaning.specs.Base.{Path, is_declared}
use Rattle.plcx_meaning.specs.Layout.{declared_leaves, IsLayout, IsRetainedState}
use Rattle.plcx_meaning.specs.Layout.{Leaf as Meant}
use Rattle.plcx_meaning.specs.Run as meant
use Rattle.plcx_meaning.specs.Run.{Event, Machine}
use Rattle.plcx_meaning.specs.Traces.{trace_with}
use Rattle.plcx_words.specs.Command.{Run}
use Rattle.plcx_state.specs.declared.layout.Leaf.{Leaf}
use Rattle.plcx_state.specs.Layouts.{Laid, IsLaid, all_meant, BeginsTyped}
use Rattle.plcx_state.specs.Lines.{kept_by, Said}
use Rattle.plcx_state.specs.Meanings.{KeepsAs}
use Rattle.plcx_state.specs.Retains.{kept_at, IsRetainedOf}
use Rattle.plcx_state.specs.Tables.{IsTold}
use Rattle.plcx_state.proofs.Keeping.{initially_suits, kept_suits}
use Rattle.plcx_state.proofs.Meaning.{keeps_as}
use Rattle.plcx_scan.specs.Files as events
use Rattle.plcx_scan.specs.Texts.{trace_bytes}
use Rattle.plcx_scan.proofs.OneEvents.{events_once, wrong_same, file_not_wrong}
use Rattle.plcx_traced.specs.Files.{IsWrongLine, long, wrong, TellsEvents, IsWrongRow, Begins, WhyNotBegun}
use Rattle.plcx_traced.specs.Programs.{Programs, IsChosen, IsMissing}
use Rattle.plcx_traced.specs.Runs.{Chosen, Begun, IsTraced, ComesTo, AreTold, machine_of}
use Rattle.plcx_traced.specs.declared.error.RunError.{RunError}
use Rattle.plcx_traced.specs.declared.error.RunError.TheVariants.{NoProgram, RetainedRead, Line, EventsRead, Row, NoMemory}
use Rattle.plcx_traced.proofs.OneFile.{bytes_same, not_long, told_kept, told_line, told_no_line}
use Rattle.plcx_sides.proofs.SameLines.{lines_over, kept_over}
use Rattle.plcx_sides.proofs.SameLines as same-lines
use Rattle.plcx_sides.proofs.SameEvents.{SetsDeclared, events_over, file_follows}
use Rattle.plcx_sides.proofs.SameEvents as same-events

-- two retained states have the same values of all that is declared
abbrev pub SameKept : (Path → ℤ) → (Path → ℤ) → Type 0
SameKept kept other = (p : Path) → is_declared p ≡ true → kept p ≡ other p

-- two machines declare the same, and leave the same texts of traces
pub record AreAlike {G H : Type 0} (m : Machine G) (k : Machine H) : Type 0 where
  pub layouts : declared_leaves m.layout ≡ declared_leaves k.layout
  pub sets : SetsDeclared m.layout
  pub sets_too : SetsDeclared k.layout
  pub texts : (kept other : Path → ℤ) → IsRetainedState m.layout kept → SameKept kept other → (es : List Event) → meant.AreEvents m.layout 0 es → (turns : ℕ)
      → trace_bytes m.layout (trace_with m kept turns es) ≡ trace_bytes k.layout (trace_with k other turns es)

-- a run's program is there in the one file where it is in the other, and both are alike
pub record Correspond {P G Q H : Type 0} (ps : Programs P G) (qs : Programs Q H) (program : Option (List ℕ)) : Type 0 where
  pub counts : length ps.all ≡ length qs.all
  pub alike : (p : P) (q : Q) → IsChosen ps program p → IsChosen qs program q → AreAlike (ps.machine p) (qs.machine q)
  pub missing : (p : P) → IsChosen ps program p → IsMissing qs program → ⊥
  pub missing_too : (q : Q) → IsChosen qs program q → IsMissing ps program → ⊥

abbrev Never : List ℕ → Type 0
Never name = ⊥

-- ---- retained files

-- what a run begins with, by what is said
record Says (told : List ℕ → Option (List ℕ)) (retain : Option (List ℕ)) (xs ys : List Leaf) (kept : List (Option Value)) : Type 0 where
  saids : List Said
  kept_is : kept ≡ kept_by xs saids
  begins : Begins told ys retain (kept_by ys saids)

module _ (xs ys : List Leaf) (hx : Each BeginsTyped xs) (hy : Each BeginsTyped ys) (same : declared_leaves (all_meant xs) ≡ declared_leaves (all_meant ys)) (told : List ℕ → Option (List ℕ)) where
  says : (retain : Option (List ℕ)) (kept : List (Option Value)) → Begins told xs retain kept → Says told retain xs ys kept
  says None kept h = record { saids = []; kept_is = h; begins = refl }
  says (Some name) kept h = record {
    saids = h.stands.saids;
    kept_is = h.stands.kept_is;
    begins = record { bytes = h.bytes; loaded = h.loaded; stands = record { saids = h.stands.saids; lines = lines_over xs ys hx hy same _ h.stands.saids h.stands.lines; kept_is = refl } };
  }

  wrong_line : (file : Option (List ℕ)) (n : ℕ) → IsWrongLine file xs n → IsWrongLine file ys n
  wrong_line file _ (long l) = long l
  wrong_line file _ (wrong bytes loaded place first) = wrong bytes loaded place (same-lines.wrong_over xs ys hx hy same _ place first)

  line_over : (retain : Option (List ℕ)) (n : ℕ) → WhyNotBegun told Never xs retain (Line n) → WhyNotBegun told Never ys retain (Line n)
  line_over None n h = h
  line_over (Some name) n h = wrong_line (told name) n h

abbrev AreThere : (List ℕ → Option (List ℕ)) → Option (List ℕ) → Type 0
AreThere told retain = (name : List ℕ) → retain ≡ Some name → (bytes : List ℕ) × (told name ≡ Some bytes)

begins_same : (told : List ℕ → Option (List ℕ)) (retain : Option (List ℕ)) → AreThere told retain → (leaves : List Leaf) → IsTold leaves
    → (a b : List (Option Value)) → Begins told leaves retain a → Begins told leaves retain b → a ≡ b
begins_same told None is leaves plain a b h k = h ∙ sym k
begins_same told (Some name) is leaves plain a b h k = let held = is name refl in told_kept (told name) held.0 held.1 leaves plain a b h k

no_line : (told : List ℕ → Option (List ℕ)) (retain : Option (List ℕ)) → AreThere told retain → (leaves : List Leaf) (kept : List (Option Value)) (line : ℕ)
    → Begins told leaves retain kept → WhyNotBegun told Never leaves retain (Line line) → ⊥
no_line told None is leaves kept line h w = cc
no_line told (Some name) is leaves kept line h w = let held = is name refl in told_no_line (told name) held.0 held.1 leaves kept line h w

line_same : (told : List ℕ → Option (List ℕ)) (retain : Option (List ℕ)) → AreThere told retain → (leaves : List Leaf) (m n : ℕ)
    → WhyNotBegun told Never leaves retain (Line m) → WhyNotBegun told Never leaves retain (Line n) → m ≡ n
line_same told None is leaves m n h k = absurd (cc)
line_same told (Some name) is leaves m n h k = let held = is name refl in told_line (told name) held.0 held.1 leaves m n h k

no_read : (told : List ℕ → Option (List ℕ)) (retain : Option (List ℕ)) (leaves : List Leaf) → WhyNotBegun told Never leaves retain RetainedRead → ⊥
no_read told None leaves h = cc
no_read told (Some name) leaves h = h

begins_suits : (l : Laid) → IsLaid l → (told : List ℕ → Option (List ℕ)) (retain : Option (List ℕ)) (kept : List (Option Value)) → Begins told l.leaves retain kept → IsRetainedOf l.leaves kept
begins_suits l laid told None kept h = subst (IsRetainedOf l.leaves) (sym h) (initially_suits l laid)
begins_suits l laid told (Some name) kept h = subst (IsRetainedOf l.leaves) (sym h.stands.kept_is) (kept_suits l laid _ h.stands.saids h.stands.lines)

retained_state : (l : Laid) → IsLaid l → (kept : List (Option Value)) → IsRetainedOf l.leaves kept → IsRetainedState (all_meant l.leaves) (kept_at l.leaves kept)
unfolding KeepsAs
retained_state l laid kept h = keeps_as l laid kept h

-- ---- files of events

tells_over : (xs ys : List Meant) → SetsDeclared xs → declared_leaves xs ≡ declared_leaves ys → (file : Option (List ℕ)) (es : List Event) → TellsEvents file xs es → TellsEvents file ys es
tells_over xs ys sets same file es h = record { bytes = h.bytes; loaded = h.loaded; stands = events_over xs ys sets same h.bytes es h.stands }

row_over : (xs ys : List Meant) → SetsDeclared xs → SetsDeclared ys → declared_leaves xs ≡ declared_leaves ys → (file : Option (List ℕ)) (n : ℕ) → IsWrongRow file xs n → IsWrongRow file ys n
row_over xs ys sets too same file _ (long l) = long l
row_over xs ys sets too same file _ (wrong bytes loaded first) = wrong bytes loaded (same-events.wrong_over xs ys sets too same _ _ first)

module _ (file : Option (List ℕ)) (held : List ℕ) (is : file ≡ Some held) where
  events_same : (leaves : List Meant) → IsLayout leaves → (es fs : List Event) → TellsEvents file leaves es → TellsEvents file leaves fs → es ≡ fs
  events_same leaves laid es fs h k =
      let same = bytes_same file held h.bytes k.bytes is h.loaded k.loaded in
      events_once leaves laid k.bytes es fs (subst (λ (b : List ℕ). events.StandsForEvents leaves b es) same h.stands) k.stands

  no_row : (leaves : List Meant) (es : List Event) (row : ℕ) → TellsEvents file leaves es → IsWrongRow file leaves row → ⊥
  no_row leaves es row h (long l) = not_long file held h.bytes is h.loaded l
  no_row leaves es row h (wrong bytes loaded first) =
      let same = bytes_same file held bytes h.bytes is loaded h.loaded in
      file_not_wrong leaves h.bytes es h.stands row (subst (λ (b : List ℕ). events.IsFirstWrong leaves (events.records_of b) row) same first)

  row_same : (leaves : List Meant) (m n : ℕ) → IsWrongRow file leaves m → IsWrongRow file leaves n → m ≡ n
  row_same leaves m n (long l) (long l') = refl
  row_same leaves m n (long l) (wrong bytes loaded first) = absurd (not_long file held bytes is loaded l)
  row_same leaves m n (wrong bytes loaded first) (long l) = absurd (not_long file held bytes is loaded l)
  row_same leaves m n (wrong bytes loaded first) (wrong bytes' loaded' first') =
      let same = bytes_same file held bytes bytes' is loaded loaded' in
      wrong_same leaves (events.records_of bytes') m n (subst (λ (b : List ℕ). events.IsFirstWrong leaves (events.records_of b) m) same first) first'

-- ---- runs

-- what a run comes to where nothing fails and there is memory
data Came {P G : Type 0} (told : List ℕ → Option (List ℕ)) (r : Run) (ps : Programs P G) : Result (List ℕ) RunError → Type 0 where
  traces : {text : List ℕ} → IsTraced told ps r text → Came told r ps (Ok text)
  misses : {programs : ℕ} → programs ≡ length ps.all → IsMissing ps r.program → Came told r ps (Err (NoProgram programs))
  refuses_line : {line : ℕ} (c : Chosen ps r) → WhyNotBegun told Never c.laid.leaves r.retain (Line line) → Came told r ps (Err (Line line))
  refuses_row : {row : ℕ} (b : Begun told ps r) → IsWrongRow (told r.events) (machine_of b).layout row → Came told r ps (Err (Row row))

came : {P G : Type 0} (told : List ℕ → Option (List ℕ)) (r : Run) (ps : Programs P G) (x : Result (List ℕ) RunError) → x ≢ Err NoMemory → ComesTo told Never ps r x → Came told r ps x
came told r ps (Ok text) ne h = traces h
came told r ps (Err (NoProgram programs)) ne h = misses h.0 h.1
came told r ps (Err RetainedRead) ne h = absurd (no_read told r.retain h.0.laid.leaves h.1)
came told r ps (Err (Line line)) ne h = refuses_line h.0 h.1
came told r ps (Err EventsRead) ne h = absurd h.1
came told r ps (Err (Row row)) ne h = refuses_row h.0 h.1
came told r ps (Err NoMemory) ne h = absurd (ne refl)

module _ {P G Q H : Type 0} (told : List ℕ → Option (List ℕ)) (r : Run) (all : AreTold told r) (ps : Programs P G) (qs : Programs Q H) (both : Correspond ps qs r.program) where
  alike : (c : Chosen ps r) (d : Chosen qs r) → AreAlike (ps.machine c.program) (qs.machine d.program)
  alike c d = both.alike c.program d.program c.is d.is

  declare_same : (c : Chosen ps r) (d : Chosen qs r) → declared_leaves (all_meant c.laid.leaves) ≡ declared_leaves (all_meant d.laid.leaves)
  declare_same c d = ap declared_leaves c.leaves_are ∙ (alike c d).layouts ∙ sym (ap declared_leaves d.leaves_are)

  -- a wrong line of the one file is one of the other
  line_here : (c : Chosen ps r) (d : Chosen qs r) (n : ℕ) → WhyNotBegun told Never c.laid.leaves r.retain (Line n) → WhyNotBegun told Never d.laid.leaves r.retain (Line n)
  line_here c d n w = line_over c.laid.leaves d.laid.leaves c.is_laid.typed d.is_laid.typed (declare_same c d) told r.retain n w

  line_there : (c : Chosen ps r) (d : Chosen qs r) (n : ℕ) → WhyNotBegun told Never d.laid.leaves r.retain (Line n) → WhyNotBegun told Never c.laid.leaves r.retain (Line n)
  line_there c d n w = line_over d.laid.leaves c.laid.leaves d.is_laid.typed c.is_laid.typed (sym (declare_same c d)) told r.retain n w

  row_here : (c : Chosen ps r) (d : Chosen qs r) (n : ℕ) → IsWrongRow (told r.events) (ps.machine c.program).layout n → IsWrongRow (told r.events) (qs.machine d.program).layout n
  row_here c d n w = let a = alike c d in row_over (ps.machine c.program).layout (qs.machine d.program).layout a.sets a.sets_too a.layouts (told r.events) n w

  row_there : (c : Chosen ps r) (d : Chosen qs r) (n : ℕ) → IsWrongRow (told r.events) (qs.machine d.program).layout n → IsWrongRow (told r.events) (ps.machine c.program).layout n
  row_there c d n w = let a = alike c d in row_over (qs.machine d.program).layout (ps.machine c.program).layout a.sets_too a.sets (sym a.layouts) (told r.events) n w

  -- the traces are the same
  text_same : (x y : List ℕ) → IsTraced told ps r x → IsTraced told qs r y → x ≡ y
  text_same x y h k =
      let b = h.course.begun in
      let e = k.course.begun in
      let c = b.chosen in
      let d = e.chosen in
      let a = alike c d in
      let m = ps.machine c.program in
      let n = qs.machine d.program in
      let said = says c.laid.leaves d.laid.leaves c.is_laid.typed d.is_laid.typed (declare_same c d) told r.retain b.kept b.begins in
      let told_leaves : IsTold d.laid.leaves = record { apart = d.is_laid.layout.apart; named = d.is_laid.named; plain = k.plain } in
      let other : e.kept ≡ kept_by d.laid.leaves said.saids = begins_same told r.retain all.retained d.laid.leaves told_leaves e.kept (kept_by d.laid.leaves said.saids) e.begins said.begins in
      let kept : SameKept (kept_at c.laid.leaves b.kept) (kept_at d.laid.leaves e.kept) = λ p is.
      ap (λ (ks : List (Option Value)). kept_at c.laid.leaves ks p) said.kept_is
      ∙ kept_over c.laid.leaves d.laid.leaves c.is_laid.typed d.is_laid.typed (declare_same c d) said.saids p is
      ∙ sym (ap (λ (ks : List (Option Value)). kept_at d.laid.leaves ks p) other) in
      let retained : IsRetainedState m.layout (kept_at c.laid.leaves b.kept) =
      subst (λ (ls : List Meant). IsRetainedState ls (kept_at c.laid.leaves b.kept)) c.leaves_are (retained_state c.laid c.is_laid b.kept (begins_suits c.laid c.is_laid told r.retain b.kept b.begins)) in
      let follow = file_follows m.layout h.course.tells.bytes h.course.events h.course.tells.stands in
      let layout : IsLayout n.layout = subst IsLayout d.leaves_are d.is_laid.layout in
      let events : h.course.events ≡ k.course.events =
      events_same (told r.events) all.events.0 all.events.1 n.layout layout h.course.events k.course.events (tells_over m.layout n.layout a.sets a.layouts (told r.events) h.course.events h.course.tells) k.course.tells in
      h.text_is
      ∙ a.texts (kept_at c.laid.leaves b.kept) (kept_at d.laid.leaves e.kept) retained kept h.course.events follow r.turns
      ∙ ap (λ (es : List Event). trace_bytes n.layout (trace_with n (kept_at d.laid.leaves e.kept) r.turns es)) events
      ∙ sym k.text_is

  begun_line : (b : Begun told ps r) (d : Chosen qs r) (n : ℕ) → WhyNotBegun told Never d.laid.leaves r.retain (Line n) → ⊥
  begun_line b d n w = no_line told r.retain all.retained b.chosen.laid.leaves b.kept n b.begins (line_there b.chosen d n w)

  line_begun : (c : Chosen ps r) (e : Begun told qs r) (n : ℕ) → WhyNotBegun told Never c.laid.leaves r.retain (Line n) → ⊥
  line_begun c e n w = no_line told r.retain all.retained e.chosen.laid.leaves e.kept n e.begins (line_here c e.chosen n w)

  same : (x y : Result (List ℕ) RunError) → Came told r ps x → Came told r qs y → x ≡ y
  same _ _ (traces {text} h) (traces {text = other} k) = ap (λ (t : List ℕ). Ok t) (text_same text other h k)
  same _ _ (traces h) (misses e m) = absurd (both.missing h.course.begun.chosen.program h.course.begun.chosen.is m)
  same _ _ (traces h) (refuses_line {line} d w) = absurd (begun_line h.course.begun d line w)
  same _ _ (traces h) (refuses_row {row} e w) =
      absurd (no_row (told r.events) all.events.0 all.events.1 (ps.machine h.course.begun.chosen.program).layout h.course.events row h.course.tells (row_there h.course.begun.chosen e.chosen row w))
  same _ _ (misses e m) (traces k) = absurd (both.missing_too k.course.begun.chosen.program k.course.begun.chosen.is m)
  same _ _ (misses {programs} e m) (misses {programs = others} f n) = ap (λ (count : ℕ). Err (NoProgram count)) (e ∙ both.counts ∙ sym f)
  same _ _ (misses e m) (refuses_line d w) = absurd (both.missing_too d.program d.is m)
  same _ _ (misses e m) (refuses_row b w) = absurd (both.missing_too b.chosen.program b.chosen.is m)
  same _ _ (refuses_line {line} c w) (traces k) = absurd (line_begun c k.course.begun line w)
  same _ _ (refuses_line c w) (misses e m) = absurd (both.missing c.program c.is m)
  same _ _ (refuses_line {line} c w) (refuses_line {line = other} d v) =
      ap (λ (n : ℕ). Err (Line n)) (line_same told r.retain all.retained d.laid.leaves line other (line_here c d line w) v)
  same _ _ (refuses_line {line} c w) (refuses_row e v) = absurd (line_begun c e line w)
  same _ _ (refuses_row {row} b w) (traces k) =
      absurd (no_row (told r.events) all.events.0 all.events.1 (qs.machine k.course.begun.chosen.program).layout k.course.events row k.course.tells (row_here b.chosen k.course.begun.chosen row w))
  same _ _ (refuses_row b w) (misses e m) = absurd (both.missing b.chosen.program b.chosen.is m)
  same _ _ (refuses_row b w) (refuses_line {line} d v) = absurd (begun_line b d line v)
  same _ _ (refuses_row {row} b w) (refuses_row {row = other} e v) =
      ap (λ (n : ℕ). Err (Row n)) (row_same (told r.events) all.events.0 all.events.1 (qs.machine e.chosen.program).layout row other (row_here b.chosen e.chosen row w) v)

  pub runs_same : (x y : Result (List ℕ) RunError) → x ≢ Err NoMemory → y ≢ Err NoMemory → ComesTo told Never ps r x → ComesTo told Never qs r y → x ≡ y
  runs_same x y nx ny h k = same x y (came told r ps x nx h) (came told r qs y ny k)
