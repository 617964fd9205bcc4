-- A run comes to one thing, where the desk tells its files and nothing fails.
use Rattle.std.proofs.Common.{◌≡◌, ◌≢◌, ◌<◌, ◌≤◌, ◌+◌, ◌∷◌, ◌∙◌, ℕ, ℤ, List, [], length, refl, sym, ap, ap₂, subst, arith}
use Rattle.std.specs.Prelude.{Option, Some, None, Result, Ok, Err}
use Rattle.plcx_io.specs.Told.{Tells}
use Rattle.plcx_types.specs.Lists.{Each}
use Rattle.plcx_types.specs.Limits.{max_file_bytes}
use Rattle.plcx_types.specs.Value.{Value}
use Rattle.plcx_meaning.specs.Base.{Path}
use Rattle.plcx_meaning.specs.Layout.{IsLayout}
use Rattle.plcx_meaning.specs.Layout.{Leaf as Meant}
use Rattle.plcx_meaning.specs.Run.{Event}
use Rattle.plcx_meaning.specs.Traces.{trace_with}
use Rattle.plcx_words.specs.Command.{Run}
use Rattle.plcx_state.specs.declared.layout.Leaf.{Leaf}
use Rattle.plcx_state.specs.Layouts.{all_meant}
use Rattle.plcx_state.specs.Tables.{HasPlainNames, IsTold}
use Rattle.plcx_state.specs.Lines as lines
use Rattle.plcx_state.specs.Retains.{kept_at}
use Rattle.plcx_scan.specs.Files as events
use Rattle.plcx_scan.specs.Files.{StandsForEvents}
use Rattle.plcx_scan.specs.Texts.{trace_bytes}
use Rattle.plcx_scan.proofs.OneEvents.{events_once, wrong_same, file_not_wrong}
use Rattle.plcx_traced.specs.Programs.{Programs, IsChosen, IsMissing}
use Rattle.plcx_traced.specs.Files.{IsLoaded, IsLong, TellsRetained, IsWrongLine, long, wrong, TellsEvents, IsWrongRow, Begins, WhyNotBegun}
use Rattle.plcx_traced.specs.Runs.{Chosen, Begun, IsTraced, WhyNot, ComesTo, AreTold, machine_of, kept_in}
use Rattle.plcx_traced.specs.declared.error.RunError.{RunError}
use Rattle.plcx_traced.specs.declared.error.RunError.TheVariants.{NoProgram, RetainedRead, Line, EventsRead, Row, NoMemory}
use Rattle.plcx_traced.proofs.OneLines.{leaves_same}
use Rattle.plcx_traced.proofs.OneFile.{bytes_same, not_long, told_kept, told_line, told_no_line}

pub chosen_once : {P G : Type 0} (ps : Programs P G) (name : Option (List ℕ)) (p q : P) → IsChosen ps name p → IsChosen ps name q → p ≡ q
chosen_once ps (Some name) p q h k = cc
chosen_once ps None p q h k = cc

pub not_missing : {P G : Type 0} (ps : Programs P G) (name : Option (List ℕ)) (p : P) → IsChosen ps name p → IsMissing ps name → ⊥
not_missing ps (Some name) p h k = cc
not_missing ps None p h k = k (ap length h)

-- where the program is missing, a run comes to nothing else
pub missing_alone : {P G : Type 0} (ps : Programs P G) (told : List ℕ → Option (List ℕ)) (rose : List ℕ → Type 0) (r : Run) (x : Result (List ℕ) RunError) → x ≢ Err NoMemory → ComesTo told rose ps r x → IsMissing ps r.program
    → (programs : ℕ) × (x ≡ Err (NoProgram programs))
missing_alone ps told rose r (Ok text) ne h m = absurd (not_missing ps r.program h.course.begun.chosen.program h.course.begun.chosen.is m)
missing_alone ps told rose r (Err (NoProgram programs)) ne h m = (programs, refl)
missing_alone ps told rose r (Err RetainedRead) ne h m = absurd (not_missing ps r.program h.0.program h.0.is m)
missing_alone ps told rose r (Err (Line line)) ne h m = absurd (not_missing ps r.program h.0.program h.0.is m)
missing_alone ps told rose r (Err EventsRead) ne h m = absurd (not_missing ps r.program h.0.chosen.program h.0.chosen.is m)
missing_alone ps told rose r (Err (Row row)) ne h m = absurd (not_missing ps r.program h.0.chosen.program h.0.chosen.is m)
missing_alone ps told rose r (Err NoMemory) ne h m = absurd (ne refl)

module _ {P G : Type 0} (ps : Programs P G) (told : List ℕ → Option (List ℕ)) (r : Run) (all : AreTold told r) where
  -- nothing fails
  abbrev Never : List ℕ → Type 0
  Never name = ⊥

  program_same : (c d : Chosen ps r) → c.program ≡ d.program
  program_same c d = chosen_once ps r.program c.program d.program c.is d.is

  laid_same : (c d : Chosen ps r) → c.laid.leaves ≡ d.laid.leaves
  laid_same c d =
      leaves_same c.laid.leaves d.laid.leaves c.is_laid.typed d.is_laid.typed (c.leaves_are ∙ ap (λ (p : P). (ps.machine p).layout) (program_same c d) ∙ sym d.leaves_are)

  begins_same : (retain : Option (List ℕ)) → ((name : List ℕ) → retain ≡ Some name → (bytes : List ℕ) × (told name ≡ Some bytes)) → (leaves : List Leaf) → IsTold leaves
      → (a b : List (Option Value)) → Begins told leaves retain a → Begins told leaves retain b → a ≡ b
  begins_same None is leaves plain a b h k = h ∙ sym k
  begins_same (Some name) is leaves plain a b h k = let held = is name refl in told_kept (told name) held.0 held.1 leaves plain a b h k

  no_line : (retain : Option (List ℕ)) → ((name : List ℕ) → retain ≡ Some name → (bytes : List ℕ) × (told name ≡ Some bytes)) → (leaves : List Leaf) (kept : List (Option Value)) (line : ℕ)
      → Begins told leaves retain kept → WhyNotBegun told Never leaves retain (Line line) → ⊥
  no_line None is leaves kept line h w = cc
  no_line (Some name) is leaves kept line h w = let held = is name refl in told_no_line (told name) held.0 held.1 leaves kept line h w

  line_same : (retain : Option (List ℕ)) → ((name : List ℕ) → retain ≡ Some name → (bytes : List ℕ) × (told name ≡ Some bytes)) → (leaves : List Leaf) (m n : ℕ)
      → WhyNotBegun told Never leaves retain (Line m) → WhyNotBegun told Never leaves retain (Line n) → m ≡ n
  line_same None is leaves m n h k = absurd (cc)
  line_same (Some name) is leaves m n h k = let held = is name refl in told_line (told name) held.0 held.1 leaves m n h k

  events_same : (leaves : List Meant) → IsLayout leaves → (es fs : List Event) → TellsEvents (told r.events) leaves es → TellsEvents (told r.events) leaves fs → es ≡ fs
  events_same leaves laid es fs h k =
      let same = bytes_same (told r.events) all.events.0 h.bytes k.bytes all.events.1 h.loaded k.loaded in
      events_once leaves laid k.bytes es fs (subst (λ (b : List ℕ). StandsForEvents leaves b es) same h.stands) k.stands

  no_row : (leaves : List Meant) (es : List Event) (row : ℕ) → TellsEvents (told r.events) leaves es → IsWrongRow (told r.events) leaves row → ⊥
  no_row leaves es row h (long l) = not_long (told r.events) all.events.0 h.bytes all.events.1 h.loaded l
  no_row leaves es row h (wrong bytes loaded first) =
      let same = bytes_same (told r.events) all.events.0 bytes h.bytes all.events.1 loaded h.loaded in
      file_not_wrong leaves h.bytes es h.stands row (subst (λ (b : List ℕ). events.IsFirstWrong leaves (events.records_of b) row) same first)

  row_same : (leaves : List Meant) (m n : ℕ) → IsWrongRow (told r.events) leaves m → IsWrongRow (told r.events) leaves n → m ≡ n
  row_same leaves m n (long l) (long l') = refl
  row_same leaves m n (long l) (wrong bytes loaded first) = absurd (not_long (told r.events) all.events.0 bytes all.events.1 loaded l)
  row_same leaves m n (wrong bytes loaded first) (long l) = absurd (not_long (told r.events) all.events.0 bytes all.events.1 loaded l)
  row_same leaves m n (wrong bytes loaded first) (wrong bytes' loaded' first') =
      let same = bytes_same (told r.events) all.events.0 bytes bytes' all.events.1 loaded loaded' in
      wrong_same leaves (events.records_of bytes') m n (subst (λ (b : List ℕ). events.IsFirstWrong leaves (events.records_of b) m) same first) first'

  -- what a run comes to where nothing fails and there is memory
  data Seen : Result (List ℕ) RunError → Type 0 where
    traces : {text : List ℕ} → IsTraced told ps r text → Seen (Ok text)
    misses : {programs : ℕ} → programs ≡ length ps.all → IsMissing ps r.program → Seen (Err (NoProgram programs))
    refuses_line : {line : ℕ} (c : Chosen ps r) → WhyNotBegun told Never c.laid.leaves r.retain (Line line) → Seen (Err (Line line))
    refuses_row : {row : ℕ} (b : Begun told ps r) → IsWrongRow (told r.events) (machine_of b).layout row → Seen (Err (Row row))

  no_read : (retain : Option (List ℕ)) (leaves : List Leaf) → WhyNotBegun told Never leaves retain RetainedRead → ⊥
  no_read None leaves h = cc
  no_read (Some name) leaves h = h

  seen : (x : Result (List ℕ) RunError) → x ≢ Err NoMemory → ComesTo told Never ps r x → Seen x
  seen (Ok text) ne h = traces h
  seen (Err (NoProgram programs)) ne h = misses h.0 h.1
  seen (Err RetainedRead) ne h = absurd (no_read r.retain h.0.laid.leaves h.1)
  seen (Err (Line line)) ne h = refuses_line h.0 h.1
  seen (Err EventsRead) ne h = absurd h.1
  seen (Err (Row row)) ne h = refuses_row h.0 h.1
  seen (Err NoMemory) ne h = absurd (ne refl)

  begun_line : (b : Begun told ps r) (c : Chosen ps r) (line : ℕ) → WhyNotBegun told Never c.laid.leaves r.retain (Line line) → ⊥
  begun_line b c line w =
      no_line r.retain all.retained b.chosen.laid.leaves b.kept line b.begins (subst (λ (leaves : List Leaf). WhyNotBegun told Never leaves r.retain (Line line)) (laid_same c b.chosen) w)

  chosen_missing : (c : Chosen ps r) → IsMissing ps r.program → ⊥
  chosen_missing c m = not_missing ps r.program c.program c.is m

  traced_row : (text : List ℕ) (row : ℕ) (t : IsTraced told ps r text) (b : Begun told ps r) → IsWrongRow (told r.events) (machine_of b).layout row → ⊥
  traced_row text row t b w =
      no_row (machine_of t.course.begun).layout t.course.events row t.course.tells
      (subst (λ (p : P). IsWrongRow (told r.events) (ps.machine p).layout row) (program_same b.chosen t.course.begun.chosen) w)

  -- whatever comes of the course of a run is one
  pub course_same : {X : Type 0} (F : P → (Path → ℤ) → List Event → X) (x y : List ℕ) (h : IsTraced told ps r x) (k : IsTraced told ps r y)
      → F h.course.begun.chosen.program (kept_in h.course.begun) h.course.events ≡ F k.course.begun.chosen.program (kept_in k.course.begun) k.course.events
  course_same F x y h k =
      let c = h.course.begun.chosen in
      let d = k.course.begun.chosen in
      let program = program_same c d in
      let leaves = laid_same c d in
      let told_leaves : IsTold d.laid.leaves = record { apart = d.is_laid.layout.apart; named = d.is_laid.named; plain = k.plain } in
      let begins : Begins told d.laid.leaves r.retain h.course.begun.kept = subst (λ (ls : List Leaf). Begins told ls r.retain h.course.begun.kept) leaves h.course.begun.begins in
      let kept = begins_same r.retain all.retained d.laid.leaves told_leaves h.course.begun.kept k.course.begun.kept begins k.course.begun.begins in
      let layout : IsLayout (ps.machine d.program).layout = subst IsLayout d.leaves_are d.is_laid.layout in
      let tells : TellsEvents (told r.events) (ps.machine d.program).layout h.course.events = subst (λ (p : P). TellsEvents (told r.events) (ps.machine p).layout h.course.events) program h.course.tells in
      let events = events_same (ps.machine d.program).layout layout h.course.events k.course.events tells k.course.tells in
      ap (λ (p : P). F p (kept_in h.course.begun) h.course.events) program
      ∙ ap₂ (λ (ls : List Leaf) (ks : List (Option Value)). F d.program (kept_at ls ks) h.course.events) leaves kept
      ∙ ap (λ (es : List Event). F d.program (kept_in k.course.begun) es) events

  traced_same : (x y : List ℕ) → IsTraced told ps r x → IsTraced told ps r y → x ≡ y
  traced_same x y h k =
      h.text_is ∙ course_same (λ p kept es. trace_bytes (ps.machine p).layout (trace_with (ps.machine p) kept r.turns es)) x y h k ∙ sym k.text_is

  same : (x y : Result (List ℕ) RunError) → Seen x → Seen y → x ≡ y
  same _ _ (traces {text = x} h) (traces {text = y} k) = ap Ok (traced_same x y h k)
  same _ _ (traces h) (misses e m) = absurd (chosen_missing h.course.begun.chosen m)
  same _ _ (traces h) (refuses_line {line = n} c w) = absurd (begun_line h.course.begun c n w)
  same _ _ (traces {text = x} h) (refuses_row {row = n} b w) = absurd (traced_row x n h b w)
  same _ _ (misses e m) (traces k) = absurd (chosen_missing k.course.begun.chosen m)
  same _ _ (misses e m) (misses f n) = ap (λ k. Err (NoProgram k)) (e ∙ sym f)
  same _ _ (misses e m) (refuses_line c w) = absurd (chosen_missing c m)
  same _ _ (misses e m) (refuses_row b w) = absurd (chosen_missing b.chosen m)
  same _ _ (refuses_line {line = n} c w) (traces k) = absurd (begun_line k.course.begun c n w)
  same _ _ (refuses_line c w) (misses f m) = absurd (chosen_missing c m)
  same _ _ (refuses_line {line = m} c w) (refuses_line {line = n} d v) =
      ap (λ k. Err (Line k)) (line_same r.retain all.retained d.laid.leaves m n (subst (λ (leaves : List Leaf). WhyNotBegun told Never leaves r.retain (Line m)) (laid_same c d) w) v)
  same _ _ (refuses_line {line = n} c w) (refuses_row b v) = absurd (begun_line b c n w)
  same _ _ (refuses_row {row = n} b w) (traces {text = y} k) = absurd (traced_row y n k b w)
  same _ _ (refuses_row b w) (misses f m) = absurd (chosen_missing b.chosen m)
  same _ _ (refuses_row b w) (refuses_line {line = n} c v) = absurd (begun_line b c n v)
  same _ _ (refuses_row {row = m} b w) (refuses_row {row = n} d v) =
      ap (λ k. Err (Row k)) (row_same (machine_of d).layout m n (subst (λ (p : P). IsWrongRow (told r.events) (ps.machine p).layout m) (program_same b.chosen d.chosen) w) v)

  pub one_outcome : (x y : Result (List ℕ) RunError) → x ≢ Err NoMemory → y ≢ Err NoMemory → ComesTo told Never ps r x → ComesTo told Never ps r y → x ≡ y
  one_outcome x y nx ny h k = same x y (seen x nx h) (seen y ny k)
