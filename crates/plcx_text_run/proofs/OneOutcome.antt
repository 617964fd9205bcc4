-- A run of a text comes to one thing.
use Rattle.std.proofs.Common.{◌≡◌, ◌≢◌, ◌<◌, ℕ, List, length, refl, sym, ap, subst}
use Rattle.std.specs.Prelude.{Option, Some, Result, Ok, Err, IfSome}
use Rattle.plcx_io.specs.Told.{Tells}
use Rattle.plcx_types.specs.Limits.{max_text_bytes}
use Rattle.plcx_meaning.specs.Tree.{PouText}
use Rattle.plcx_st.specs.declared.tree.Unit as tree
use Rattle.plcx_st.specs.Meant.{meant}
use Rattle.plcx_words.specs.Command.{Run}
use Rattle.plcx_traced.specs.Programs.{IsMissing}
use Rattle.plcx_traced.specs.Runs as runs
use Rattle.plcx_traced.specs.Runs.{AreTold}
use Rattle.plcx_traced.specs.declared.error.RunError.{RunError}
use Rattle.plcx_traced.specs.declared.error.RunError.TheVariants as run
use Rattle.plcx_execute.specs.Programs.{programs_of}
use Rattle.plcx_text_file.specs.Texts.{IsReadyText, TextBreaks, broken}
use Rattle.plcx_text_file.specs.Texts as texts
use Rattle.plcx_text_file.specs.Files.{IsTextFile, IsBrokenFile, too_long, breaks}
use Rattle.plcx_text_file.specs.declared.broken.BrokenText.{BrokenText}
use Rattle.plcx_text_run.specs.TextRuns.{TextOf, ComesTo, Never}
use Rattle.plcx_text_run.specs.declared.running.TextRunError.{TextRunError}
use Rattle.plcx_text_run.specs.declared.running.TextRunError.TheVariants.{TextRead, TextBroken, NotRun, NoMemory}

tells_same : (told : Option (List ℕ)) (bytes other : List ℕ) → told ≡ Some bytes → Tells told other → other ≡ bytes
tells_same told bytes other is h = subst (λ (t : Option (List ℕ)). Tells t other → other ≡ bytes) (sym is) (λ (same : other ≡ bytes). same) h

long_same : (told : Option (List ℕ)) (bytes : List ℕ) → told ≡ Some bytes → IfSome told (λ b. max_text_bytes < length b) → max_text_bytes < length bytes
long_same told bytes is h = subst (λ (t : Option (List ℕ)). IfSome t (λ b. max_text_bytes < length b)) is h

-- a file that is told breaks what its bytes break, and its unit is theirs
told_breaks : (told : Option (List ℕ)) (bytes : List ℕ) → told ≡ Some bytes → (b : BrokenText) → IsBrokenFile told b → TextBreaks bytes b
told_breaks told bytes is _ (too_long l) = texts.too_long (long_same told bytes is l)
told_breaks told bytes is b (breaks other tells h) = subst (λ (bs : List ℕ). TextBreaks bs b) (tells_same told bytes other is tells) h

told_ready : (told : Option (List ℕ)) (bytes : List ℕ) → told ≡ Some bytes → (u : tree.Unit) → IsTextFile told u → IsReadyText bytes u
told_ready told bytes is u f = subst (λ (bs : List ℕ). IsReadyText bs u) (tells_same told bytes f.bytes is f.tells) f.is

-- what a run of a unit comes to
abbrev left : List ℕ → Result (List ℕ) RunError
left text = Ok text

abbrev not_left : RunError → Result (List ℕ) RunError
not_left e = Err e

left_there : (text : List ℕ) → left text ≢ Err run.NoMemory
left_there text same = absurd (cc)

not_left_there : (e : RunError) → e ≢ run.NoMemory → not_left e ≢ Err run.NoMemory
not_left_there e ne same = ne (cc)

text_same : (a b : List ℕ) → left a ≡ left b → a ≡ b
text_same a b same = cc

error_same : (e f : RunError) → not_left e ≡ not_left f → e ≡ f
error_same e f same = cc

never_both : (text : List ℕ) (e : RunError) → left text ≡ not_left e → ⊥
never_both text e same = absurd (cc)

module _
    (one_unit : (bytes : List ℕ) (u v : tree.Unit) → IsReadyText bytes u → IsReadyText bytes v → u ≡ v)
    (one_broken : (bytes : List ℕ) (b c : BrokenText) → TextBreaks bytes b → TextBreaks bytes c → b ≡ c)
    (apart : (bytes : List ℕ) (u : tree.Unit) (b : BrokenText) → IsReadyText bytes u → TextBreaks bytes b → ⊥)
    (one_run : (unit : List PouText) (told : List ℕ → Option (List ℕ)) (r : Run) → AreTold told r → (x y : Result (List ℕ) RunError) → x ≢ Err run.NoMemory → y ≢ Err run.NoMemory
    → runs.ComesTo told (λ _. ⊥) (programs_of unit) r x → runs.ComesTo told (λ _. ⊥) (programs_of unit) r y → x ≡ y)
    (missing_alone : (unit : List PouText) (told : List ℕ → Option (List ℕ)) (r : Run) (x : Result (List ℕ) RunError) → x ≢ Err run.NoMemory
    → runs.ComesTo told (λ _. ⊥) (programs_of unit) r x → IsMissing (programs_of unit) r.program → (programs : ℕ) × (x ≡ Err (run.NoProgram programs)))
    (told : List ℕ → Option (List ℕ)) (r : Run) (bytes : List ℕ) (is : told r.file ≡ Some bytes)
  where
    -- what is left of a run of a unit
    data Seen : Result (List ℕ) TextRunError → Type 0 where
      breaks_text : {b : BrokenText} → TextBreaks bytes b → Seen (Err (TextBroken b))
      traces : (u : tree.Unit) {text : List ℕ} → IsReadyText bytes u → runs.ComesTo told (λ _. ⊥) (programs_of (meant u)) r (Ok text) → Seen (Ok text)
      refuses : (u : tree.Unit) {e : RunError} → IsReadyText bytes u → runs.ComesTo told (λ _. ⊥) (programs_of (meant u)) r (Err e) → e ≢ run.NoMemory → Seen (Err (NotRun e))

    seen : (x : Result (List ℕ) TextRunError) → x ≢ Err NoMemory → ComesTo told Never r x → Seen x
    seen (Ok text) ne h = traces h.of.unit (told_ready (told r.file) bytes is h.of.unit h.of.file) h.traced
    seen (Err TextRead) ne h = absurd h
    seen (Err (TextBroken b)) ne h = breaks_text (told_breaks (told r.file) bytes is b h)
    seen (Err (NotRun e)) ne (t, h, there) = refuses t.unit (told_ready (told r.file) bytes is t.unit t.file) h there
    seen (Err NoMemory) ne h = absurd (ne refl)

    -- a text that breaks something comes to that alone
    broken_seen : (b : BrokenText) → TextBreaks bytes b → (x : Result (List ℕ) TextRunError) → Seen x → x ≡ Err (TextBroken b)
    broken_seen b h _ (breaks_text {b = c} k) = ap (λ (d : BrokenText). Err (TextBroken d)) (one_broken bytes c b k h)
    broken_seen b h _ (traces u k c) = absurd (apart bytes u b k h)
    broken_seen b h _ (refuses u k c ne) = absurd (apart bytes u b k h)

    pub broken_alone : (b : BrokenText) → IsBrokenFile (told r.file) b → (x : Result (List ℕ) TextRunError) → x ≢ Err NoMemory → ComesTo told Never r x → x ≡ Err (TextBroken b)
    broken_alone b h x ne come = broken_seen b (told_breaks (told r.file) bytes is b h) x (seen x ne come)

    -- and one whose program is missing to that alone
    missing_seen : (u : tree.Unit) → IsReadyText bytes u → IsMissing (programs_of (meant u)) r.program → (x : Result (List ℕ) TextRunError) → Seen x → (programs : ℕ) × (x ≡ Err (NotRun (run.NoProgram programs)))
    missing_seen u h m _ (breaks_text {b} k) = absurd (apart bytes u b h k)
    missing_seen u h m _ (traces v {text} k c) =
        let there = subst (λ (w : tree.Unit). IsMissing (programs_of (meant w)) r.program) (one_unit bytes u v h k) m in
        let alone = missing_alone (meant v) told r (left text) (left_there text) c there in
        absurd (never_both text (run.NoProgram alone.0) alone.1)
    missing_seen u h m _ (refuses v {e} k c ne) =
        let there = subst (λ (w : tree.Unit). IsMissing (programs_of (meant w)) r.program) (one_unit bytes u v h k) m in
        let alone = missing_alone (meant v) told r (not_left e) (not_left_there e ne) c there in
        (alone.0, ap (λ (f : RunError). Err (NotRun f)) (error_same e (run.NoProgram alone.0) alone.1))

    pub missing_only : (t : TextOf told r) → IsMissing (programs_of (meant t.unit)) r.program → (x : Result (List ℕ) TextRunError) → x ≢ Err NoMemory → ComesTo told Never r x
        → (programs : ℕ) × (x ≡ Err (NotRun (run.NoProgram programs)))
    missing_only t m x ne come = missing_seen t.unit (told_ready (told r.file) bytes is t.unit t.file) m x (seen x ne come)

    module _ (all : AreTold told r) where
      come_same : (u v : tree.Unit) → u ≡ v → (x y : Result (List ℕ) RunError) → x ≢ Err run.NoMemory → y ≢ Err run.NoMemory
          → runs.ComesTo told (λ _. ⊥) (programs_of (meant u)) r x → runs.ComesTo told (λ _. ⊥) (programs_of (meant v)) r y → x ≡ y
      come_same u v same x y nx ny c d = one_run (meant v) told r all x y nx ny (subst (λ (w : tree.Unit). runs.ComesTo told (λ _. ⊥) (programs_of (meant w)) r x) same c) d

      same_seen : (x y : Result (List ℕ) TextRunError) → Seen x → Seen y → x ≡ y
      same_seen _ y (breaks_text {b} h) k = sym (broken_seen b h y k)
      same_seen x _ h (breaks_text {b} k) = broken_seen b k x h
      same_seen _ _ (traces u {text} h c) (traces v {text = other} k d) =
          ap (λ (t : List ℕ). Ok t) (text_same text other (come_same u v (one_unit bytes u v h k) (left text) (left other) (left_there text) (left_there other) c d))
      same_seen _ _ (traces u {text} h c) (refuses v {e} k d ne) =
          absurd (never_both text e (come_same u v (one_unit bytes u v h k) (left text) (not_left e) (left_there text) (not_left_there e ne) c d))
      same_seen _ _ (refuses u {e} h c ne) (traces v {text} k d) =
          absurd (never_both text e (come_same v u (one_unit bytes v u k h) (left text) (not_left e) (left_there text) (not_left_there e ne) d c))
      same_seen _ _ (refuses u {e} h c ne) (refuses v {e = f} k d nf) =
          ap (λ (g : RunError). Err (NotRun g)) (error_same e f (come_same u v (one_unit bytes u v h k) (not_left e) (not_left f) (not_left_there e ne) (not_left_there f nf) c d))

      pub same : (x y : Result (List ℕ) TextRunError) → x ≢ Err NoMemory → y ≢ Err NoMemory → ComesTo told Never r x → ComesTo told Never r y → x ≡ y
      same x y nx ny h k = same_seen x y (seen x nx h) (seen y ny k)
