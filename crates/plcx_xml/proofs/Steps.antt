-- Each step of reading and what is spelled there: one byte, white space, a name, a text.
use Rattle.std.proofs.Common.{◌≡◌, ◌<◌, ℕ, Bool, true, false, List, [], ◌∷◌, ◌++◌, length, drop, refl, ap, ◌∙◌, arith, cond, None, Some, nat_eq}
use Rattle.std.specs.declared.option.Option.{Option}
use Rattle.std.specs.List.{list_all}
use Rattle.std.proofs.lemmas.Bool.{eqb-true, eq-eqb}
use Rattle.plcx_xml.specs.Character.{is_first, is_next, is_space, is_text}
use Rattle.plcx_xml.specs.Grammar.{Stops, Heads, IsName, IsSpace}
use Rattle.plcx_xml.specs.Reading.{◌>>=◌, starts, run_at, name_at, byte_at, behind_space, text_at}
use Rattle.plcx_xml.proofs.Runs.{run-sound, run-again, run-heads, starts-sound, starts-again, starts-not, heads_append, both-true}

-- a chain that gave something
pub bind_some : {A B : Type 0} (o : Option A) (f : A → Option B) (y : B) → (o >>= f) ≡ Some y → (x : A) × (o ≡ Some x) × (f x ≡ Some y)
bind_some None f y h = let no : ⊥ = cc in absurd no
bind_some (Some x) f y h = (x, refl, h)

pub guard_some : {A : Type 0} (b : Bool) (o : Option A) (y : A) → cond b o None ≡ Some y → (b ≡ true) × (o ≡ Some y)
guard_some true o y h = (refl, h)
guard_some false o y h = let no : ⊥ = cc in absurd no

pub some_inj : {A : Type 0} (x y : A) → ◌≡◌ {A = Option A} (Some x) (Some y) → x ≡ y
some_inj x y h = cc

byte-cases : (b : ℕ) (bytes rest : List ℕ) → Heads (λ x. nat_eq x b) bytes → drop 1 bytes ≡ rest → bytes ≡ b ∷ rest
byte-cases b [] rest h e = absurd h
byte-cases b (x ∷ xs) rest h e = rw (eqb-true x b h, e) refl

pub byte-sound : (b : ℕ) (bytes rest : List ℕ) → byte_at b bytes ≡ Some rest → bytes ≡ b ∷ rest
byte-sound b bytes rest h =
    let found = guard_some (starts (λ x. nat_eq x b) bytes) (Some (drop 1 bytes)) rest h in
    byte-cases b bytes rest (starts-sound (λ x. nat_eq x b) bytes found.0) (some_inj (drop 1 bytes) rest found.1)

pub byte-again : (b : ℕ) (rest : List ℕ) → byte_at b (b ∷ rest) ≡ Some rest
byte-again b rest = rw (starts-again (λ x. nat_eq x b) (b ∷ rest) (eq-eqb b b refl)) refl

pub byte-not : (b : ℕ) (bytes : List ℕ) → Stops (λ x. nat_eq x b) bytes → byte_at b bytes ≡ None
byte-not b bytes h = rw (starts-not (λ x. nat_eq x b) bytes h) refl

pub space-again : (space rest : List ℕ) → IsSpace space → Stops is_space rest → behind_space (space ++ rest) ≡ rest
space-again space rest s h = ap (λ (q : List ℕ × List ℕ). q.1) (run-again is_space space rest s h)

first-next : (b : ℕ) → is_first b ≡ true → is_next b ≡ true
first-next b h = rw h refl

next-heads : (bytes : List ℕ) → Heads is_first bytes → Heads is_next bytes
next-heads [] h = h
next-heads (x ∷ xs) h = first-next x h

heads-front : (p q : ℕ → Bool) (front rest : List ℕ) → Heads p front → Heads q (front ++ rest) → Heads q front
heads-front p q [] rest h k = absurd h
heads-front p q (x ∷ xs) rest h k = k

-- what a run from a good first byte says
run-parts : (p q : ℕ → Bool) (bytes name rest : List ℕ) → Heads p bytes → Heads q bytes → run_at q bytes ≡ (name, rest) → Heads p name × (list_all q name ≡ true) × (bytes ≡ name ++ rest) × Stops q rest
run-parts p q bytes name rest h k e =
    let n : (run_at q bytes).0 ≡ name = ap (λ (r : List ℕ × List ℕ). r.0) e in
    let r : (run_at q bytes).1 ≡ rest = ap (λ (r : List ℕ × List ℕ). r.1) e in
    let run = run-sound q bytes in
    let whole : bytes ≡ name ++ rest = run.2 ∙ (ap (λ (xs : List ℕ). xs ++ (run_at q bytes).1) n ∙ ap (λ (xs : List ℕ). name ++ xs) r) in
    let some : Heads q name = rw n at (run-heads q bytes k) in
    (heads-front q p name rest some (rw whole at h), rw n at run.0, whole, rw r at run.1)

pub name-sound : (bytes name rest : List ℕ) → name_at bytes ≡ Some (name, rest) → IsName name × (bytes ≡ name ++ rest) × Stops is_next rest
name-sound bytes name rest h =
    let found = guard_some (starts is_first bytes) (Some (run_at is_next bytes)) (name, rest) h in
    let first = starts-sound is_first bytes found.0 in
    let parts = run-parts is_first is_next bytes name rest first (next-heads bytes first) (some_inj (run_at is_next bytes) (name, rest) found.1) in
    ((parts.0, parts.1), parts.2, parts.3)

pub name-again : (name rest : List ℕ) → IsName name → Stops is_next rest → name_at (name ++ rest) ≡ Some (name, rest)
name-again name rest n h =
    rw (starts-again is_first (name ++ rest) (heads_append is_first name rest n.0)) (ap (λ (q : List ℕ × List ℕ). let r : Option (List ℕ × List ℕ) = Some q in r) (run-again is_next name rest n.1 h))

pub name-not : (bytes : List ℕ) → Stops is_first bytes → name_at bytes ≡ None
name-not bytes h = rw (starts-not is_first bytes h) refl

pub heads-long : (p : ℕ → Bool) (bytes : List ℕ) → Heads p bytes → 0 < length bytes
heads-long p [] h = absurd h
heads-long p (x ∷ xs) h = omega arith

pub long-heads : (p : ℕ → Bool) (bytes : List ℕ) → 0 < length bytes → list_all p bytes ≡ true → Heads p bytes
long-heads p [] h k = absurd (omega arith)
long-heads p (x ∷ xs) h k = (both-true (p x) (list_all p xs) k).0

pub text-sound : (bytes value rest : List ℕ) → text_at bytes ≡ Some (value, rest) → (0 < length value) × (list_all is_text value ≡ true) × (bytes ≡ value ++ rest) × Stops is_text rest
text-sound bytes value rest h =
    let found = guard_some (starts is_text bytes) (Some (run_at is_text bytes)) (value, rest) h in
    let first = starts-sound is_text bytes found.0 in
    let parts = run-parts is_text is_text bytes value rest first first (some_inj (run_at is_text bytes) (value, rest) found.1) in
    (heads-long is_text value parts.0, parts.1, parts.2, parts.3)

pub text-again : (value rest : List ℕ) → 0 < length value → list_all is_text value ≡ true → Stops is_text rest → text_at (value ++ rest) ≡ Some (value, rest)
text-again value rest some all h =
    rw (starts-again is_text (value ++ rest) (heads_append is_text value rest (long-heads is_text value some all))) (ap (λ (q : List ℕ × List ℕ). let r : Option (List ℕ × List ℕ) = Some q in r) (run-again is_text value rest all h))

pub text-not : (bytes : List ℕ) → Stops is_text bytes → text_at bytes ≡ None
text-not bytes h = rw (starts-not is_text bytes h) refl

pub some-none : {A : Type 0} (o : Option A) (x : A) → o ≡ Some x → o ≡ None → ⊥
some-none None x h k = let no : ⊥ = cc in no
some-none (Some y) x h k = let no : ⊥ = cc in no
