-- The longest run of bytes that pass a test, and the byte at the front.
use Rattle.std.proofs.Common.{◌≡◌, ℕ, suc, ◌+◌, Bool, true, false, ◌||◌, ◌&&◌, List, [], ◌∷◌, ◌++◌, length, take, drop, refl, sym, ◌⊎◌, inl, inr, arith, nat_lt, nat_eq}
use Rattle.std.specs.List.{prefix_len, list_all}
use Rattle.std.proofs.lemmas.Bool.{lt-ltb, eqb-true}
use Rattle.std.proofs.lemmas.List.{take_at, drop_at, take-append-drop}
use Rattle.plcx_xml.specs.Character.{is_space}
use Rattle.plcx_xml.specs.Grammar.{Stops, Heads}
use Rattle.plcx_xml.specs.Reading.{starts, run_at}

pub true_or_false : (b : Bool) → (b ≡ true) ⊎ (b ≡ false)
true_or_false true = inl refl
true_or_false false = inr refl

pub both-true : (a b : Bool) → (a && b) ≡ true → (a ≡ true) × (b ≡ true)
both-true true b h = (refl, h)
both-true false b h = let no : ⊥ = cc in absurd no

pub either-true : (a b : Bool) → (a || b) ≡ true → (a ≡ true) ⊎ (b ≡ true)
either-true true b h = inl refl
either-true false b h = inr h

abbrev Splits : (ℕ → Bool) → List ℕ → Type 0
Splits p bytes = (list_all p (take (prefix_len p bytes) bytes) ≡ true) × Stops p (drop (prefix_len p bytes) bytes)

run-cases : (p : ℕ → Bool) (x : ℕ) (xs : List ℕ) → Splits p xs → (p x ≡ true) ⊎ (p x ≡ false) → Splits p (x ∷ xs)
run-cases p x xs more (inl h) =
    let e : 1 + prefix_len p xs ≡ suc (prefix_len p xs) = omega arith in
    rw (h, e) (rw h more.0, more.1)
run-cases p x xs more (inr h) = rw h (refl, h)

splits : (p : ℕ → Bool) (bytes : List ℕ) → Splits p bytes
splits p [] = (refl, tt)
splits p (x ∷ xs) = run-cases p x xs (splits p xs) (true_or_false (p x))

-- the longest run passes, what follows it stops, and nothing is lost
pub run-sound : (p : ℕ → Bool) (bytes : List ℕ) → (list_all p (run_at p bytes).0 ≡ true) × Stops p (run_at p bytes).1 × (bytes ≡ (run_at p bytes).0 ++ (run_at p bytes).1)
run-sound p bytes = ((splits p bytes).0, (splits p bytes).1, sym (take-append-drop (prefix_len p bytes) bytes))

pub prefix_len-again : (p : ℕ → Bool) (xs rest : List ℕ) → list_all p xs ≡ true → Stops p rest → prefix_len p (xs ++ rest) ≡ length xs
prefix_len-again p [] [] h s = refl
prefix_len-again p [] (x ∷ rest) h s = rw s refl
prefix_len-again p (x ∷ xs) rest h s =
    let both = both-true (p x) (list_all p xs) h in
    let more : prefix_len p (xs ++ rest) ≡ length xs = prefix_len-again p xs rest both.1 s in
    rw (both.0, more) (omega arith)

-- a run that passes, before what stops, is the longest
pub run-again : (p : ℕ → Bool) (xs rest : List ℕ) → list_all p xs ≡ true → Stops p rest → run_at p (xs ++ rest) ≡ (xs, rest)
run-again p xs rest h s =
    rw (prefix_len-again p xs rest h s, take_at xs rest (length xs) refl, drop_at xs rest (length xs) refl) refl

-- a run is not empty where its first byte passes
pub run-heads : (p : ℕ → Bool) (bytes : List ℕ) → Heads p bytes → Heads p (run_at p bytes).0
run-heads p [] h = h
run-heads p (x ∷ xs) h =
    let e : 1 + prefix_len p xs ≡ suc (prefix_len p xs) = omega arith in
    rw (h, e) h

pub starts-sound : (p : ℕ → Bool) (bytes : List ℕ) → starts p bytes ≡ true → Heads p bytes
starts-sound p [] h = let no : ⊥ = cc in absurd no
starts-sound p (x ∷ xs) h = (both-true (nat_lt 0 (length (x ∷ xs))) (p x) h).1

pub starts-again : (p : ℕ → Bool) (bytes : List ℕ) → Heads p bytes → starts p bytes ≡ true
starts-again p [] h = absurd h
starts-again p (x ∷ xs) h = rw (lt-ltb 0 (length (x ∷ xs)) (omega arith)) h

pub starts-not : (p : ℕ → Bool) (bytes : List ℕ) → Stops p bytes → starts p bytes ≡ false
starts-not p [] h = refl
starts-not p (x ∷ xs) h = rw (lt-ltb 0 (length (x ∷ xs)) (omega arith)) h

at_byte : (q : ℕ → Bool) (x b : ℕ) → nat_eq x b ≡ true → q b ≡ false → q x ≡ false
at_byte q x b h k = rw (eqb-true x b h) k

-- a test that no white space passes
pub space-apart : (q : ℕ → Bool) → q 32 ≡ false → q 9 ≡ false → q 13 ≡ false → q 10 ≡ false → (x : ℕ) → is_space x ≡ true → q x ≡ false
space-apart q blank tab return line x h = of_space (either-true (nat_eq x 32 || nat_eq x 9 || nat_eq x 13) (nat_eq x 10) h)
  where
    of_tab : (nat_eq x 32 ≡ true) ⊎ (nat_eq x 9 ≡ true) → q x ≡ false
    of_tab (inl e) = at_byte q x 32 e blank
    of_tab (inr e) = at_byte q x 9 e tab

    of_return : ((nat_eq x 32 || nat_eq x 9) ≡ true) ⊎ (nat_eq x 13 ≡ true) → q x ≡ false
    of_return (inl e) = of_tab (either-true (nat_eq x 32) (nat_eq x 9) e)
    of_return (inr e) = at_byte q x 13 e return

    of_space : ((nat_eq x 32 || nat_eq x 9 || nat_eq x 13) ≡ true) ⊎ (nat_eq x 10 ≡ true) → q x ≡ false
    of_space (inl e) = of_return (either-true (nat_eq x 32 || nat_eq x 9) (nat_eq x 13) e)
    of_space (inr e) = at_byte q x 10 e line

-- tests that exclude each other
pub apart : (p q : ℕ → Bool) → ((x : ℕ) → p x ≡ true → q x ≡ false) → (x : ℕ) → q x ≡ true → p x ≡ false
apart p q h x k = of (true_or_false (p x))
  where
    of : (p x ≡ true) ⊎ (p x ≡ false) → p x ≡ false
    of (inl e) = let f = h x e in let no : ⊥ = cc in absurd no
    of (inr e) = e

pub stops_at_head : (p q : ℕ → Bool) (bytes : List ℕ) → ((x : ℕ) → p x ≡ true → q x ≡ false) → Heads p bytes → Stops q bytes
stops_at_head p q [] h k = absurd k
stops_at_head p q (x ∷ xs) h k = h x k

pub heads_append : (p : ℕ → Bool) (xs rest : List ℕ) → Heads p xs → Heads p (xs ++ rest)
heads_append p [] rest h = absurd h
heads_append p (x ∷ xs) rest h = h

-- what stops a run also stops behind white space
pub stops_behind_space : (q : ℕ → Bool) → ((x : ℕ) → is_space x ≡ true → q x ≡ false) → (space rest : List ℕ) → list_all is_space space ≡ true → Stops q rest → Stops q (space ++ rest)
stops_behind_space q h [] rest s k = k
stops_behind_space q h (x ∷ xs) rest s k = h x (both-true (is_space x) (list_all is_space xs) s).0
