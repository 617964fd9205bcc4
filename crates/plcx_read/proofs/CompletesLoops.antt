-- The steps and the loops of the reader, and what was read in front of a fault in them.
use Rattle.std.proofs.Common.{◌≡◌, ℕ, zero, suc, ◌≤◌, ◌<◌, Bool, true, cond, max, length-append, List, [], ◌∷◌, ◌++◌, length, drop, Result, Ok, Err, refl, sym, ap, subst, ◌∙◌, arith}
use Rattle.std.proofs.lemmas.List.{append-nil}
use Rattle.plcx_lex.specs.Token.{Token}
use Rattle.plcx_lex.specs.declared.terminal.Terminal.{Terminal}
use Rattle.plcx_lex.specs.declared.terminal.Terminal.TheVariants as t
use Rattle.plcx_lex.specs.Terminal.{terminal}
use Rattle.plcx_read.specs.Reading.{Stop, syntax, too_deep, told_too_deep, Out, Read, ◌>>=◌, same, next, sees, expect, room, room_told, several, parted}
use Rattle.plcx_read.proofs.Steady.{Reader, done, fault_is, never_both}
use Rattle.plcx_read.proofs.SteadyLoops.{drop_shorter}
use Rattle.plcx_read.proofs.Sound.{Took, by_test, tested, sees_found, expect_found}
use Rattle.plcx_read.proofs.Completes.{Language, Behind, Context, Anything, NoName, Completes, stop_here, completes_along, one_by_one, as_last, behind_any, behind_other}

-- ---- what was read, without its value

pub record Takes (L : Language) (a : ℕ) (ts rest : List Token) : Type 0 where
  pub tokens : List Token
  pub depth : ℕ
  pub parts : ts ≡ tokens ++ rest
  pub within : depth ≤ a
  pub whole : L tokens depth

abbrev pub Some_of : {A : Type 0} → (List Token → A → ℕ → Type 0) → Language
Some_of {A} Is w d = (v : A) × Is w v d

pub takes : {A : Type 0} (Is : List Token → A → ℕ → Type 0) (a : ℕ) (ts : List Token) (x : Read A) → Took Is a ts x → Takes (Some_of Is) a ts x.2
takes Is a ts x m = record { tokens = m.tokens; depth = x.1; parts = m.parts; within = m.within; whole = (x.0, m.is) }

-- ---- faults of the small readers

pub expect_err : (q : Terminal) (ts : List Token) (f : Stop) → expect q ts ≡ Err f → (syntax, ts) ≡ f
unfolding expect
expect_err q [] f h = fault_is {A = List Token} (syntax, []) f h
expect_err q (x ∷ ts) f h = tested (same (terminal x) q) (done ts) (syntax, x ∷ ts) f ((syntax, x ∷ ts) ≡ f) (λ is h'. absurd (never_both ts f h')) (λ is. is) h

pub room_err : (a : ℕ) (ts : List Token) (f : Stop) → room a ts ≡ Err f → (a ≡ 0) × ((too_deep, ts) ≡ f)
unfolding room
room_err zero ts f h = (refl, fault_is {A = Unit {0}} (too_deep, ts) f h)
room_err (suc a) ts f h = absurd (never_both {A = Unit {0}} tt f h)

pub told_err : (a : ℕ) (w : Token) (ts : List Token) (f : Stop) → room_told a w ts ≡ Err f → (a ≡ 0) × ((told_too_deep w, ts) ≡ f)
unfolding room_told
told_err zero w ts f h = (refl, fault_is {A = Unit {0}} (told_too_deep w, ts) f h)
told_err (suc a) w ts f h = absurd (never_both {A = Unit {0}} tt f h)

-- ---- steps

module _ {R : Type 0} (C : Context) (L : Language) (a : ℕ) where
  -- what was read is followed by a fault
  pub read_then : {A : Type 0} (r : Out A) (k : Read A → Result R Stop) (us : List Token) (f : Stop) → (r ≡ Err f → Completes C L a us f) → (M : Language) (b : ℕ) → ((x : Read A) → r ≡ Ok x → Takes M b us x.2)
      → ((x : Read A) (w : List Token) (d : ℕ) → M w d → d ≤ b → k x ≡ Err f → Completes Anything (Behind L w) a x.2 f) → (r >>= k) ≡ Err f → Completes C L a us f
  read_then r k us f first M b takes behind h =
      one_by_one C L a r k us f first (λ x is bad.
      (let m = takes x is in completes_along C L a (m.tokens ++ x.2) us f f (sym m.parts) refl (behind_any C L a m.tokens x.2 f (behind x m.tokens m.depth m.whole m.within bad)))) h

  -- a token that is no name is looked for; without it these would complete the whole
  pub expect_then : (q : Terminal) → (q ≡ t.Name → ⊥) → (k : List Token → Result R Stop) (us : List Token) (f : Stop) → (more : List Token) (d : ℕ) → d ≤ a → L more d
      → ((x : Token) (rest : List Token) → terminal x ≡ q → k rest ≡ Err f → Completes NoName (λ u d. L (x ∷ u) d) a rest f) → (expect q us >>= k) ≡ Err f → Completes C L a us f
  expect_then q other k us f more d within whole behind h =
      one_by_one C L a (expect q us) k us f
      (λ bad. completes_along C L a us us (syntax, us) f refl (expect_err q us f bad) (stop_here C L a us more d within whole))
      (λ rest is bad. (let o = expect_found q us rest is in
      completes_along C L a (o.token ∷ rest) us f f (sym o.parts) refl (behind_other C L a o.token (λ n. other (sym o.is ∙ n)) rest f (behind o.token rest o.is bad)))) h

-- ---- things one after another

module _ {A : Type 0} (begins : Terminal → Bool) (one : Reader A) (M Ms : Language) (a : ℕ) (none : Ms [] 0) (also : (w u : List Token) (d c : ℕ) → M w d → Ms u c → Ms (w ++ u) (max d c))
    (takes : (ts : List Token) (x : Read A) → begins (next ts) ≡ true → one ts ≡ Ok x → Takes M a ts x.2) (eats : (ts : List Token) (x : Read A) → one ts ≡ Ok x → length x.2 < length ts) where
  alone : (w : List Token) (d : ℕ) → M w d → Ms w (max d 0)
  alone w d m = subst (λ (v : List Token). Ms v (max d 0)) (append-nil w) (also w [] d 0 m none)

  module _ (fails : (ts : List Token) (f : Stop) → begins (next ts) ≡ true → one ts ≡ Err f → Completes Anything M a ts f) where
    pub several_completes : (n : ℕ) (found : List A) (depth : ℕ) (ts : List Token) (f : Stop) → length ts < n → several begins one n found depth ts ≡ Err f → Completes Anything Ms a ts f
    unfolding several
    several_completes zero found depth ts f lt h = absurd (omega arith)
    several_completes (suc n) found depth ts f lt h =
        by_test (begins (next ts)) (one ts >>= λ x. several begins one n (found ++ x.0 ∷ []) (max depth x.1) x.2) (Ok (found, depth, ts)) (λ r. r ≡ Err f) (Completes Anything Ms a ts f)
        (λ is h'. one_by_one Anything Ms a (one ts) (λ x. several begins one n (found ++ x.0 ∷ []) (max depth x.1) x.2) ts f
        (λ bad. as_last Anything Ms a M a (λ d. max d 0) (λ d le. omega arith) alone ts f (fails ts f is bad))
        (λ x good bad. later n (found ++ x.0 ∷ []) (max depth x.1) ts x f (takes ts x is good) (several_completes n (found ++ x.0 ∷ []) (max depth x.1) x.2 f (omega (arith, eats ts x good)) bad)) h')
        (λ is h'. absurd cc) h
      where
        later : (n : ℕ) (found : List A) (depth : ℕ) (ts : List Token) (x : Read A) (f : Stop) → Takes M a ts x.2 → Completes Anything Ms a x.2 f → Completes Anything Ms a ts f
        later n found depth ts x f m c =
            completes_along Anything Ms a (m.tokens ++ x.2) ts f f (sym m.parts) refl
            (behind_any Anything Ms a m.tokens x.2 f (as_last Anything (Behind Ms m.tokens) a Ms a (λ d. max m.depth d) (λ d le. omega (arith, m.within)) (λ w d u. also m.tokens w m.depth d m.whole u) x.2 f c))

-- ---- things parted by commas and ended by a bracket

module _ {A : Type 0} (one : Reader A) (M Ms : Language) (a : ℕ) (single : (w : List Token) (d : ℕ) → M w d → Ms w d) (also : (x : Token) (w u : List Token) (d c : ℕ) → M w d → terminal x ≡ t.Comma → Ms u c → Ms (w ++ x ∷ u) (max d c))
    (takes : (ts : List Token) (x : Read A) → one ts ≡ Ok x → Takes M a ts x.2) where
  later : (x : Token) (w : List Token) (d : ℕ) → terminal x ≡ t.Comma → M w d → d ≤ a → (us : List Token) (f : Stop) → Completes NoName Ms a us f → Completes Anything (Behind Ms w) a (x ∷ us) f
  later x w d is m le us f c =
      behind_other Anything (Behind Ms w) a x (λ n. (let no' : t.Comma ≡ t.Name = sym is ∙ n in absurd cc)) us f
      (as_last NoName (λ u c. Ms (w ++ x ∷ u) c) a Ms a (λ c. max d c) (λ c fits. omega arith) (λ u c r. also x w u d c m is r) us f c)

  short : (ts rest : List Token) → Takes M a ts rest → length rest ≤ length ts
  short ts rest m = omega (arith, ap length m.parts, length-append m.tokens rest)

  module _ (fails : (ts : List Token) (f : Stop) → one ts ≡ Err f → Completes NoName M a ts f) where
    pub parted_completes : (n : ℕ) (found : List A) (depth : ℕ) (ts : List Token) (f : Stop) → length ts < n → parted one n found depth ts ≡ Err f → Completes NoName Ms a ts f
    unfolding parted
    parted_completes zero found depth ts f lt h = absurd (omega arith)
    parted_completes (suc n) found depth ts f lt h =
        one_by_one NoName Ms a (one ts) (λ x. cond (sees t.Comma x.2) (parted one n (found ++ x.0 ∷ []) (max depth x.1) (drop 1 x.2)) (expect t.Close x.2 >>= λ rest. Ok (found ++ x.0 ∷ [], max depth x.1, rest))) ts f
        (λ bad. as_last NoName Ms a M a (λ d. d) (λ d le. le) single ts f (fails ts f bad))
        (λ x good h'.
        (let m = takes ts x good in
        completes_along NoName Ms a (m.tokens ++ x.2) ts f f (sym m.parts) refl (behind_any NoName Ms a m.tokens x.2 f
        (by_test (sees t.Comma x.2) (parted one n (found ++ x.0 ∷ []) (max depth x.1) (drop 1 x.2)) (expect t.Close x.2 >>= λ rest. Ok (found ++ x.0 ∷ [], max depth x.1, rest)) (λ r. r ≡ Err f) (Completes Anything (Behind Ms m.tokens) a x.2 f)
        (λ is bad. (let o = sees_found t.Comma x.2 is in
        completes_along Anything (Behind Ms m.tokens) a (o.token ∷ drop 1 x.2) x.2 f f (sym o.parts) refl
        (later o.token m.tokens m.depth o.is m.whole m.within (drop 1 x.2) f
        (parted_completes n (found ++ x.0 ∷ []) (max depth x.1) (drop 1 x.2) f (omega (arith, drop_shorter t.Comma x.2 is, short ts x.2 m)) bad))))
        (λ is bad. one_by_one Anything (Behind Ms m.tokens) a (expect t.Close x.2) (λ rest. Ok (found ++ x.0 ∷ [], max depth x.1, rest)) x.2 f
        (λ missing. completes_along Anything (Behind Ms m.tokens) a x.2 x.2 (syntax, x.2) f refl (expect_err t.Close x.2 f missing)
        (stop_here Anything (Behind Ms m.tokens) a x.2 [] m.depth m.within (subst (λ (w : List Token). Ms w m.depth) (sym (append-nil m.tokens)) (single m.tokens m.depth m.whole))))
        (λ rest is' bad'. absurd (never_both {A = Read (List A)} (found ++ x.0 ∷ [], max depth x.1, rest) f bad')) bad) h')))) h
