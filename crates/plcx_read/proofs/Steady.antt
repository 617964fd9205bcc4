-- A reader looks at no token behind the one at which it stops. So what it answers in front of a cut stays, whatever comes behind the cut, and also with a larger allowance.
use Rattle.std.proofs.Common.{◌≡◌, ℕ, zero, suc, ◌+◌, ◌≤◌, ◌<◌, Bool, true, false, cond, length-append, List, [], ◌∷◌, ◌++◌, length, drop, Option, Some, None, Result, Ok, Err, refl, sym, ap, subst, ◌∙◌, append_assoc, arith, inl, inr, ◌⊎◌}
use Rattle.std.proofs.lemmas.List.{append_cancel_right}
use Rattle.plcx_lex.specs.Token.{Token}
use Rattle.plcx_lex.specs.declared.terminal.Terminal.{Terminal}
use Rattle.plcx_lex.specs.declared.terminal.Terminal.TheVariants as t
use Rattle.plcx_lex.specs.Terminal.{terminal}
use Rattle.plcx_read.specs.Reading.{Cause, syntax, too_deep, told_too_deep, Stop, Out, Read, ◌>>=◌, ◌>>◌, same, next, sees, expect, room, room_told}

abbrev pub Reader : Type 0 → Type 0
Reader A = List Token → Out A

-- ---- outcomes in front of a cut

-- with some tokens left in front of the cut: an answer, or a stop
pub data Outcome (A : Type 0) : Type 0 where
  answered : A → ℕ → List Token → Outcome A
  refused : Cause → List Token → Outcome A

-- the outcome, where these tokens are behind the cut
abbrev pub seen : {A : Type 0} → Outcome A → List Token → Out A
seen (answered v d r) x = Ok (v, d, r ++ x)
seen (refused cause r) x = Err (cause, r ++ x)

-- a fault of depth stays only where both allowances are the same
abbrev pub Holds : (even : Type 0) → Cause → Type 0
Holds even syntax = Unit {0}
Holds even _ = even

abbrev pub Firm : {A : Type 0} → (even : Type 0) → Outcome A → Type 0
Firm even (answered v d r) = 0 < length r
Firm even (refused cause r) = (0 < length r) × Holds even cause

-- What p answers in front of a cut, q answers whatever is behind it.
pub record Steady {A : Type 0} (even : Type 0) (p q : Reader A) : Type 0 where
  pub suffix : (ts : List Token) (x : Read A) → p ts ≡ Ok x → (u : List Token) × (ts ≡ u ++ x.2)
  pub left : (ts : List Token) (f : Stop) → p ts ≡ Err f → length f.1 ≤ length ts
  pub stays : (o : Outcome A) → Firm even o → (s x y : List Token) → p (s ++ x) ≡ seen o x → q (s ++ y) ≡ seen o y

-- ---- results

abbrev pub done : {A : Type 0} → A → Result A Stop
done x = Ok x

abbrev pub refuse : {A : Type 0} → Stop → Result A Stop
refuse f = Err f

pub done_is : {A : Type 0} (x y : A) → done x ≡ done y → x ≡ y
done_is x y h = cc

pub fault_is : {A : Type 0} (f g : Stop) → refuse {A = A} f ≡ refuse g → f ≡ g
fault_is f g h = cc

pub never_both : {A : Type 0} (x : A) (f : Stop) → done x ≡ refuse f → ⊥
never_both x f h = absurd cc

pub bind_err : {A B : Type 0} (r : Result A Stop) (f : A → Result B Stop) (e : Stop) → (r >>= f) ≡ Err e → (r ≡ Err e) ⊎ ((x : A) × (r ≡ Ok x) × (f x ≡ Err e))
bind_err (Ok x) f e h = inr (x, refl, h)
bind_err (Err d) f e h = inl (ap (λ (g : Stop). refuse g) (fault_is d e h))

pub bind_ok : {A B : Type 0} (r : Result A Stop) (f : A → Result B Stop) (y : B) → (r >>= f) ≡ Ok y → (x : A) × (r ≡ Ok x) × (f x ≡ Ok y)
bind_ok (Ok x) f y h = (x, refl, h)
bind_ok (Err d) f y h = absurd cc

pub chosen : {A : Type 0} (c : Bool) (r : Result A Stop) (f : Stop) (x : A) → cond c r (Err f) ≡ Ok x → r ≡ Ok x
chosen true r f x h = h
chosen false r f x h = absurd cc

-- ---- lists

-- what is left of a list that ends in x, and is longer than x, ends in x
longer_cut : (s x u z : List Token) → s ++ x ≡ u ++ z → length x < length z → (r : List Token) × (z ≡ r ++ x) × (0 < length r)
longer_cut s x [] z h lt = (s, sym h, omega (arith, ap length h, length-append s x))
longer_cut [] x (b ∷ u) z h lt = absurd (omega (arith, ap length h, length-append u z))
longer_cut (a ∷ s) x (b ∷ u) z h lt = longer_cut s x u z (ap (λ (l : List Token). drop 1 l) h) lt

-- ---- what stops in front of the cut saw some of what is in front of it

module _ {A : Type 0} (even : Type 0) (p q : Reader A) (inside : Steady even p q) where
  pub reach : (o : Outcome A) → Firm even o → (ts x : List Token) → p ts ≡ seen o x → length x < length ts
  reach (answered v d r) firm ts x h = let m = inside.suffix ts (v, d, r ++ x) h in omega (arith, firm, ap length m.1, length-append m.0 (r ++ x), length-append r x)
  reach (refused cause r) firm ts x h = omega (arith, firm.0, inside.left ts (cause, r ++ x) h, length-append r x)

-- ---- values and faults

module _ {A : Type 0} (even : Type 0) where
  pure_stays : (v : A) (d : ℕ) (o : Outcome A) → Firm even o → (s x y : List Token) → done (v, d, s ++ x) ≡ seen o x → done (v, d, s ++ y) ≡ seen o y
  pure_stays v d (answered w c r) firm s x y h =
      let e : (v, d, s ++ x) ≡ (w, c, r ++ x) = done_is (v, d, s ++ x) (w, c, r ++ x) h in
      let l : s ≡ r = append_cancel_right s r x (ap (λ (z : Read A). z.2) e) in
      rw (ap (λ (z : Read A). z.0) e, ap (λ (z : Read A). z.1) e, l) refl
  pure_stays v d (refused cause r) firm s x y h = absurd cc

  pub steady_pure : (v : A) (d : ℕ) → Steady even (λ ts. Ok (v, d, ts)) (λ ts. Ok (v, d, ts))
  steady_pure v d = record {
    suffix = λ ts x h. ([], ap (λ (z : Read A). z.2) (done_is (v, d, ts) x h));
    left = λ ts f h. absurd cc;
    stays = pure_stays v d;
  }

  stop_stays : (cause : Cause) (q : Reader A) → (Holds even cause → (ts : List Token) → q ts ≡ Err (cause, ts)) → (o : Outcome A) → Firm even o → (s x y : List Token) → refuse (cause, s ++ x) ≡ seen o x → q (s ++ y) ≡ seen o y
  stop_stays cause q h (answered w c r) firm s x y e = absurd cc
  stop_stays cause q h (refused other r) firm s x y e =
      let m : (cause, s ++ x) ≡ (other, r ++ x) = fault_is {A = Read A} (cause, s ++ x) (other, r ++ x) e in
      let l : s ≡ r = append_cancel_right s r x (ap (λ (z : Stop). z.1) m) in
      let c : cause ≡ other = ap (λ (z : Stop). z.0) m in
      h (subst (λ (i : Cause). Holds even i) (sym c) firm.1) (s ++ y) ∙ rw (c, l) refl

  -- it stops at once
  pub steady_stop : (cause : Cause) (q : Reader A) → (Holds even cause → (ts : List Token) → q ts ≡ Err (cause, ts)) → Steady even (λ ts. Err (cause, ts)) q
  steady_stop cause q h = record {
    suffix = λ ts x e. absurd cc;
    left = λ ts f e. (let m : (cause, ts) ≡ f = fault_is {A = Read A} (cause, ts) f e in omega (arith, ap (λ (z : Stop). length z.1) m));
    stays = stop_stays cause q h;
  }

  pub steady_fail : Steady {A = A} even (λ ts. Err (syntax, ts)) (λ ts. Err (syntax, ts))
  steady_fail = steady_stop syntax (λ ts. Err (syntax, ts)) (λ _ ts. refl)

  -- no room, where q may have room unless the two allowances are even
  pub steady_deep : (q : Reader A) → (even → (ts : List Token) → q ts ≡ Err (too_deep, ts)) → Steady even (λ ts. Err (too_deep, ts)) q
  steady_deep q h = steady_stop too_deep q h

-- ---- one after the other

module _ {A B : Type 0} (even : Type 0) (p p' : Reader A) (k k' : A → ℕ → Reader B) (first : Steady even p p') (next : (v : A) (d : ℕ) → Steady even (k v d) (k' v d)) where
  abbrev both : Reader B
  both = λ ts. p ts >>= λ x. k x.0 x.1 x.2

  abbrev both' : Reader B
  both' = λ ts. p' ts >>= λ x. k' x.0 x.1 x.2

  bind_suffix : (ts : List Token) (x : Read B) → both ts ≡ Ok x → (u : List Token) × (ts ≡ u ++ x.2)
  bind_suffix ts x h =
      let b = bind_ok (p ts) (λ x. k x.0 x.1 x.2) x h in
      let y : Read A = b.0 in
      let m = first.suffix ts y b.1 in
      let n = (next y.0 y.1).suffix y.2 x b.2 in
      (m.0 ++ n.0, m.1 ∙ ap (λ (z : List Token). m.0 ++ z) n.1 ∙ sym (append_assoc m.0 n.0 x.2))

  bind_left : (ts : List Token) (f : Stop) → both ts ≡ Err f → length f.1 ≤ length ts
  bind_left ts f h =
      elim (bind_err (p ts) (λ x. k x.0 x.1 x.2) f h) [
        | inl e ↦ first.left ts f e
        | inr b ↦ let y : Read A = b.0 in let m = first.suffix ts y b.1 in let n = (next y.0 y.1).left y.2 f b.2 in omega (arith, n, ap length m.1, length-append m.0 y.2)
      ]

  -- the first has answered, and the second stops in front of the cut
  on_stays : (o : Outcome B) → Firm even o → (s x y : List Token) (z : Read A) → p (s ++ x) ≡ Ok z → k z.0 z.1 z.2 ≡ seen o x → both' (s ++ y) ≡ seen o y
  on_stays o firm s x y z one two =
      let m = first.suffix (s ++ x) z one in
      let c = longer_cut s x m.0 z.2 m.1 (reach even (k z.0 z.1) (k' z.0 z.1) (next z.0 z.1) o firm z.2 x two) in
      let one' = first.stays (answered z.0 z.1 c.0) c.2 s x y (one ∙ ap (λ (w : List Token). done (z.0, z.1, w)) c.1) in
      let two' = (next z.0 z.1).stays o firm c.0 x y (ap (λ (w : List Token). k z.0 z.1 w) (sym c.1) ∙ two) in
      ap (λ (w : Out A). w >>= λ x. k' x.0 x.1 x.2) one' ∙ two'

  bind_stays : (o : Outcome B) → Firm even o → (s x y : List Token) → both (s ++ x) ≡ seen o x → both' (s ++ y) ≡ seen o y
  bind_stays (answered v d r) firm s x y h =
      let b = bind_ok (p (s ++ x)) (λ x. k x.0 x.1 x.2) (v, d, r ++ x) h in
      on_stays (answered v d r) firm s x y b.0 b.1 b.2
  bind_stays (refused cause r) firm s x y h =
      elim (bind_err (p (s ++ x)) (λ x. k x.0 x.1 x.2) (cause, r ++ x) h) [
        | inl e ↦ ap (λ (w : Out A). w >>= λ x. k' x.0 x.1 x.2) (first.stays (refused cause r) firm s x y e)
        | inr b ↦ on_stays (refused cause r) firm s x y b.0 b.1 b.2
      ]

  pub steady_bind : Steady even both both'
  steady_bind = record { suffix = bind_suffix; left = bind_left; stays = bind_stays }

-- ---- a look at the first token

abbrev pub front_of : List Token → Option Token
front_of [] = None
front_of (t ∷ ts) = Some t

module _ {A : Type 0} (even : Type 0) (h h' : Option Token → Reader A) (each : (o : Option Token) → Steady even (h o) (h' o)) where
  look_stays : (o : Outcome A) → Firm even o → (s x y : List Token) → h (front_of (s ++ x)) (s ++ x) ≡ seen o x → h' (front_of (s ++ y)) (s ++ y) ≡ seen o y
  look_stays o firm [] x y e = absurd (omega (arith, reach even (h (front_of x)) (h' (front_of x)) (each (front_of x)) o firm x x e))
  look_stays o firm (t ∷ s) x y e = (each (Some t)).stays o firm (t ∷ s) x y e

  pub steady_look : Steady even (λ ts. h (front_of ts) ts) (λ ts. h' (front_of ts) ts)
  steady_look = record { suffix = λ ts x e. (each (front_of ts)).suffix ts x e; left = λ ts f e. (each (front_of ts)).left ts f e; stays = look_stays }

-- ---- behind the first token

module _ {A : Type 0} (even : Type 0) (p q : Reader A) (inside : Steady even p q) where
  skip_suffix : (ts : List Token) (x : Read A) → p (drop 1 ts) ≡ Ok x → (u : List Token) × (ts ≡ u ++ x.2)
  skip_suffix [] x e = inside.suffix [] x e
  skip_suffix (t ∷ ts) x e = let m = inside.suffix ts x e in (t ∷ m.0, ap (λ (z : List Token). t ∷ z) m.1)

  skip_left : (ts : List Token) (f : Stop) → p (drop 1 ts) ≡ Err f → length f.1 ≤ length ts
  skip_left [] f e = inside.left [] f e
  skip_left (t ∷ ts) f e = omega (arith, inside.left ts f e)

  shorter : (x : List Token) → length (drop 1 x) ≤ length x
  shorter [] = omega arith
  shorter (t ∷ x) = omega arith

  skip_stays : (o : Outcome A) → Firm even o → (s x y : List Token) → p (drop 1 (s ++ x)) ≡ seen o x → q (drop 1 (s ++ y)) ≡ seen o y
  skip_stays o firm [] x y e = absurd (omega (arith, reach even p q inside o firm (drop 1 x) x e, shorter x))
  skip_stays o firm (t ∷ s) x y e = inside.stays o firm s x y e

  pub steady_skip : Steady even (λ ts. p (drop 1 ts)) (λ ts. q (drop 1 ts))
  steady_skip = record { suffix = skip_suffix; left = skip_left; stays = skip_stays }

-- ---- readers that answer alike

module _ {A : Type 0} (even : Type 0) (p p' q q' : Reader A) (old : (ts : List Token) → p ts ≡ p' ts) (new : (ts : List Token) → q ts ≡ q' ts) (inside : Steady even p' q') where
  pub steady_alike : Steady even p q
  steady_alike = record {
    suffix = λ ts x e. inside.suffix ts x (sym (old ts) ∙ e);
    left = λ ts f e. inside.left ts f (sym (old ts) ∙ e);
    stays = λ o firm s x y e. new (s ++ y) ∙ inside.stays o firm s x y (sym (old (s ++ x)) ∙ e);
  }

-- ---- a number of turns that is large enough

module _ {A : Type 0} (even : Type 0) (p q : Reader A) (f g : ℕ → Reader A) (old : (ts : List Token) (n : ℕ) → length ts < n → p ts ≡ f n ts) (new : (ts : List Token) (n : ℕ) → length ts < n → q ts ≡ g n ts)
    (each : (n : ℕ) → Steady even (f n) (g n)) where
  enough : List Token → List Token → List Token → ℕ
  enough s x y = suc (length (s ++ x) + length (s ++ y))

  pub steady_turns : Steady even p q
  unfolding enough
  steady_turns = record {
    suffix = λ ts x e. (each (suc (length ts))).suffix ts x (sym (old ts (suc (length ts)) (omega arith)) ∙ e);
    left = λ ts f e. (each (suc (length ts))).left ts f (sym (old ts (suc (length ts)) (omega arith)) ∙ e);
    stays = λ o firm s x y e. new (s ++ y) (enough s x y) (omega arith) ∙ (each (enough s x y)).stays o firm s x y (sym (old (s ++ x) (enough s x y) (omega arith)) ∙ e);
  }

-- ---- choices

module _ {A : Type 0} (even : Type 0) where
  pub steady_choose : (c : Bool) (p p' f f' : Reader A) → Steady even p p' → Steady even f f' → Steady even (λ ts. cond c (p ts) (f ts)) (λ ts. cond c (p' ts) (f' ts))
  steady_choose true p p' f f' one other = one
  steady_choose false p p' f f' one other = other

  -- no room in p, or none in both
  pub steady_if_deep : (b b' : Bool) (p p' : Reader A) → (b ≡ false → b' ≡ false) → (even → b ≡ b') → Steady even p p' → Steady even (λ ts. cond b (Err (too_deep, ts)) (p ts)) (λ ts. cond b' (Err (too_deep, ts)) (p' ts))
  steady_if_deep true b' p p' wider tie inside = steady_deep even (λ ts. cond b' (Err (too_deep, ts)) (p' ts)) (λ is ts. ap (λ c. cond c (Err (too_deep, ts)) (p' ts)) (sym (tie is)))
  steady_if_deep false true p p' wider tie inside = absurd (let h : true ≡ false = wider refl in cc)
  steady_if_deep false false p p' wider tie inside = inside

-- ---- by what the next token is

next_at : Option Token → Terminal
next_at None = t.Other
next_at (Some x) = terminal x

next_alike : (ts : List Token) → next ts ≡ next_at (front_of ts)
unfolding next_at
next_alike [] = refl
next_alike (x ∷ ts) = refl

module _ {A : Type 0} (even : Type 0) (h h' : Terminal → Reader A) (each : (q : Terminal) → Steady even (h q) (h' q)) where
  pub steady_next : Steady even (λ ts. h (next ts) ts) (λ ts. h' (next ts) ts)
  steady_next =
      steady_alike even (λ ts. h (next ts) ts) (λ ts. h (next_at (front_of ts)) ts) (λ ts. h' (next ts) ts) (λ ts. h' (next_at (front_of ts)) ts)
      (λ ts. ap (λ q. h q ts) (next_alike ts)) (λ ts. ap (λ q. h' q ts) (next_alike ts)) (steady_look even (λ o. h (next_at o)) (λ o. h' (next_at o)) (λ o. each (next_at o)))

-- a reader by its first token
module _ {A : Type 0} (even : Type 0) (p q : Reader A) (h h' : Token → Reader A) (none : p [] ≡ Err (syntax, [])) (none' : q [] ≡ Err (syntax, [])) (some : (x : Token) (ts : List Token) → p (x ∷ ts) ≡ h x (x ∷ ts)) (some' : (x : Token) (ts : List Token) → q (x ∷ ts) ≡ h' x (x ∷ ts))
    (each : (x : Token) → Steady even (h x) (h' x)) where
  by_first : (Token → Reader A) → Option Token → Reader A
  by_first g None = λ ts. Err (syntax, ts)
  by_first g (Some x) = g x

  first_alike : (r : Reader A) (g : Token → Reader A) → r [] ≡ Err (syntax, []) → ((x : Token) (ts : List Token) → r (x ∷ ts) ≡ g x (x ∷ ts)) → (ts : List Token) → r ts ≡ by_first g (front_of ts) ts
  unfolding by_first
  first_alike r g empty full [] = empty
  first_alike r g empty full (x ∷ ts) = full x ts

  first_steady : (o : Option Token) → Steady even (by_first h o) (by_first h' o)
  unfolding by_first
  first_steady None = steady_fail even
  first_steady (Some x) = each x

  pub steady_first : Steady even p q
  steady_first = steady_alike even p (λ ts. by_first h (front_of ts) ts) q (λ ts. by_first h' (front_of ts) ts) (first_alike p h none some) (first_alike q h' none' some') (steady_look even (by_first h) (by_first h') first_steady)

-- one of two by a look at the next token
sees_at : Terminal → Option Token → Bool
sees_at q None = false
sees_at q (Some x) = same (terminal x) q

sees_alike : (q : Terminal) (ts : List Token) → sees q ts ≡ sees_at q (front_of ts)
unfolding sees_at
sees_alike q [] = refl
sees_alike q (x ∷ ts) = refl

module _ {A : Type 0} (even : Type 0) (q : Terminal) (p p' : Reader A) (inside : Steady even p p') where
  pub steady_sees : (f f' : Reader A) → Steady even f f' → Steady even (λ ts. cond (sees q ts) (p ts) (f ts)) (λ ts. cond (sees q ts) (p' ts) (f' ts))
  steady_sees f f' other =
      steady_alike even (λ ts. cond (sees q ts) (p ts) (f ts)) (λ ts. cond (sees_at q (front_of ts)) (p ts) (f ts)) (λ ts. cond (sees q ts) (p' ts) (f' ts)) (λ ts. cond (sees_at q (front_of ts)) (p' ts) (f' ts))
      (λ ts. ap (λ c. cond c (p ts) (f ts)) (sees_alike q ts)) (λ ts. ap (λ c. cond c (p' ts) (f' ts)) (sees_alike q ts))
      (steady_look even (λ o ts. cond (sees_at q o) (p ts) (f ts)) (λ o ts. cond (sees_at q o) (p' ts) (f' ts)) (λ o. steady_choose even (sees_at q o) p p' f f' inside other))

  choice_then : (c : Bool) (rest : List Token) (f : Stop) (k : Reader A) → (cond c (Ok rest) (Err f) >>= k) ≡ cond c (k rest) (Err f)
  choice_then true rest f k = refl
  choice_then false rest f k = refl

  expect_some : (k : Reader A) (x : Token) (ts : List Token) → (expect q (x ∷ ts) >>= k) ≡ cond (same (terminal x) q) (k (drop 1 (x ∷ ts))) (Err (syntax, x ∷ ts))
  unfolding expect
  expect_some k x ts = choice_then (same (terminal x) q) ts (syntax, x ∷ ts) k

  expect_none : (k : Reader A) → (expect q [] >>= k) ≡ Err (syntax, [])
  unfolding expect
  expect_none k = refl

  pub steady_expect : Steady even (λ ts. expect q ts >>= p) (λ ts. expect q ts >>= p')
  steady_expect =
      steady_first even _ _ (λ x ts. cond (same (terminal x) q) (p (drop 1 ts)) (Err (syntax, ts))) (λ x ts. cond (same (terminal x) q) (p' (drop 1 ts)) (Err (syntax, ts)))
      (expect_none p) (expect_none p') (expect_some p) (expect_some p')
      (λ x. steady_choose even (same (terminal x) q) (λ ts. p (drop 1 ts)) (λ ts. p' (drop 1 ts)) (λ ts. Err (syntax, ts)) (λ ts. Err (syntax, ts)) (steady_skip even p p' inside) (steady_fail even))

-- ---- room

module _ {A : Type 0} (even : Type 0) (a a' : ℕ) (le : a ≤ a') (tie : even → a ≡ a') (p p' : Reader A) (inside : Steady even p p') where
  room_steady : (n m : ℕ) → n ≤ m → (even → n ≡ m) → Steady even (λ ts. room n ts >> p ts) (λ ts. room m ts >> p' ts)
  unfolding room
  room_steady zero m fits equal = steady_stop even too_deep (λ ts. room m ts >> p' ts) (λ is ts. ap (λ i. room i ts >> p' ts) (sym (equal is)))
  room_steady (suc n) zero fits equal = absurd (omega arith)
  room_steady (suc n) (suc m) fits equal = inside

  told_steady : (w : Token) (n m : ℕ) → n ≤ m → (even → n ≡ m) → Steady even (λ ts. room_told n w ts >> p ts) (λ ts. room_told m w ts >> p' ts)
  unfolding room_told
  told_steady w zero m fits equal = steady_stop even (told_too_deep w) (λ ts. room_told m w ts >> p' ts) (λ is ts. ap (λ i. room_told i w ts >> p' ts) (sym (equal is)))
  told_steady w (suc n) zero fits equal = absurd (omega arith)
  told_steady w (suc n) (suc m) fits equal = inside

  pub steady_room : Steady even (λ ts. room a ts >> p ts) (λ ts. room a' ts >> p' ts)
  steady_room = room_steady a a' le tie

  pub steady_told : (w : Token) → Steady even (λ ts. room_told a w ts >> p ts) (λ ts. room_told a' w ts >> p' ts)
  steady_told w = told_steady w a a' le tie
