-- What the small readers and the loops read.
use Rattle.std.proofs.Common.{◌≡◌, ℕ, zero, suc, ◌+◌, ◌≤◌, ◌<◌, Bool, true, false, cond, max, List, [], ◌∷◌, ◌++◌, length, drop, Result, Ok, Err, refl, sym, ap, subst, ◌∙◌, append_assoc, arith, rules}
use denote.Enum.Bare.{same_true}
use Rattle.std.proofs.lemmas.List.{append-nil}
use Rattle.plcx_lex.specs.Token.{Token}
use Rattle.plcx_lex.specs.contracts.terminal.Terminal.{the_type}
use Rattle.plcx_lex.specs.declared.terminal.Terminal.{Terminal}
use Rattle.plcx_lex.specs.declared.terminal.Terminal.TheVariants as t
use Rattle.plcx_lex.specs.Terminal.{terminal}
use Rattle.plcx_st.specs.Grammar.{word}
use Rattle.plcx_st.specs.declared.tree.Word.{Word}
use Rattle.plcx_read.specs.Reading.{Stop, syntax, Read, ◌>>=◌, same, next, sees, expect, name_at, room, room_told, several, all_of, parted, list_of}
use Rattle.plcx_read.proofs.Steady.{Reader, done, done_is, fault_is, bind_ok}

-- ---- tests

-- one of two, by a test that stays known
pub by_test : {A : Type 0} (c : Bool) (x y : A) (f : A → Type 0) (P : Type 0) → (c ≡ true → f x → P) → (c ≡ false → f y → P) → f (cond c x y) → P
by_test true x y f P right wrong h = right refl h
by_test false x y f P right wrong h = wrong refl h

pub tested : {A : Type 0} (c : Bool) (r : Result A Stop) (f g : Stop) (P : Type 0) → (c ≡ true → r ≡ Err g → P) → (f ≡ g → P) → cond c r (Err f) ≡ Err g → P
tested true r f g P right wrong h = right refl h
tested {A} false r f g P right wrong h = wrong (fault_is {A = A} f g h)

pub passed : {A : Type 0} (c : Bool) (r : Result A Stop) (f : Stop) (x : A) → cond c r (Err f) ≡ Ok x → (c ≡ true) × (r ≡ Ok x)
passed true r f x h = (refl, h)
passed false r f x h = absurd cc

-- ---- single tokens

pub same_is : (p q : Terminal) → same p q ≡ true → p ≡ q
unfolding same
same_is p q h = same_true the_type (search rules) p q h

-- the first token, where it was looked for
pub record Found (q : Terminal) (ts rest : List Token) : Type 0 where
  pub token : Token
  pub is : terminal token ≡ q
  pub parts : ts ≡ token ∷ rest

pub sees_found : (q : Terminal) (ts : List Token) → sees q ts ≡ true → Found q ts (drop 1 ts)
sees_found q [] h = absurd cc
sees_found q (x ∷ ts) h = record { token = x; is = same_is (terminal x) q h; parts = refl }

pub next_found : (q : Terminal) (ts : List Token) → (q ≡ t.Other → ⊥) → next ts ≡ q → Found q ts (drop 1 ts)
next_found q [] other h = absurd (other (sym h))
next_found q (x ∷ ts) other h = record { token = x; is = h; parts = refl }

pub expect_found : (q : Terminal) (ts rest : List Token) → expect q ts ≡ Ok rest → Found q ts rest
unfolding expect
expect_found q [] rest h = absurd cc
expect_found q (x ∷ ts) rest h =
    let p = passed (same (terminal x) q) (done ts) (syntax, x ∷ ts) rest h in
    record { token = x; is = same_is (terminal x) q p.0; parts = ap (λ (v : List Token). x ∷ v) (done_is ts rest p.1) }

pub record FoundName (ts : List Token) (r : Read Word) : Type 0 where
  pub token : Token
  pub is : terminal token ≡ t.Name
  pub value : r.0 ≡ word token
  pub parts : ts ≡ token ∷ r.2

pub name_found : (ts : List Token) (r : Read Word) → name_at ts ≡ Ok r → FoundName ts r
unfolding name_at
name_found [] r h = absurd cc
name_found (x ∷ ts) r h =
    let p = passed (same (terminal x) t.Name) (done (word x, 0, ts)) (syntax, x ∷ ts) r h in
    let e = done_is (word x, 0, ts) r p.1 in
    record { token = x; is = same_is (terminal x) t.Name p.0; value = ap (λ (q : Read Word). q.0) (sym e); parts = ap (λ (q : Read Word). x ∷ q.2) e }

pub room_found : (a : ℕ) (ts : List Token) (y : Unit {0}) → room a ts ≡ Ok y → 0 < a
unfolding room
room_found zero ts y h = absurd cc
room_found (suc a) ts y h = omega arith

pub told_found : (a : ℕ) (w : Token) (ts : List Token) (y : Unit {0}) → room_told a w ts ≡ Ok y → 0 < a
unfolding room_told
told_found zero w ts y h = absurd cc
told_found (suc a) w ts y h = omega arith

-- ---- what was read

-- of a relation of tokens, a value and a depth
pub record Took {A : Type 0} (Is : List Token → A → ℕ → Type 0) (a : ℕ) (ts : List Token) (x : Read A) : Type 0 where
  pub tokens : List Token
  pub is : Is tokens x.0 x.1
  pub parts : ts ≡ tokens ++ x.2
  pub within : x.1 ≤ a

pub took : {A : Type 0} (Is : List Token → A → ℕ → Type 0) (a : ℕ) (ts tokens rest : List Token) (v : A) (d e : ℕ) (x : Read A) → Is tokens v d → d ≡ e → ts ≡ tokens ++ rest → d ≤ a → done (v, e, rest) ≡ done x → Took Is a ts x
took {A} Is a ts tokens rest v d e x is same' parts within h =
    subst (λ (y : Read A). Took Is a ts y) (done_is (v, e, rest) x h) (record { tokens = tokens; is = subst (λ (i : ℕ). Is tokens v i) same' is; parts = parts; within = subst (λ (i : ℕ). i ≤ a) same' within })

-- ---- things one after another

record TookList {A : Type 0} (Ls : List Token → List A → ℕ → Type 0) (a : ℕ) (found : List A) (depth : ℕ) (ts : List Token) (x : Read (List A)) (rest : List Token) : Type 0 where
  tokens : List Token
  values : List A
  height : ℕ
  is : Ls tokens values height
  parts : ts ≡ tokens ++ rest
  all : x.0 ≡ found ++ values
  deep : x.1 ≡ max depth height
  within : height ≤ a

-- with nothing found before
settle : {A : Type 0} (Ls : List Token → List A → ℕ → Type 0) (a : ℕ) (ts : List Token) (x : Read (List A)) (rest : List Token) → TookList Ls a [] 0 ts x rest → (tokens : List Token) × Ls tokens x.0 x.1 × (ts ≡ tokens ++ rest) × (x.1 ≤ a)
settle {A} Ls a ts x rest m =
    let d : m.height ≡ x.1 = omega (arith, m.deep) in
    (m.tokens, subst (λ (i : ℕ). Ls m.tokens x.0 i) d (subst (λ (vs : List A). Ls m.tokens vs m.height) (sym m.all) m.is), m.parts, omega (arith, m.within, d))

module _ {A : Type 0} (begins : Terminal → Bool) (one : Reader A) (Is : List Token → A → ℕ → Type 0) (Ls : List Token → List A → ℕ → Type 0) (a : ℕ) (none : Ls [] [] 0)
    (also : (w u : List Token) (v : A) (vs : List A) (d c : ℕ) → Is w v d → Ls u vs c → Ls (w ++ u) (v ∷ vs) (max d c)) (sound : (ts : List Token) (x : Read A) → one ts ≡ Ok x → Took Is a ts x) where
  several_took : (n : ℕ) (found : List A) (depth : ℕ) (ts : List Token) (x : Read (List A)) → several begins one n found depth ts ≡ Ok x → TookList Ls a found depth ts x x.2
  unfolding several
  several_took zero found depth ts x h = absurd cc
  several_took (suc n) found depth ts x h =
      by_test (begins (next ts)) (one ts >>= λ y. several begins one n (found ++ y.0 ∷ []) (max depth y.1) y.2) (Ok (found, depth, ts)) (λ r. r ≡ Ok x) (TookList Ls a found depth ts x x.2)
      (λ is h'. (let b = bind_ok (one ts) (λ y. several begins one n (found ++ y.0 ∷ []) (max depth y.1) y.2) x h' in
      let y : Read A = b.0 in
      let m = sound ts y b.1 in
      let r = several_took n (found ++ y.0 ∷ []) (max depth y.1) y.2 x b.2 in
      record {
        tokens = m.tokens ++ r.tokens;
        values = y.0 ∷ r.values;
        height = max y.1 r.height;
        is = also m.tokens r.tokens y.0 r.values y.1 r.height m.is r.is;
        parts = m.parts ∙ ap (λ (w : List Token). m.tokens ++ w) r.parts ∙ sym (append_assoc m.tokens r.tokens x.2);
        all = r.all ∙ append_assoc found (y.0 ∷ []) r.values;
        deep = r.deep ∙ omega arith;
        within = omega (arith, m.within, r.within);
      }))
      (λ is h'. (let e = done_is (found, depth, ts) x h' in
      record { tokens = []; values = []; height = 0; is = none; parts = ap (λ (q : Read (List A)). q.2) e; all = sym (ap (λ (q : Read (List A)). q.0) e) ∙ sym (append-nil found); deep = sym (ap (λ (q : Read (List A)). q.1) e) ∙ omega arith; within = omega arith })) h

  pub all_sound : (ts : List Token) (x : Read (List A)) → all_of begins one ts ≡ Ok x → Took Ls a ts x
  all_sound ts x h = let s = settle Ls a ts x x.2 (several_took (length ts + 1) [] 0 ts x h) in record { tokens = s.0; is = s.1; parts = s.2; within = s.3 }

-- ---- things parted by commas and ended by a bracket

pub record TookParted {A : Type 0} (Ls : List Token → List A → ℕ → Type 0) (a : ℕ) (ts : List Token) (x : Read (List A)) : Type 0 where
  pub tokens : List Token
  pub close : Token
  pub is : Ls tokens x.0 x.1
  pub shut : terminal close ≡ t.Close
  pub parts : ts ≡ tokens ++ close ∷ x.2
  pub within : x.1 ≤ a

module _ {A : Type 0} (one : Reader A) (Is : List Token → A → ℕ → Type 0) (Ls : List Token → List A → ℕ → Type 0) (a : ℕ) (single : (w : List Token) (v : A) (d : ℕ) → Is w v d → Ls w (v ∷ []) d)
    (also : (x : Token) (w u : List Token) (v : A) (vs : List A) (d c : ℕ) → Is w v d → terminal x ≡ t.Comma → Ls u vs c → Ls (w ++ x ∷ u) (v ∷ vs) (max d c)) (sound : (ts : List Token) (x : Read A) → one ts ≡ Ok x → Took Is a ts x) where
  parted_took : (n : ℕ) (found : List A) (depth : ℕ) (ts : List Token) (x : Read (List A)) → parted one n found depth ts ≡ Ok x → (z : Token) × (terminal z ≡ t.Close) × TookList Ls a found depth ts x (z ∷ x.2)
  unfolding parted
  parted_took zero found depth ts x h = absurd cc
  parted_took (suc n) found depth ts x h =
      let b = bind_ok (one ts) (λ y. cond (sees t.Comma y.2) (parted one n (found ++ y.0 ∷ []) (max depth y.1) (drop 1 y.2)) (expect t.Close y.2 >>= λ rest. done (found ++ y.0 ∷ [], max depth y.1, rest))) x h in
      let y : Read A = b.0 in
      let m = sound ts y b.1 in
      by_test (sees t.Comma y.2) (parted one n (found ++ y.0 ∷ []) (max depth y.1) (drop 1 y.2)) (expect t.Close y.2 >>= λ rest. Ok (found ++ y.0 ∷ [], max depth y.1, rest)) (λ r. r ≡ Ok x) ((z : Token) × (terminal z ≡ t.Close) × TookList Ls a found depth ts x (z ∷ x.2))
      (λ is h'. (let o = sees_found t.Comma y.2 is in
      let r = parted_took n (found ++ y.0 ∷ []) (max depth y.1) (drop 1 y.2) x h' in
      let k = r.2 in
      let rest : y.2 ≡ (o.token ∷ k.tokens) ++ (r.0 ∷ x.2) = o.parts ∙ ap (λ (w : List Token). o.token ∷ w) k.parts in (
        r.0,
        r.1,
        record {
          tokens = m.tokens ++ o.token ∷ k.tokens;
          values = y.0 ∷ k.values;
          height = max y.1 k.height;
          is = also o.token m.tokens k.tokens y.0 k.values y.1 k.height m.is o.is k.is;
          parts = m.parts ∙ ap (λ (w : List Token). m.tokens ++ w) rest ∙ sym (append_assoc m.tokens (o.token ∷ k.tokens) (r.0 ∷ x.2));
          all = k.all ∙ append_assoc found (y.0 ∷ []) k.values;
          deep = k.deep ∙ omega arith;
          within = omega (arith, m.within, k.within);
        },
      )))
      (λ is h'. (let q = bind_ok (expect t.Close y.2) (λ rest. done (found ++ y.0 ∷ [], max depth y.1, rest)) x h' in
      let o = expect_found t.Close y.2 q.0 q.1 in
      let e = done_is (found ++ y.0 ∷ [], max depth y.1, q.0) x q.2 in
      let rest : y.2 ≡ o.token ∷ x.2 = o.parts ∙ ap (λ (z : Read (List A)). o.token ∷ z.2) e in (
        o.token,
        o.is,
        record {
          tokens = m.tokens;
          values = y.0 ∷ [];
          height = y.1;
          is = single m.tokens y.0 y.1 m.is;
          parts = m.parts ∙ ap (λ (w : List Token). m.tokens ++ w) rest;
          all = sym (ap (λ (z : Read (List A)). z.0) e);
          deep = sym (ap (λ (z : Read (List A)). z.1) e);
          within = m.within;
        },
      ))) b.2

  pub list_sound : (ts : List Token) (x : Read (List A)) → list_of one ts ≡ Ok x → TookParted Ls a ts x
  list_sound ts x h =
      let p = parted_took (length ts + 1) [] 0 ts x h in
      let s = settle Ls a ts x (p.0 ∷ x.2) p.2 in
      record { tokens = s.0; close = p.0; is = s.1; shut = p.1; parts = s.2; within = s.3 }
