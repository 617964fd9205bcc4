-- The loops of the reader are steady where what they repeat is.
use Rattle.std.proofs.Common.{◌≡◌, ℕ, zero, suc, ◌+◌, ◌≤◌, ◌<◌, Bool, true, false, cond, max, length-append, List, [], ◌∷◌, ◌++◌, length, drop, Result, Ok, Err, refl, ap, arith}
use Rattle.plcx_lex.specs.Token.{Token}
use Rattle.plcx_lex.specs.declared.terminal.Terminal.{Terminal}
use Rattle.plcx_lex.specs.declared.terminal.Terminal.TheVariants as t
use Rattle.plcx_read.specs.Reading.{Stop, Read, ◌>>=◌, next, sees, expect, several, all_of, parted, list_of}
use Rattle.plcx_read.proofs.Steady.{Reader, Steady, steady_pure, steady_fail, steady_bind, steady_choose, steady_next, steady_sees, steady_skip, steady_expect, steady_turns}

-- the same answers to what both go on from
pub same_answers : {A B : Type 0} (r : Result A Stop) (f g : A → Result B Stop) → ((x : A) → r ≡ Ok x → f x ≡ g x) → (r >>= f) ≡ (r >>= g)
same_answers (Ok x) f g h = h x refl
same_answers (Err d) f g h = refl

pub same_choice : {A : Type 0} (c : Bool) (p p' f : A) → (c ≡ true → p ≡ p') → cond c p f ≡ cond c p' f
same_choice true p p' f h = h refl
same_choice false p p' f h = refl

pub drop_shorter : (q : Terminal) (ts : List Token) → sees q ts ≡ true → length (drop 1 ts) < length ts
drop_shorter q [] h = absurd cc
drop_shorter q (x ∷ ts) h = omega arith

-- what it takes is something
abbrev pub Eats : {A : Type 0} → Reader A → Type 0
Eats {A} one = (ts : List Token) (x : Read A) → one ts ≡ Ok x → length x.2 < length ts

-- what it leaves is no longer
abbrev pub Leaves : {A : Type 0} → Reader A → Type 0
Leaves {A} one = (ts : List Token) (x : Read A) → one ts ≡ Ok x → length x.2 ≤ length ts

pub leaves : {A : Type 0} (even : Type 0) (p q : Reader A) → Steady even p q → Leaves p
leaves even p q s ts x h = let m = s.suffix ts x h in omega (arith, ap length m.1, length-append m.0 x.2)

-- ---- things one after another

module _ {A : Type 0} (begins : Terminal → Bool) (one : Reader A) (eats : Eats one) where
  several_turns : (n m : ℕ) (found : List A) (depth : ℕ) (ts : List Token) → length ts < n → length ts < m → several begins one n found depth ts ≡ several begins one m found depth ts
  unfolding several
  several_turns zero m found depth ts p q = absurd (omega arith)
  several_turns (suc n) zero found depth ts p q = absurd (omega arith)
  several_turns (suc n) (suc m) found depth ts p q =
      same_choice (begins (next ts)) _ _ _ (λ _.
      same_answers (one ts) _ _ (λ x h. (let lt = eats ts x h in several_turns n m (found ++ x.0 ∷ []) (max depth x.1) x.2 (omega (arith, lt)) (omega (arith, lt)))))

module _ {A : Type 0} (even : Type 0) (begins : Terminal → Bool) (one one' : Reader A) (inside : Steady even one one') where
  steady_several : (n : ℕ) (found : List A) (depth : ℕ) → Steady even (several begins one n found depth) (several begins one' n found depth)
  unfolding several
  steady_several zero found depth = steady_fail even
  steady_several (suc n) found depth =
      steady_next even (λ q ts. cond (begins q) (one ts >>= λ x. several begins one n (found ++ x.0 ∷ []) (max depth x.1) x.2) (Ok (found, depth, ts)))
      (λ q ts. cond (begins q) (one' ts >>= λ x. several begins one' n (found ++ x.0 ∷ []) (max depth x.1) x.2) (Ok (found, depth, ts)))
      (λ q. steady_choose even (begins q) _ _ _ _
      (steady_bind even one one' (λ v d. several begins one n (found ++ v ∷ []) (max depth d)) (λ v d. several begins one' n (found ++ v ∷ []) (max depth d)) inside (λ v d. steady_several n (found ++ v ∷ []) (max depth d)))
      (steady_pure even found depth))

  pub steady_all : Eats one → Eats one' → Steady even (λ ts. all_of begins one ts) (λ ts. all_of begins one' ts)
  steady_all eats eats' =
      steady_turns even (λ ts. all_of begins one ts) (λ ts. all_of begins one' ts) (λ n. several begins one n [] 0) (λ n. several begins one' n [] 0)
      (λ ts n lt. several_turns begins one eats (length ts + 1) n [] 0 ts (omega arith) lt) (λ ts n lt. several_turns begins one' eats' (length ts + 1) n [] 0 ts (omega arith) lt) (λ n. steady_several n [] 0)

-- ---- things parted by commas

module _ {A : Type 0} (one : Reader A) (less : Leaves one) where
  parted_turns : (n m : ℕ) (found : List A) (depth : ℕ) (ts : List Token) → length ts < n → length ts < m → parted one n found depth ts ≡ parted one m found depth ts
  unfolding parted
  parted_turns zero m found depth ts p q = absurd (omega arith)
  parted_turns (suc n) zero found depth ts p q = absurd (omega arith)
  parted_turns (suc n) (suc m) found depth ts p q =
      same_answers (one ts) _ _ (λ x h. same_choice (sees t.Comma x.2) _ _ _ (λ comma.
      let le = less ts x h in
      let lt = drop_shorter t.Comma x.2 comma in
      parted_turns n m (found ++ x.0 ∷ []) (max depth x.1) (drop 1 x.2) (omega (arith, le, lt)) (omega (arith, le, lt))))

module _ {A : Type 0} (even : Type 0) (one one' : Reader A) (inside : Steady even one one') where
  steady_parted : (n : ℕ) (found : List A) (depth : ℕ) → Steady even (parted one n found depth) (parted one' n found depth)
  unfolding parted
  steady_parted zero found depth = steady_fail even
  steady_parted (suc n) found depth =
      steady_bind even one one'
      (λ v d us. cond (sees t.Comma us) (parted one n (found ++ v ∷ []) (max depth d) (drop 1 us)) (expect t.Close us >>= λ rest. Ok (found ++ v ∷ [], max depth d, rest)))
      (λ v d us. cond (sees t.Comma us) (parted one' n (found ++ v ∷ []) (max depth d) (drop 1 us)) (expect t.Close us >>= λ rest. Ok (found ++ v ∷ [], max depth d, rest)))
      inside
      (λ v d. steady_sees even t.Comma _ _ (steady_skip even _ _ (steady_parted n (found ++ v ∷ []) (max depth d))) _ _ (steady_expect even t.Close _ _ (steady_pure even (found ++ v ∷ []) (max depth d))))

  pub steady_list : Leaves one → Leaves one' → Steady even (λ ts. list_of one ts) (λ ts. list_of one' ts)
  steady_list less less' =
      steady_turns even (λ ts. list_of one ts) (λ ts. list_of one' ts) (λ n. parted one n [] 0) (λ n. parted one' n [] 0)
      (λ ts n lt. parted_turns one less (length ts + 1) n [] 0 ts (omega arith) lt) (λ ts n lt. parted_turns one' less' (length ts + 1) n [] 0 ts (omega arith) lt) (λ n. steady_parted n [] 0)
