-- Single tokens and loops: what is read where the grammar has it.
use Rattle.std.proofs.Common.{◌≡◌, ℕ, suc, Bool, true, false, max, List, [], ◌∷◌, ◌++◌, Ok, refl, ap, ◌∙◌}
use Rattle.plcx_lex.specs.Token.{Token}
use Rattle.plcx_lex.specs.declared.terminal.Terminal.{Terminal}
use Rattle.plcx_lex.specs.declared.terminal.Terminal.TheVariants as t
use Rattle.plcx_lex.specs.Terminal.{terminal}
use Rattle.plcx_st.specs.Grammar.{word}
use Rattle.plcx_read.specs.Reading.{Out, next, sees, same, expect, name_at, parted, several}

pub same_refl : (q : Terminal) → same q q ≡ true
unfolding same
same_refl t.Program = refl
same_refl _ = refl

pub sees_it : (q : Terminal) (x : Token) (ts : List Token) → terminal x ≡ q → sees q (x ∷ ts) ≡ true
sees_it q x ts is = ap (λ r. same r q) is ∙ same_refl q

pub expects : (q : Terminal) (x : Token) (ts : List Token) → terminal x ≡ q → expect q (x ∷ ts) ≡ Ok ts
unfolding expect
expects q x ts is = let it : same (terminal x) q ≡ true = sees_it q x ts is in rw it refl

pub reads_word : (x : Token) (ts : List Token) → terminal x ≡ t.Name → name_at (x ∷ ts) ≡ Ok (word x, 0, ts)
unfolding name_at
reads_word x ts is = let it : same (terminal x) t.Name ≡ true = sees_it t.Name x ts is in rw it refl

-- another terminal is not seen
pub sees_not : (q r : Terminal) (x : Token) (ts : List Token) → terminal x ≡ r → same r q ≡ false → sees q (x ∷ ts) ≡ false
sees_not q r x ts is other = ap (λ p. same p q) is ∙ other

close_comma : same t.Close t.Comma ≡ false
unfolding same
close_comma = refl

module _ {A : Type 0} (one : List Token → Out A) where
  pub parted_last : (n : ℕ) (found : List A) (depth : ℕ) (ts : List Token) (x : A) (d : ℕ) (c : Token) (rest : List Token) → terminal c ≡ t.Close → one ts ≡ Ok (x, d, c ∷ rest)
      → parted one (suc n) found depth ts ≡ Ok (found ++ x ∷ [], max depth d, rest)
  unfolding parted
  parted_last n found depth ts x d c rest closes h =
      let other : same (terminal c) t.Comma ≡ false = sees_not t.Comma t.Close c rest closes close_comma in
      rw (h, other, expects t.Close c rest closes) refl

  pub parted_more : (n : ℕ) (found : List A) (depth : ℕ) (ts : List Token) (x : A) (d : ℕ) (c : Token) (rest : List Token) → terminal c ≡ t.Comma → one ts ≡ Ok (x, d, c ∷ rest)
      → parted one (suc n) found depth ts ≡ parted one n (found ++ x ∷ []) (max depth d) rest
  unfolding parted
  parted_more n found depth ts x d c rest is h =
      let comma : same (terminal c) t.Comma ≡ true = sees_it t.Comma c rest is in
      rw (h, comma) refl

  pub several_stops : (begins : Terminal → Bool) (n : ℕ) (found : List A) (depth : ℕ) (ts : List Token) → begins (next ts) ≡ false → several begins one (suc n) found depth ts ≡ Ok (found, depth, ts)
  unfolding several
  several_stops begins n found depth ts stop = rw stop refl

  pub several_goes : (begins : Terminal → Bool) (n : ℕ) (found : List A) (depth : ℕ) (ts : List Token) (x : A) (d : ℕ) (rest : List Token) → begins (next ts) ≡ true → one ts ≡ Ok (x, d, rest)
      → several begins one (suc n) found depth ts ≡ several begins one n (found ++ x ∷ []) (max depth d) rest
  unfolding several
  several_goes begins n found depth ts x d rest more h = rw (more, h) refl
