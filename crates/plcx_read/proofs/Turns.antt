-- One turn of each loop of the reader.
use Rattle.std.proofs.Common.{◌≡◌, ℕ, suc, ◌-◌, ◌+◌, ◌≤◌, ◌<◌, Bool, true, false, max, ltb, List, [], ◌∷◌, ◌++◌, drop, Some, Result, Ok, Err, refl, arith}
use Rattle.std.proofs.lemmas.Bool.{le-ltb}
use Rattle.plcx_lex.specs.Token.{Token}
use Rattle.plcx_lex.specs.declared.terminal.Terminal.{Terminal}
use Rattle.plcx_lex.specs.declared.terminal.Terminal.TheVariants as t
use Rattle.plcx_st.specs.declared.tree.Op.{Op}
use Rattle.plcx_st.specs.declared.tree.Expr.{Expr}
use Rattle.plcx_st.specs.declared.tree.Expr.TheVariants as e
use Rattle.plcx_st.specs.Grammar.{level}
use Rattle.plcx_lex.specs.declared.error.TextError.{TextError}
use Rattle.plcx_lex.specs.declared.error.TextError.TheVariants as text
use Rattle.plcx_read.specs.Gives.{Fails}
use Rattle.plcx_read.specs.Reading.{Stop, Out, ◌>>=◌, sees, next, expect, parted, several, climb, next_operator}

onward_fails : {A B : Type 0} (end' : ℕ) (e : TextError) (p : Result A Stop) (q : A → Result B Stop) → Fails end' e p → Fails end' e (p >>= q)
onward_fails end' text.NoMemory p q h = tt
onward_fails end' (text.Lex at) (Ok x) q h = absurd h
onward_fails end' (text.Lex at) (Err f) q h = h
onward_fails end' (text.Syntax at) (Ok x) q h = absurd h
onward_fails end' (text.Syntax at) (Err f) q h = h
onward_fails end' (text.TooDeep at) (Ok x) q h = absurd h
onward_fails end' (text.TooDeep at) (Err f) q h = h

module _ {A : Type 0} (one : List Token → Out A) where
  pub parted_turn : (n i : ℕ) (found : List A) (depth : ℕ) (ts : List Token) (x : A) (d : ℕ) (after : List Token) → i < n → one ts ≡ Ok (x, d, after) → sees t.Comma after ≡ true
      → parted one (n - i) found depth ts ≡ parted one (n - (i + 1)) (found ++ x ∷ []) (max depth d) (drop 1 after)
  unfolding parted
  parted_turn n i found depth ts x d after lt h comma =
      let s : n - i ≡ suc (n - (i + 1)) = omega arith in
      rw (s, h, comma) refl

  pub several_turn : (begins : Terminal → Bool) (n i : ℕ) (found : List A) (depth : ℕ) (ts : List Token) (x : A) (d : ℕ) (after : List Token) → i < n → begins (next ts) ≡ true → one ts ≡ Ok (x, d, after)
      → several begins one (n - i) found depth ts ≡ several begins one (n - (i + 1)) (found ++ x ∷ []) (max depth d) after
  unfolding several
  several_turn begins n i found depth ts x d after lt more h =
      let s : n - i ≡ suc (n - (i + 1)) = omega arith in
      rw (s, more, h) refl

  pub several_ends : (begins : Terminal → Bool) (n i : ℕ) (found : List A) (depth : ℕ) (ts : List Token) → i < n → begins (next ts) ≡ false → several begins one (n - i) found depth ts ≡ Ok (found, depth, ts)
  unfolding several
  several_ends begins n i found depth ts lt stop =
      let s : n - i ≡ suc (n - (i + 1)) = omega arith in
      rw (s, stop) refl

  pub several_fails : (begins : Terminal → Bool) (n i : ℕ) (found : List A) (depth : ℕ) (ts : List Token) (end' : ℕ) (f : TextError) → i < n → begins (next ts) ≡ true → Fails end' f (one ts) → Fails end' f (several begins one (n - i) found depth ts)
  unfolding several
  several_fails begins n i found depth ts end' f lt more h =
      let s : n - i ≡ suc (n - (i + 1)) = omega arith in
      rw (s, more) (onward_fails end' f (one ts) _ h)

  pub parted_fails : (n i : ℕ) (found : List A) (depth : ℕ) (ts : List Token) (end' : ℕ) (f : TextError) → i < n → Fails end' f (one ts) → Fails end' f (parted one (n - i) found depth ts)
  unfolding parted
  parted_fails n i found depth ts end' f lt h =
      let s : n - i ≡ suc (n - (i + 1)) = omega arith in
      rw s (onward_fails end' f (one ts) _ h)

  -- neither a comma nor the bracket stands behind the last
  pub parted_open : (n i : ℕ) (found : List A) (depth : ℕ) (ts : List Token) (x : A) (d : ℕ) (after : List Token) (end' : ℕ) (f : TextError) → i < n → one ts ≡ Ok (x, d, after) → sees t.Comma after ≡ false → Fails end' f (expect t.Close after)
      → Fails end' f (parted one (n - i) found depth ts)
  unfolding parted
  parted_open n i found depth ts x d after end' f lt h no_comma bad =
      let s : n - i ≡ suc (n - (i + 1)) = omega arith in
      rw (s, h, no_comma) (onward_fails end' f (expect t.Close after) _ bad)

  pub parted_ends : (n i : ℕ) (found : List A) (depth : ℕ) (ts : List Token) (x : A) (d : ℕ) (after rest : List Token) → i < n → one ts ≡ Ok (x, d, after) → sees t.Comma after ≡ false → expect t.Close after ≡ Ok rest
      → parted one (n - i) found depth ts ≡ Ok (found ++ x ∷ [], max depth d, rest)
  unfolding parted
  parted_ends n i found depth ts x d after rest lt h no_comma close =
      let s : n - i ≡ suc (n - (i + 1)) = omega arith in
      rw (s, h, no_comma, close) refl

module _ (a : ℕ) (inner : ℕ → List Token → Out Expr) where
  pub climb_turn : (n i least : ℕ) (left : Expr) (depth : ℕ) (ts : List Token) (o : Op) (x : Expr) (d : ℕ) (after : List Token) → i < n → next_operator least ts ≡ Some o → depth ≤ a → inner (level o + 1) (drop 1 ts) ≡ Ok (x, d, after)
      → climb a inner (n - i) least left depth ts ≡ climb a inner (n - (i + 1)) least (e.Binary o left x) (max depth d + 1) after
  unfolding climb
  climb_turn n i least left depth ts o x d after lt found room h =
      let s : n - i ≡ suc (n - (i + 1)) = omega arith in
      let fits : ltb a depth ≡ false = le-ltb _ _ room in
      rw (s, found, fits, h) refl

  pub climb_fails : (n i least : ℕ) (left : Expr) (depth : ℕ) (ts : List Token) (o : Op) (end' : ℕ) (f : TextError) → i < n → next_operator least ts ≡ Some o → depth ≤ a → Fails end' f (inner (level o + 1) (drop 1 ts))
      → Fails end' f (climb a inner (n - i) least left depth ts)
  unfolding climb
  climb_fails n i least left depth ts o end' f lt found room h =
      let s : n - i ≡ suc (n - (i + 1)) = omega arith in
      let fits : ltb a depth ≡ false = le-ltb _ _ room in
      rw (s, found, fits) (onward_fails end' f (inner (level o + 1) (drop 1 ts)) _ h)
