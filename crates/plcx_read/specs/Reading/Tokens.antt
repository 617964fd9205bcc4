-- Single tokens, and lists of things.
use Rattle.std.specs.Prelude.{ℕ, ℤ, zero, suc, ◌+◌, max, Bool, false, List, [], ◌∷◌, ◌++◌, length, drop, Option, Some, None, Result, Ok, Err, if◌then◌else◌}
use denote.Enum.Bare.{sameb}
use Rattle.plcx_types.specs.declared.ty.Ty.{Ty}
use Rattle.plcx_lex.specs.Token.{Token}
use Rattle.plcx_lex.specs.ReadNumber.{literal_of}
use Rattle.plcx_lex.specs.contracts.terminal.Terminal.{the_type}
use Rattle.plcx_lex.specs.declared.terminal.Terminal.{Terminal}
use Rattle.plcx_lex.specs.declared.terminal.Terminal.TheVariants as t
use Rattle.plcx_lex.specs.Terminal.{terminal}
use Rattle.plcx_st.specs.Grammar.{word, number}
use Rattle.plcx_st.specs.declared.tree.Word.{Word}
use Rattle.plcx_st.specs.declared.tree.Number.{Number}

-- why reading stops: the token does not go on, or it would only with a larger allowance; or the sign behind this name would
pub data Cause : Type 0 where
  syntax too_deep : Cause
  told_too_deep : Token → Cause

-- and the tokens that are left there, from the one that does not go on
abbrev pub Stop : Type 0
Stop = Cause × List Token

infixl 10 ◌>>=◌
abbrev pub ◌>>=◌ : {A B : Type 0} → Result A Stop → (A → Result B Stop) → Result B Stop
(Ok x) >>= f = f x
(Err f) >>= g = Err f

infixl 10 ◌>>◌
abbrev pub ◌>>◌ : {A B : Type 0} → Result A Stop → Result B Stop → Result B Stop
r >> s = r >>= λ _. s

abbrev pub Read : Type 0 → Type 0
Read A = A × ℕ × List Token

abbrev pub Out : Type 0 → Type 0
Out A = Result (Read A) Stop

-- ---- single tokens

unfoldable pub same : Terminal → Terminal → Bool
same = sameb the_type

-- what the next token is
abbrev pub next : List Token → Terminal
next [] = t.Other
next (x ∷ xs) = terminal x

abbrev pub sees : Terminal → List Token → Bool
sees q [] = false
sees q (x ∷ xs) = same (terminal x) q

-- the tokens behind the first, which is this terminal
unfoldable pub expect : Terminal → List Token → Result (List Token) Stop
expect q [] = Err (syntax, [])
expect q (x ∷ xs) = if same (terminal x) q then Ok xs else Err (syntax, x ∷ xs)

unfoldable pub name_at : List Token → Out Word
name_at [] = Err (syntax, [])
name_at (x ∷ xs) = if same (terminal x) t.Name then Ok (word x, 0, xs) else Err (syntax, x ∷ xs)

abbrev pub with_literal : Option (Ty × ℤ) → Token → List Token → Out Number
with_literal None x xs = Err (syntax, x ∷ xs)
with_literal (Some v) x xs = Ok (number x v.0 v.1, 0, xs)

unfoldable pub literal_at : List Token → Out Number
literal_at [] = Err (syntax, [])
literal_at (x ∷ xs) = if same (terminal x) t.Number then with_literal (literal_of x.text) x xs else Err (syntax, x ∷ xs)

-- there is room for an expression or a statement, or the first token does not go on
unfoldable pub room : ℕ → List Token → Result (Unit {0}) Stop
room zero ts = Err (too_deep, ts)
room (suc a) ts = Ok tt

-- the same at the sign behind the name
unfoldable pub room_told : ℕ → Token → List Token → Result (Unit {0}) Stop
room_told zero w ts = Err (told_too_deep w, ts)
room_told (suc a) w ts = Ok tt

-- ---- lists

-- things that begin so, one after another
unfoldable pub several : {A : Type 0} → (Terminal → Bool) → (List Token → Out A) → ℕ → List A → ℕ → List Token → Out (List A)
several begins one zero found depth ts = Err (syntax, ts)
several begins one (suc n) found depth ts =
    if begins (next ts) then (do
      x ← one ts
      several begins one n (found ++ x.0 ∷ []) (max depth x.1) x.2) else Ok (found, depth, ts)

abbrev pub all_of : {A : Type 0} → (Terminal → Bool) → (List Token → Out A) → List Token → Out (List A)
all_of begins one ts = several begins one (length ts + 1) [] 0 ts

-- one thing or more, parted by commas and ended by a bracket
unfoldable pub parted : {A : Type 0} → (List Token → Out A) → ℕ → List A → ℕ → List Token → Out (List A)
parted one zero found depth ts = Err (syntax, ts)
parted one (suc n) found depth ts = do
  x ← one ts
  if sees t.Comma x.2 then parted one n (found ++ x.0 ∷ []) (max depth x.1) (drop 1 x.2) else (do
    rest ← expect t.Close x.2
    Ok (found ++ x.0 ∷ [], max depth x.1, rest))

abbrev pub list_of : {A : Type 0} → (List Token → Out A) → List Token → Out (List A)
list_of one ts = parted one (length ts + 1) [] 0 ts
