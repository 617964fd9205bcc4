-- Expressions.
use Rattle.std.specs.Prelude.{ℕ, zero, suc, ◌+◌, max, List, [], ◌∷◌, drop, Option, Some, None, Ok, Err, nat_lt, if◌then◌else◌}
use Rattle.plcx_lex.specs.Token.{Token}
use Rattle.plcx_lex.specs.declared.terminal.Terminal.{Terminal}
use Rattle.plcx_lex.specs.declared.terminal.Terminal.TheVariants as t
use Rattle.plcx_lex.specs.Terminal.{terminal}
use Rattle.plcx_st.specs.Grammar.{word, operator, level}
use Rattle.plcx_st.specs.Binding.{tightest}
use Rattle.plcx_st.specs.declared.tree.Op.{Op}
use Rattle.plcx_st.specs.declared.tree.Expr.{Expr}
use Rattle.plcx_st.specs.declared.tree.Expr.TheVariants as e
use Rattle.plcx_read.specs.Reading.Tokens.{syntax, too_deep, ◌>>=◌, ◌>>◌, Out, next, expect, name_at, literal_at, room, room_told, list_of}

-- the operator, where it binds no looser than least
abbrev pub binding : ℕ → Option Op → Option Op
binding least None = None
binding least (Some o) = if nat_lt (level o) least then None else Some o

abbrev pub next_operator : ℕ → List Token → Option Op
next_operator least ts = binding least (operator (next ts))

abbrev pub with_operator : {A : Type 0} → Option Op → A → (Op → A) → A
with_operator None stop go = stop
with_operator (Some o) stop go = go o

-- behind the name, at the point
unfoldable pub member : Token → List Token → Out Expr
member w ts = do
  o ← name_at (drop 1 ts)
  Ok (e.Member (word w) o.0, 1, o.2)

unfoldable pub valued : List Token → Out Expr
valued ts = do
  v ← literal_at ts
  Ok (e.Number v.0, 1, v.2)

-- the expressions inside have the allowance a, and are read by inner
module _ (a : ℕ) (inner : ℕ → List Token → Out Expr) where
  -- behind the name, at the bracket
  unfoldable pub call : Token → List Token → Out Expr
  call w ts = do
    room_told a w ts
    xs ← list_of (inner 0) (drop 1 ts)
    Ok (e.Call (word w) xs.0, xs.1 + 1, xs.2)

  unfoldable pub bracketed : List Token → Out Expr
  bracketed ts = do
    room a ts
    x ← inner 0 (drop 1 ts)
    rest ← expect t.Close x.2
    Ok (x.0, x.1 + 1, rest)

  unfoldable pub negated : Token → List Token → Out Expr
  negated w ts = do
    room a ts
    x ← inner tightest (drop 1 ts)
    Ok (e.Not x.0 w.span, x.1 + 1, x.2)

  -- by what stands behind the name
  abbrev pub named_by : Terminal → Token → List Token → Out Expr
  named_by t.Open w ts = call w ts
  named_by t.Dot w ts = member w ts
  named_by _ w ts = Ok (e.Name (word w), 1, ts)

  -- by the first token, behind which these stand
  abbrev pub operand_by : Terminal → Token → List Token → Out Expr
  operand_by t.Name x xs = named_by (next xs) x xs
  operand_by t.Number x xs = valued (x ∷ xs)
  operand_by t.Open x xs = bracketed (x ∷ xs)
  operand_by t.Not x xs = negated x (x ∷ xs)
  operand_by _ x xs = Err (syntax, x ∷ xs)

  unfoldable pub operand : List Token → Out Expr
  operand [] = Err (syntax, [])
  operand (x ∷ xs) = operand_by (terminal x) x xs

  -- goes on behind an expression with operators that bind no looser than least
  unfoldable pub climb : ℕ → ℕ → Expr → ℕ → List Token → Out Expr
  climb zero least left depth ts = with_operator (next_operator least ts) (Ok (left, depth, ts)) (λ o. Err (too_deep, ts))
  climb (suc n) least left depth ts =
      with_operator (next_operator least ts) (Ok (left, depth, ts)) (λ o.
      if nat_lt a depth then Err (too_deep, ts) else (do
        x ← inner (level o + 1) (drop 1 ts)
        climb n least (e.Binary o left x.0) (max depth x.1 + 1) x.2))

  unfoldable pub level_of : ℕ → List Token → Out Expr
  level_of least ts = do
    x ← operand ts
    climb (a + 1) least x.0 x.1 x.2

-- of depth at most the first number, with operators that bind no looser than the second
unfoldable pub expr : ℕ → ℕ → List Token → Out Expr
expr zero least ts = Err (too_deep, ts)
expr (suc a) least ts = level_of a (expr a) least ts
