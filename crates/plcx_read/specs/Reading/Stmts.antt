-- Statements.
use Rattle.std.specs.Prelude.{ℕ, zero, suc, ◌+◌, max, Bool, true, false, List, [], ◌∷◌, drop, Result, Ok, Err, if◌then◌else◌}
use Rattle.plcx_lex.specs.Token.{Token}
use Rattle.plcx_lex.specs.declared.terminal.Terminal.{Terminal}
use Rattle.plcx_lex.specs.declared.terminal.Terminal.TheVariants as t
use Rattle.plcx_lex.specs.Terminal.{terminal}
use Rattle.plcx_st.specs.Grammar.{word, label}
use Rattle.plcx_st.specs.declared.tree.Expr.{Expr}
use Rattle.plcx_st.specs.declared.tree.Arg.{Arg}
use Rattle.plcx_st.specs.declared.tree.Arm.{Arm}
use Rattle.plcx_st.specs.declared.tree.Stmt.{Stmt}
use Rattle.plcx_st.specs.declared.tree.Stmt.TheVariants as s
use Rattle.plcx_read.specs.Reading.Tokens.{syntax, too_deep, Stop, ◌>>=◌, ◌>>◌, Out, same, next, sees, expect, room, room_told, all_of, list_of}
use Rattle.plcx_read.specs.Reading.Exprs.{expr}

abbrev pub begins_stmt : Terminal → Bool
begins_stmt t.Name = true
begins_stmt t.If = true
begins_stmt t.While = true
begins_stmt t.Case = true
begins_stmt _ = false

abbrev pub is_digits : Terminal → Bool
is_digits t.Digits = true
is_digits _ = false

-- `END_.. ;`
unfoldable pub closed : Terminal → List Token → Result (List Token) Stop
closed q ts = do
  rest ← expect q ts
  expect t.Semicolon rest

-- a label and its statements, which are read by inner
unfoldable pub arm : (List Token → Out (List Stmt)) → List Token → Out Arm
arm inner [] = Err (syntax, [])
arm inner (l ∷ ts) = if same (terminal l) t.Digits then (do
  rest ← expect t.Colon ts
  ss ← inner rest
  Ok (record { label = label l; span = l.span; body = ss.0 }, ss.1, ss.2)) else Err (syntax, l ∷ ts)

-- the parts inside have the allowance b
module _ (b : ℕ) where
  -- behind the name, at the sign
  unfoldable pub assigned : Token → List Token → Out Stmt
  assigned w ts = do
    room_told b w ts
    x ← expr b 0 (drop 1 ts)
    rest ← expect t.Semicolon x.2
    Ok (s.Assign (word w) x.0, x.1 + 1, rest)

  unfoldable pub argument : List Token → Out Arg
  argument [] = Err (syntax, [])
  argument (x ∷ xs) = if same (terminal x) t.Name then (do
    room b (x ∷ xs)
    rest ← expect t.Assign xs
    v ← expr b 0 rest
    Ok (record { formal = word x; value = v.0 }, v.1, v.2)) else Err (syntax, x ∷ xs)

  -- behind the bracket
  unfoldable pub called_with : Token → List Token → Out Stmt
  called_with w ts = do
    xs ← list_of argument ts
    rest ← expect t.Semicolon xs.2
    Ok (s.Call (word w) xs.0, xs.1 + 1, rest)

  unfoldable pub called_bare : Token → List Token → Out Stmt
  called_bare w ts = do
    rest ← expect t.Semicolon (drop 1 ts)
    Ok (s.Call (word w) [], 1, rest)

  abbrev pub called : Token → List Token → Out Stmt
  called w ts = if sees t.Close ts then called_bare w ts else called_with w ts

  -- by what stands behind the name
  abbrev pub named_stmt_by : Terminal → Token → List Token → Out Stmt
  named_stmt_by t.Assign w ts = assigned w ts
  named_stmt_by t.Open w ts = called w (drop 1 ts)
  named_stmt_by _ w ts = Err (syntax, ts)

  -- the word, an expression, and the word behind it
  unfoldable pub head : Terminal → List Token → Out Expr
  head q ts = do
    room b ts
    x ← expr b 0 (drop 1 ts)
    rest ← expect q x.2
    Ok (x.0, x.1, rest)

  module _ (inner : List Token → Out (List Stmt)) where
    unfoldable pub conditional : List Token → Out Stmt
    conditional ts = do
      x ← head t.Then ts
      ss ← inner x.2
      rest ← closed t.EndIf ss.2
      Ok (s.If x.0 ss.0, max x.1 ss.1 + 1, rest)

    unfoldable pub repeated : List Token → Out Stmt
    repeated ts = do
      x ← head t.Do ts
      ss ← inner x.2
      rest ← closed t.EndWhile ss.2
      Ok (s.While x.0 ss.0, max x.1 ss.1 + 1, rest)

    unfoldable pub selected : List Token → Out Stmt
    selected ts = do
      x ← head t.Of ts
      arms ← all_of is_digits (arm inner) x.2
      rest ← closed t.EndCase arms.2
      Ok (s.Case x.0 arms.0, max x.1 arms.1 + 1, rest)

    abbrev pub statement_by : Terminal → Token → List Token → Out Stmt
    statement_by t.Name x xs = named_stmt_by (next xs) x xs
    statement_by t.If x xs = conditional (x ∷ xs)
    statement_by t.While x xs = repeated (x ∷ xs)
    statement_by t.Case x xs = selected (x ∷ xs)
    statement_by _ x xs = Err (syntax, x ∷ xs)

    unfoldable pub statement_of : List Token → Out Stmt
    statement_of [] = Err (syntax, [])
    statement_of (x ∷ xs) = statement_by (terminal x) x xs

-- of depth at most the number
unfoldable pub statement : ℕ → List Token → Out Stmt
statement zero ts = Err (too_deep, ts)
statement (suc b) ts = statement_of b (all_of begins_stmt (statement b)) ts

abbrev pub statements : ℕ → List Token → Out (List Stmt)
statements b ts = all_of begins_stmt (statement b) ts
