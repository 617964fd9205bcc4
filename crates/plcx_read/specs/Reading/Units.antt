-- Declarations and units.
use Rattle.std.specs.Prelude.{ℕ, zero, suc, ◌+◌, map, Bool, true, false, List, [], ◌∷◌, length, drop, Option, Some, None, Result, Ok, Err, ◌==◌, if◌then◌else◌}
use Rattle.std.specs.Char.{to_ascii_uppercase}
use Rattle.plcx_lex.specs.Token.{Token}
use Rattle.plcx_lex.specs.declared.terminal.Terminal.{Terminal}
use Rattle.plcx_lex.specs.declared.terminal.Terminal.TheVariants as t
use Rattle.plcx_lex.specs.Terminal.{terminal}
use Rattle.plcx_st.specs.Grammar.{ending}
use Rattle.plcx_st.specs.declared.tree.Number.{Number}
use Rattle.plcx_st.specs.declared.tree.TextKind.{TextKind}
use Rattle.plcx_st.specs.declared.tree.TextKind.TheVariants as kind
use Rattle.plcx_st.specs.declared.tree.TextClass.{TextClass}
use Rattle.plcx_st.specs.declared.tree.TextClass.TheVariants as class
use Rattle.plcx_st.specs.declared.tree.Mark.{Mark}
use Rattle.plcx_st.specs.declared.tree.Mark.TheVariants as mark
use Rattle.plcx_st.specs.declared.tree.Decl.{Decl}
use Rattle.plcx_st.specs.declared.tree.TextBlock.{TextBlock}
use Rattle.plcx_st.specs.declared.tree.PouText.{PouText}
use Rattle.plcx_read.specs.Reading.Tokens.{syntax, too_deep, Stop, ◌>>=◌, Read, Out, same, next, sees, expect, name_at, literal_at, all_of}
use Rattle.plcx_read.specs.Reading.Stmts.{statements}

-- ---- declarations

unfoldable pub address_token : List Token → Out (Option (List ℕ))
address_token [] = Err (syntax, [])
address_token (x ∷ xs) = if same (terminal x) t.Address then Ok (Some (map to_ascii_uppercase x.text), 0, xs) else Err (syntax, x ∷ xs)

unfoldable pub address_at : List Token → Out (Option (List ℕ))
address_at ts = if sees t.At ts then address_token (drop 1 ts) else Ok (None, 0, ts)

unfoldable pub initial_at : List Token → Out (Option Number)
initial_at ts = if sees t.Assign ts then (do
  v ← literal_at (drop 1 ts)
  Ok (Some v.0, 0, v.2)) else Ok (None, 0, ts)

unfoldable pub decl : List Token → Out Decl
decl ts = do
  w ← name_at ts
  place ← address_at w.2
  behind ← expect t.Colon place.2
  y ← name_at behind
  start ← initial_at y.2
  rest ← expect t.Semicolon start.2
  Ok (record { name = w.0; address = place.0; ty = y.0; initial = start.0 }, 0, rest)

unfoldable pub bare_decl : List Token → Out Decl
bare_decl ts = do
  w ← name_at ts
  behind ← expect t.Colon w.2
  y ← name_at behind
  rest ← expect t.Semicolon y.2
  Ok (record { name = w.0; address = None; ty = y.0; initial = None }, 0, rest)

abbrev pub begins_decl : Terminal → Bool
begins_decl t.Name = true
begins_decl _ = false

abbrev pub mark_by : Terminal → List Token → Read Mark
mark_by t.Constant ts = (mark.Constant, 0, drop 1 ts)
mark_by t.Retain ts = (mark.Retain, 0, drop 1 ts)
mark_by _ ts = (mark.Plain, 0, ts)

abbrev pub mark_at : List Token → Read Mark
mark_at ts = mark_by (next ts) ts

-- the declarations of a block, and its end
unfoldable pub block_of : (List Token → Out Decl) → TextClass → Mark → List Token → Out TextBlock
block_of one c m ts = do
  ds ← all_of begins_decl one ts
  rest ← expect t.EndVar ds.2
  Ok (record { class = c; mark = m; decls = ds.0 }, 0, rest)

abbrev pub marked_block : TextClass → List Token → Out TextBlock
marked_block c ts = block_of decl c (mark_at ts).0 (mark_at ts).2

-- by its first word, behind which these tokens stand
abbrev pub block_by : Terminal → Token → List Token → Out TextBlock
block_by t.Var h ts = marked_block class.Var ts
block_by t.VarInput h ts = marked_block class.Input ts
block_by t.VarOutput h ts = marked_block class.Output ts
block_by t.VarTemp h ts = block_of decl class.Temp mark.Plain ts
block_by t.VarInOut h ts = block_of bare_decl class.InOut mark.Plain ts
block_by _ h ts = Err (syntax, h ∷ ts)

unfoldable pub block : List Token → Out TextBlock
block [] = Err (syntax, [])
block (h ∷ ts) = block_by (terminal h) h ts

abbrev pub begins_block : Terminal → Bool
begins_block t.Var = true
begins_block t.VarInput = true
begins_block t.VarOutput = true
begins_block t.VarTemp = true
begins_block t.VarInOut = true
begins_block _ = false

-- ---- units

-- the statements inside have the allowance b; at the heading
unfoldable pub pou_of : ℕ → TextKind → List Token → Out PouText
pou_of b k ts = do
  w ← name_at (drop 1 ts)
  bs ← all_of begins_block block w.2
  ss ← statements b bs.2
  rest ← expect (ending k) ss.2
  Ok (record { kind = k; name = w.0; blocks = bs.0; body = ss.0 }, ss.1 + 1, rest)

abbrev pub pou_by : ℕ → Terminal → Token → List Token → Out PouText
pou_by b t.Program h ts = pou_of b kind.Program (h ∷ ts)
pou_by b t.FunctionBlock h ts = pou_of b kind.FunctionBlock (h ∷ ts)
pou_by b _ h ts = Err (syntax, h ∷ ts)

abbrev pub begins_pou : Terminal → Bool
begins_pou t.Program = true
begins_pou t.FunctionBlock = true
begins_pou _ = false

-- of depth at most the number
unfoldable pub pou : ℕ → List Token → Out PouText
pou zero ts = Err (too_deep, ts)
pou (suc b) [] = Err (syntax, [])
pou (suc b) (h ∷ ts) = pou_by b (terminal h) h ts

-- all of the tokens
unfoldable pub pous : ℕ → List Token → Result (List PouText) Stop
pous bound ts = do
  ps ← all_of begins_pou (pou bound) ts
  if length ps.2 == 0 then Ok ps.0 else Err (syntax, ps.2)
