-- When each error of `read` comes.
use Rattle.std.specs.Prelude.{◌≡◌, ◌++◌, ℕ, List, length, Result, Ok, Err, ⊤}
use Rattle.plcx_lex.specs.Token.{Token}
use Rattle.plcx_lex.specs.Lexis.{AreTextTokens, IsLexPlace}
use Rattle.plcx_lex.specs.declared.error.TextError.{TextError}
use Rattle.plcx_lex.specs.declared.error.TextError.TheVariants as text
use Rattle.plcx_st.specs.declared.tree.Unit as tree
use Rattle.plcx_st.specs.Grammar.{limit}
use Rattle.plcx_st.specs.Place.{Fault, Syntax, TooDeep, IsPlace, start_of}

-- The bytes are tokens with a fault in them, at the token that begins at this byte, or at the end of the text.
abbrev pub IsFaultAt : List ℕ → Fault → ℕ → Type 0
IsFaultAt bytes f at = (before : List Token) × (rest : List Token) × AreTextTokens bytes (before ++ rest) × IsPlace limit before rest f × (at ≡ start_of rest (length bytes))

abbrev pub ReadFails : List ℕ → TextError → Type 0
ReadFails bytes (text.Lex at) = IsLexPlace bytes at
ReadFails bytes (text.Syntax at) = IsFaultAt bytes Syntax at
ReadFails bytes (text.TooDeep at) = IsFaultAt bytes TooDeep at
ReadFails bytes text.NoMemory = ⊤

-- the unit was read, or memory ran out
abbrev pub IsRead : Result tree.Unit TextError → tree.Unit → Type 0
IsRead (Ok u) v = u ≡ v
IsRead (Err text.NoMemory) v = ⊤
IsRead (Err _) v = ⊥
