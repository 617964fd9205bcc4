-- When each error of `tokens` comes.
use Rattle.std.specs.Prelude.{ℕ, List, ⊤}
use Rattle.plcx_lex.specs.Lexis.{IsLexPlace}
use Rattle.plcx_lex.specs.declared.error.TextError.{TextError}
use Rattle.plcx_lex.specs.declared.error.TextError.TheVariants.{Lex, Syntax, TooDeep, NoMemory}

-- an error of `tokens` has its cause: no token begins at that offset, or memory ran out
abbrev pub LexFails : List ℕ → TextError → Type 0
LexFails bytes (Lex at) = IsLexPlace bytes at
LexFails bytes (Syntax at) = ⊥
LexFails bytes (TooDeep at) = ⊥
LexFails bytes NoMemory = ⊤
