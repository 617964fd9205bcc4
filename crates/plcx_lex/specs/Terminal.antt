-- What a token is in the grammar.
use Rattle.std.specs.Prelude.{ℕ, Bool, List, [], ◌∷◌, codes, if◌then◌else◌}
use Rattle.std.specs.Str.{bytes_eq, str_eq_ignore_ascii_case}
use Rattle.plcx_lex.specs.declared.token.TokenKind.{TokenKind}
use Rattle.plcx_lex.specs.declared.token.TokenKind.TheVariants as kind
use Rattle.plcx_lex.specs.declared.terminal.Terminal.{Terminal}
use Rattle.plcx_lex.specs.declared.terminal.Terminal.TheVariants as t
use Rattle.plcx_lex.specs.Token.{Token}

-- texts, and what each is in the grammar
abbrev pub Table : Type 0
Table = List (List ℕ × Terminal)

-- the keywords; the grammar has no use for some, and TRUE and FALSE are numbers
abbrev pub words : Table
words =
    (codes "PROGRAM", t.Program) ∷ (codes "END_PROGRAM", t.EndProgram) ∷ (codes "FUNCTION_BLOCK", t.FunctionBlock) ∷
    (codes "END_FUNCTION_BLOCK", t.EndFunctionBlock) ∷ (codes "FUNCTION", t.Other) ∷ (codes "END_FUNCTION", t.Other) ∷
    (codes "VAR", t.Var) ∷ (codes "VAR_INPUT", t.VarInput) ∷ (codes "VAR_OUTPUT", t.VarOutput) ∷ (codes "VAR_IN_OUT", t.VarInOut) ∷
    (codes "VAR_TEMP", t.VarTemp) ∷ (codes "VAR_EXTERNAL", t.Other) ∷ (codes "VAR_GLOBAL", t.Other) ∷ (codes "END_VAR", t.EndVar) ∷
    (codes "CONSTANT", t.Constant) ∷ (codes "RETAIN", t.Retain) ∷ (codes "AT", t.At) ∷ (codes "IF", t.If) ∷ (codes "THEN", t.Then) ∷
    (codes "ELSE", t.Other) ∷ (codes "ELSIF", t.Other) ∷ (codes "END_IF", t.EndIf) ∷ (codes "WHILE", t.While) ∷ (codes "DO", t.Do) ∷
    (codes "END_WHILE", t.EndWhile) ∷ (codes "CASE", t.Case) ∷ (codes "OF", t.Of) ∷ (codes "END_CASE", t.EndCase) ∷ (codes "FOR", t.Other) ∷
    (codes "TO", t.Other) ∷ (codes "BY", t.Other) ∷ (codes "END_FOR", t.Other) ∷ (codes "REPEAT", t.Other) ∷ (codes "UNTIL", t.Other) ∷
    (codes "END_REPEAT", t.Other) ∷ (codes "EXIT", t.Other) ∷ (codes "RETURN", t.Other) ∷ (codes "AND", t.And) ∷ (codes "OR", t.Or) ∷
    (codes "XOR", t.Xor) ∷ (codes "NOT", t.Not) ∷ (codes "MOD", t.Mod) ∷ (codes "TRUE", t.Number) ∷ (codes "FALSE", t.Number) ∷ []

-- the signs
abbrev pub signs : Table
signs =
    (codes ":=", t.Assign) ∷ (codes ":", t.Colon) ∷ (codes ";", t.Semicolon) ∷ (codes ",", t.Comma) ∷ (codes ".", t.Dot) ∷
    (codes "(", t.Open) ∷ (codes ")", t.Close) ∷ (codes "+", t.Plus) ∷ (codes "-", t.Minus) ∷ (codes "*", t.Times) ∷ (codes "/", t.Divide) ∷
    (codes "=", t.Equal) ∷ (codes "<>", t.NotEqual) ∷ (codes "<", t.Less) ∷ (codes ">", t.Greater) ∷ (codes "<=", t.LessOrEqual) ∷
    (codes ">=", t.GreaterOrEqual) ∷ []

-- what the table says of the text, by a test of texts
abbrev pub found : (List ℕ → List ℕ → Bool) → Table → List ℕ → Terminal
found test [] text = t.Other
found test (e ∷ es) text = if test text e.0 then e.1 else found test es text

-- words are told without the case of their letters
abbrev pub terminal_of : TokenKind → List ℕ → Terminal
terminal_of kind.Keyword text = found str_eq_ignore_ascii_case words text
terminal_of kind.Sign text = found bytes_eq signs text
terminal_of kind.Name text = t.Name
terminal_of kind.Number text = t.Number
terminal_of kind.Digits text = t.Digits
terminal_of kind.Address text = t.Address

-- what a token is in the grammar
unfoldable pub terminal : Token → Terminal
terminal w = terminal_of w.kind w.text

-- the kind of the tokens that are this
abbrev pub kind_of : Terminal → TokenKind
kind_of t.Name = kind.Name
kind_of t.Number = kind.Number
kind_of t.Digits = kind.Digits
kind_of t.Address = kind.Address
kind_of t.Assign = kind.Sign
kind_of t.Colon = kind.Sign
kind_of t.Semicolon = kind.Sign
kind_of t.Comma = kind.Sign
kind_of t.Dot = kind.Sign
kind_of t.Open = kind.Sign
kind_of t.Close = kind.Sign
kind_of t.Plus = kind.Sign
kind_of t.Minus = kind.Sign
kind_of t.Times = kind.Sign
kind_of t.Divide = kind.Sign
kind_of t.Equal = kind.Sign
kind_of t.NotEqual = kind.Sign
kind_of t.Less = kind.Sign
kind_of t.Greater = kind.Sign
kind_of t.LessOrEqual = kind.Sign
kind_of t.GreaterOrEqual = kind.Sign
kind_of _ = kind.Keyword
