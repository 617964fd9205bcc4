-- A token of a text, as the grammar sees it.
use Rattle.std.specs.Prelude.{ℕ, List}
use Rattle.plcx_types.specs.declared.span.Span.{Span}
use Rattle.plcx_lex.specs.declared.token.TokenKind.{TokenKind}

-- a token with its kind, its text and its place
pub record Token : Type 0 where
  pub kind : TokenKind
  -- as it is spelt
  pub text : List ℕ
  pub span : Span
