-- How a text is cut into tokens and what parts them.
use Rattle.std.specs.Prelude.{◌≡◌, ◌⊎◌, ◌+◌, ◌-◌, ◌<◌, ◌≤◌, ◌||◌, ℕ, ℤ, Bool, true, false, List, [], ◌∷◌, length, take, drop, map, slice_index, Option, Some, None, codes}
use Rattle.std.specs.List.{list_all, list_any}
use Rattle.std.specs.Str.{bytes_eq}
use Rattle.plcx_types.specs.Name.{is_between, is_identifier, in_lower_case}
use Rattle.plcx_types.specs.Reserved.{is_keyword}
use Rattle.plcx_types.specs.Address.{is_one_of, IsAddress}
use Rattle.plcx_types.specs.declared.ty.Ty.{Ty}
use Rattle.plcx_lex.specs.Number.{IsLiteral}
use Rattle.plcx_lex.specs.Terminal.{signs, kind_of}
use Rattle.plcx_lex.specs.Token.{Token}
use Rattle.plcx_lex.specs.declared.token.TextToken.{TextToken}
use Rattle.plcx_lex.specs.declared.token.TokenKind.{TokenKind}
use Rattle.plcx_lex.specs.declared.token.TokenKind.TheVariants as kind

-- ---- the forms of tokens

-- the words that are numbers
abbrev pub is_truth : List ℕ → Bool
is_truth text = bytes_eq (in_lower_case text) (codes "true") || bytes_eq (in_lower_case text) (codes "false")

-- a decimal digit
abbrev pub is_decimal : ℕ → Bool
is_decimal b = is_between 48 57 b

-- the texts of the signs
abbrev pub sign_texts : List (List ℕ)
sign_texts = map (λ e. e.0) signs

-- a text that is one token of the kind
abbrev pub IsToken : TokenKind → List ℕ → Type 0
IsToken kind.Keyword text = (is_keyword text ≡ true) × (is_truth text ≡ false)
IsToken kind.Name text = (is_identifier text ≡ true) × (is_keyword text ≡ false)
IsToken kind.Number text = (t : Ty) × (n : ℤ) × IsLiteral text t n
IsToken kind.Digits text = (list_all is_decimal text ≡ true) × (0 < length text)
IsToken kind.Address text = IsAddress text
IsToken kind.Sign text = list_any (bytes_eq text) sign_texts ≡ true

-- ---- the pieces of a text

-- a space, a tab, a carriage return or a line feed
abbrev pub is_blank : ℕ → Bool
is_blank b = is_one_of (32 ∷ 9 ∷ 13 ∷ 10 ∷ []) b

-- `*)`
abbrev pub ClosesAt : List ℕ → ℕ → Type 0
ClosesAt bytes at = (slice_index bytes at ≡ 42) × (slice_index bytes (at + 1) ≡ 41)

-- `(*`, and all up to the first `*)` behind it: n bytes at the front
pub record IsBracketed (bytes : List ℕ) (n : ℕ) : Type 0 where
  pub close : ℕ
  pub long : n ≡ close + 2
  pub room : 2 ≤ close
  pub within : n ≤ length bytes
  pub opens : (slice_index bytes 0 ≡ 40) × (slice_index bytes 1 ≡ 42)
  pub closes : ClosesAt bytes close
  pub first : (m : ℕ) → 2 ≤ m → m < close → ClosesAt bytes m → ⊥

-- `//`, and all up to the line feed or the end behind it: n bytes at the front
pub record IsLine (bytes : List ℕ) (n : ℕ) : Type 0 where
  pub room : 2 ≤ n
  pub within : n ≤ length bytes
  pub opens : (slice_index bytes 0 ≡ 47) × (slice_index bytes 1 ≡ 47)
  pub ends : n < length bytes → slice_index bytes n ≡ 10
  pub first : (m : ℕ) → 2 ≤ m → m < n → slice_index bytes m ≡ 10 → ⊥

-- a comment of n bytes stands at the front
abbrev pub IsComment : List ℕ → ℕ → Type 0
IsComment bytes n = IsBracketed bytes n ⊎ IsLine bytes n

-- one blank stands at the front
abbrev pub IsBlank : List ℕ → ℕ → Type 0
IsBlank bytes n = (n ≡ 1) × (0 < length bytes) × (is_blank (slice_index bytes 0) ≡ true)

-- the longest token at the front: n bytes
pub record Longest (bytes : List ℕ) (k : TokenKind) (n : ℕ) : Type 0 where
  pub within : n ≤ length bytes
  pub formed : IsToken k (take n bytes)
  pub longest : (m : ℕ) (other : TokenKind) → n < m → m ≤ length bytes → IsToken other (take m bytes) → ⊥

-- no comment stands at the front
abbrev pub NoComment : List ℕ → Type 0
NoComment bytes = (n : ℕ) → IsComment bytes n → ⊥

-- n bytes at the front: a token of a kind, or what parts tokens; where a comment begins it is taken
abbrev pub IsPiece : List ℕ → Option TokenKind → ℕ → Type 0
IsPiece bytes None n = IsBlank bytes n ⊎ IsComment bytes n
IsPiece bytes (Some k) n = Longest bytes k n × NoComment bytes

-- what it is, and its length
abbrev pub Piece : Type 0
Piece = Option TokenKind × ℕ

-- the pieces stand one behind the other from the front on
abbrev pub Covers : List ℕ → List Piece → Type 0
Covers bytes [] = Unit {0}
Covers bytes (p ∷ ps) = IsPiece bytes p.0 p.1 × Covers (drop p.1 bytes) ps

-- how many bytes the pieces have
abbrev pub total : List Piece → ℕ
total [] = 0
total (p ∷ ps) = p.1 + total ps

-- the bytes are made of these pieces
abbrev pub IsMade : List ℕ → List Piece → Type 0
IsMade bytes ps = Covers bytes ps × (total ps ≡ length bytes)

-- ---- the tokens of a text

-- the piece at this offset, at the front of the bytes, before other tokens
abbrev pub token_at : ℕ → List ℕ → Option TokenKind → ℕ → List Token → List Token
token_at at bytes None n ts = ts
token_at at bytes (Some k) n ts = record { kind = k; text = take n bytes; span = record { start = at; end = at + n } } ∷ ts

-- the tokens among the pieces, of which the first stands at this offset
abbrev pub tokens_from : ℕ → List ℕ → List Piece → List Token
tokens_from at bytes [] = []
tokens_from at bytes (p ∷ ps) = token_at at bytes p.0 p.1 (tokens_from (at + p.1) (drop p.1 bytes) ps)

-- the bytes are made of these tokens and of what parts them
abbrev pub AreTextTokens : List ℕ → List Token → Type 0
AreTextTokens bytes ts = (ps : List Piece) × IsMade bytes ps × (ts ≡ tokens_from 0 bytes ps)

-- a token of a source, with its text
abbrev pub spelt : List ℕ → TextToken → Token
spelt source t = record { kind = kind_of t.terminal; text = take (t.span.end - t.span.start) (drop t.span.start source); span = t.span }

-- ---- the place

-- the end of the longest prefix that is made of pieces, where the whole is not
pub record IsLexPlace (bytes : List ℕ) (at : ℕ) : Type 0 where
  pub inside : at < length bytes
  pub pieces : List Piece
  pub made : IsMade (take at bytes) pieces
  pub longest : (m : ℕ) (ps : List Piece) → at < m → m ≤ length bytes → IsMade (take m bytes) ps → ⊥
