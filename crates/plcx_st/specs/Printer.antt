-- Printing token by token: how the printer's buffer grows.
use Rattle.std.specs.Prelude.{◌≡◌, ℕ, Bool, true, ◌||◌, List, [], ◌∷◌, ◌++◌, map, codes, if◌then◌else◌}
use Rattle.std.specs.List.{flat_map}
use Rattle.std.specs.Str.{bytes_eq}
use Rattle.plcx_lex.specs.declared.token.TokenKind.{TokenKind}
use Rattle.plcx_lex.specs.declared.token.TokenKind.TheVariants as kind
use Rattle.plcx_st.specs.declared.printing.Last.{Last}
use Rattle.plcx_st.specs.declared.printing.Last.TheVariants as last
use Rattle.plcx_st.specs.declared.printing.Printer.{Printer}
use Rattle.plcx_meaning.specs.Tree.{Statement}
use Rattle.plcx_st.specs.declared.tree.Arm.{Arm}
use Rattle.plcx_st.specs.Meant.{stmt_meant}
use Rattle.plcx_st.specs.Print.{Shape, is_among, none_behind, none_before, Line, line_text}

-- what a token of the kind is to the one behind it
abbrev pub last_kind : TokenKind → Last
last_kind kind.Name = last.Name
last_kind kind.Digits = last.Digits
last_kind kind.Keyword = last.Other
last_kind kind.Number = last.Other
last_kind kind.Address = last.Other
last_kind kind.Sign = last.Other

-- what a token is to the one behind it
unfoldable pub last_of : Shape → Last
last_of a = if is_among none_behind a.text then last.Opening else last_kind a.kind

-- no space comes before the text
unfoldable pub joins : Last → List ℕ → Bool
joins last.Nothing text = true
joins last.Opening text = true
joins last.Name text = is_among none_before text || bytes_eq text (codes "(")
joins last.Digits text = is_among none_before text || bytes_eq text (codes ":")
joins last.Other text = is_among none_before text

-- the text of tokens behind what was printed last
unfoldable pub text_after : Last → List Shape → List ℕ
text_after l [] = []
text_after l (b ∷ shapes) = (if joins l b.text then [] else codes " ") ++ (b.text ++ text_after (last_of b) shapes)

-- how the last line ends behind these tokens
unfoldable pub last_after : Last → List Shape → Last
last_after l [] = l
last_after l (b ∷ shapes) = last_after (last_of b) shapes

-- new is old with these tokens behind it
pub record Puts (old new : Printer) (shapes : List Shape) : Type 0 where
  pub bytes : new.bytes.items ≡ old.bytes.items ++ text_after old.last shapes
  pub last : new.last ≡ last_after old.last shapes

-- new is old with these lines behind it
abbrev pub Writes : (old new : Printer) → List Line → Type 0
Writes old new lines = new.bytes.items ≡ old.bytes.items ++ flat_map line_text lines

-- a label and its statements
abbrev pub arm_meant : Arm → ℕ × List Statement
arm_meant a = (a.label, map stmt_meant a.body)
