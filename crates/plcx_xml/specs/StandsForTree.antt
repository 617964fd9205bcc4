-- Which tree bytes stand for.
use Rattle.std.specs.Prelude.{◌≡◌, ◌≤◌, ℕ, true, List, [], ◌∷◌, ◌++◌, take, drop, ⊤, if◌then◌else◌}
use Rattle.std.specs.List.{list_all, flat_map}
use Rattle.std.specs.Str.{IsUtf8, chars, bytes_eq}
use Rattle.plcx_types.specs.Limits.{max_element_depth}
use Rattle.plcx_xml.specs.Character.{is_space, is_character}
use Rattle.plcx_xml.specs.Grammar.{AreTokens}
use Rattle.plcx_xml.specs.Events.{token_events, joined, events_of_element, depth_of_element}
use Rattle.plcx_xml.specs.declared.token.Kind.{Kind}
use Rattle.plcx_xml.specs.declared.token.Kind.TheVariants as kind
use Rattle.plcx_xml.specs.declared.token.Token.{Token}
use Rattle.plcx_xml.specs.declared.tree.Element.{Element}

-- a byte order mark at the start is skipped
abbrev pub mark_len : List ℕ → ℕ
mark_len bytes = if bytes_eq (take 3 bytes) (0xEF ∷ 0xBB ∷ 0xBF ∷ []) then 3 else 0

-- behind the mark, the bytes begin with these tokens, and the rest follows them
abbrev pub BeginsWith : List ℕ → List Token → List ℕ → Type 0
BeginsWith bytes ts rest = AreTokens (mark_len bytes) (drop (mark_len bytes) bytes) ts rest

-- UTF-8 of characters that a file may hold, which is made of these tokens
pub record HasTokens (bytes : List ℕ) (ts : List Token) : Type 0 where
  pub text : IsUtf8 bytes
  pub characters : list_all is_character (chars bytes) ≡ true
  pub tokens : BeginsWith bytes ts []

abbrev pub IsBlankKind : Kind → Type 0
IsBlankKind (kind.Start name attributes) = ⊥
IsBlankKind (kind.Empty name attributes) = ⊥
IsBlankKind (kind.End name) = ⊥
IsBlankKind (kind.Text value) = list_all is_space value ≡ true
IsBlankKind (kind.Reference value) = ⊥
IsBlankKind (kind.Cdata value) = ⊥
IsBlankKind kind.Comment = ⊤
IsBlankKind kind.Instruction = ⊤

-- nothing but white space, comments and instructions
abbrev pub AreBlank : List Token → Type 0
AreBlank [] = Unit {0}
AreBlank (t ∷ ts) = IsBlankKind t.kind × AreBlank ts

-- The bytes are made of tokens; those of the root stand together, and only blank ones around them.
pub record StandsForTree (bytes : List ℕ) (root : Element) : Type 0 where
  pub before : List Token
  pub inner : List Token
  pub after : List Token
  pub tokens : HasTokens bytes (before ++ (inner ++ after))
  pub alone : AreBlank before × AreBlank after
  pub same : joined (flat_map token_events inner) ≡ events_of_element root

-- a tree that isn't deeper than what is read
pub record IsTreeOf (bytes : List ℕ) (root : Element) : Type 0 where
  pub stands : StandsForTree bytes root
  pub depth : depth_of_element root ≤ max_element_depth
