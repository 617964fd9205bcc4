-- How a file is spelled: the texts of tokens, one after another, apart from any way of reading them.
use Rattle.std.specs.Prelude.{◌≡◌, ◌<◌, ◌+◌, ℕ, Bool, true, false, List, [], ◌∷◌, ◌++◌, length, drop, take, None, Some, ⊤, if◌then◌else◌, codes}
use Rattle.std.specs.declared.option.Option.{Option}
use Rattle.std.specs.Option.{option_map}
use Rattle.std.specs.List.{list_all, flat_map}
use Rattle.std.specs.Char.{encode_utf8}
use Rattle.std.specs.Str.{bytes_eq}
use Rattle.plcx_types.specs.declared.span.Span.{Span}
use Rattle.plcx_xml.specs.Character.{is_space, is_first, is_next, is_text, is_value, is_plain, is_named, is_quote}
use Rattle.plcx_xml.specs.Reference.{character_named}
use Rattle.plcx_xml.specs.declared.tree.Attribute.{Attribute}
use Rattle.plcx_xml.specs.declared.token.Kind.{Kind}
use Rattle.plcx_xml.specs.declared.token.Kind.TheVariants as kind
use Rattle.plcx_xml.specs.declared.token.Token.{Token}

abbrev pub Heads : (ℕ → Bool) → List ℕ → Type 0
Heads p [] = ⊥
Heads p (x ∷ xs) = p x ≡ true

-- what follows is over, or begins with another character
abbrev pub Stops : (ℕ → Bool) → List ℕ → Type 0
Stops p [] = ⊤
Stops p (x ∷ xs) = p x ≡ false

abbrev pub IsName : List ℕ → Type 0
IsName name = Heads is_first name × (list_all is_next name ≡ true)

abbrev pub IsSpace : List ℕ → Type 0
IsSpace space = list_all is_space space ≡ true

abbrev pub span_from : ℕ → ℕ → Span
span_from start n = record { start = start; end = start + n }

-- `&`, what names a character, and `;`
pub record SpellsReference (c : ℕ) (text : List ℕ) : Type 0 where
  pub name : List ℕ
  pub plain : list_all is_named name ≡ true
  pub named : character_named name ≡ Some c
  pub all : text ≡ 38 ∷ (name ++ (59 ∷ []))

-- a longest run without `&`, which stands for itself, or a reference, which stands for its character
pub data SpellsPiece (piece front rest : List ℕ) : Type 0 where
  Plain : piece ≡ front → 0 < length front → list_all is_plain front ≡ true → Stops is_plain rest → SpellsPiece piece front rest
  Named : (c : ℕ) → SpellsReference c front → piece ≡ encode_utf8 c → SpellsPiece piece front rest

abbrev pub SpellsPieces : List (List ℕ) → List ℕ → Type 0
SpellsPieces [] text = text ≡ []
SpellsPieces (piece ∷ more) text = (front : List ℕ) × (rest : List ℕ) × (text ≡ front ++ rest) × SpellsPiece piece front rest × SpellsPieces more rest

-- what an attribute's value is written as: each reference in it stands for its character
abbrev pub SpellsValue : List ℕ → List ℕ → Type 0
SpellsValue value written = (pieces : List (List ℕ)) × (value ≡ flat_map (λ (p : List ℕ). p) pieces) × SpellsPieces pieces written

-- white space, a name, `=` with white space around it or not, and a value in quotes; the text begins at this offset
pub record SpellsAttribute (at : ℕ) (a : Attribute) (text : List ℕ) : Type 0 where
  pub before : List ℕ
  pub left : List ℕ
  pub right : List ℕ
  pub quote : ℕ
  pub written : List ℕ
  pub quoted : List ℕ
  pub parted : (0 < length before) × IsSpace before
  pub named : IsName a.name
  pub spaced : IsSpace left × IsSpace right
  pub inside : (is_quote quote ≡ true) × (list_all (is_value quote) written ≡ true)
  pub value : SpellsValue a.value written
  pub inner : quoted ≡ a.name ++ (left ++ (61 ∷ (right ++ (quote ∷ (written ++ (quote ∷ []))))))
  pub all : text ≡ before ++ quoted
  pub span : a.span ≡ span_from (at + length before) (length quoted)

abbrev pub SpellsAttributes : ℕ → List Attribute → List ℕ → Type 0
SpellsAttributes at [] text = text ≡ []
SpellsAttributes at (a ∷ more) text = (front : List ℕ) × (rest : List ℕ) × (text ≡ front ++ rest) × SpellsAttribute at a front × SpellsAttributes (at + length front) more rest

-- `<`, a name, attributes and white space, and how the tag ends
pub record SpellsTag (at : ℕ) (name : List ℕ) (attributes : List Attribute) (close text : List ℕ) : Type 0 where
  pub middle : List ℕ
  pub space : List ℕ
  pub named : IsName name
  pub inner : SpellsAttributes (at + 1 + length name) attributes middle
  pub spaced : IsSpace space
  pub all : text ≡ 60 ∷ (name ++ (middle ++ (space ++ close)))

-- `</`, a name, white space, `>`
pub record SpellsEnd (name text : List ℕ) : Type 0 where
  pub space : List ℕ
  pub named : IsName name
  pub spaced : IsSpace space
  pub all : text ≡ 60 ∷ 47 ∷ (name ++ (space ++ 62 ∷ []))

abbrev pub begins_with : List ℕ → List ℕ → Bool
begins_with front bytes = bytes_eq (take (length front) bytes) front

abbrev pub behind_one : ℕ → Option (List ℕ × List ℕ) → Option (List ℕ × List ℕ)
behind_one b found = option_map (λ f. (b ∷ f.0, f.1)) found

-- what stands before the first `close`, and what follows it
abbrev pub until : List ℕ → List ℕ → Option (List ℕ × List ℕ)
until close [] = None
until close (b ∷ bs) = if begins_with close (b ∷ bs) then Some ([], drop (length close) (b ∷ bs)) else behind_one b (until close bs)

-- `open`, and all up to the first `close` behind it
pub record SpellsEnclosed (open_ close body text : List ℕ) : Type 0 where
  pub first : until close (body ++ close) ≡ Some (body, [])
  pub all : text ≡ open_ ++ (body ++ close)

abbrev pub SpellsKind : ℕ → Kind → List ℕ → Type 0
SpellsKind at (kind.Start name attributes) text = SpellsTag at name attributes (62 ∷ []) text
SpellsKind at (kind.Empty name attributes) text = SpellsTag at name attributes (47 ∷ 62 ∷ []) text
SpellsKind at (kind.End name) text = SpellsEnd name text
SpellsKind at (kind.Text value) text = (text ≡ value) × (0 < length value) × (list_all is_text value ≡ true)
SpellsKind at (kind.Reference value) text = (c : ℕ) × SpellsReference c text × (value ≡ encode_utf8 c)
SpellsKind at (kind.Cdata value) text = SpellsEnclosed (codes "<![CDATA[") (codes "]]>") value text
SpellsKind at kind.Comment text = (body : List ℕ) × SpellsEnclosed (codes "<!--") (codes "-->") body text
SpellsKind at kind.Instruction text = (body : List ℕ) × SpellsEnclosed (codes "<?") (codes "?>") body text

-- a text goes on as long as it can
abbrev pub IsWhole : Kind → List ℕ → Type 0
IsWhole (kind.Start name attributes) rest = ⊤
IsWhole (kind.Empty name attributes) rest = ⊤
IsWhole (kind.End name) rest = ⊤
IsWhole (kind.Text value) rest = Stops is_text rest
IsWhole (kind.Reference value) rest = ⊤
IsWhole (kind.Cdata value) rest = ⊤
IsWhole kind.Comment rest = ⊤
IsWhole kind.Instruction rest = ⊤

-- the bytes, which begin at this offset, begin with a token, and the rest follows it
pub record StandsAt (at : ℕ) (bytes : List ℕ) (t : Token) (rest : List ℕ) : Type 0 where
  pub text : List ℕ
  pub spelled : SpellsKind at t.kind text
  pub whole : IsWhole t.kind rest
  pub split : bytes ≡ text ++ rest
  pub spanned : t.span ≡ span_from at (length text)

-- the bytes, which begin at this offset, begin with the texts of these tokens, and the rest follows them
abbrev pub AreTokens : ℕ → List ℕ → List Token → List ℕ → Type 0
AreTokens at bytes [] rest = bytes ≡ rest
AreTokens at bytes (t ∷ ts) rest = (after : List ℕ) × StandsAt at bytes t after × AreTokens t.span.end after ts rest
