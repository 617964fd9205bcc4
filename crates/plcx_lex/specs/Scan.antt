-- What the scanners of a text answer: the longest prefix that is of a form.
use Rattle.std.specs.Prelude.{◌≡◌, ◌⊎◌, ◌<◌, ◌≤◌, ◌||◌, ◌&&◌, ℕ, ℤ, Bool, true, false, nat_eq, nat_le, List, [], ◌∷◌, ◌++◌, length, take, slice_index, Option, Some, None, IfSome, if◌then◌else◌, codes}
use Rattle.std.specs.List.{list_all}
use Rattle.std.specs.Option.{option_map}
use Rattle.std.specs.Str.{str_eq_ignore_ascii_case}
use Rattle.plcx_types.specs.declared.ty.Ty.{Ty}
use Rattle.plcx_types.specs.Name.{is_identifier, is_next_byte}
use Rattle.plcx_types.specs.Numeral.{IsNumeral, IsWholeNumber}
use Rattle.plcx_types.specs.Literal.{IsTruth, IsNumber}
use Rattle.plcx_lex.specs.ReadNumber.{named}
use Rattle.plcx_types.specs.Address.{is_one_of}
use Rattle.plcx_lex.specs.Lexis.{is_decimal, IsToken, Longest, IsPiece, IsBlank, NoComment}
use Rattle.plcx_lex.specs.Terminal.{Table, terminal_of, kind_of}
use Rattle.plcx_lex.specs.declared.terminal.Terminal.{Terminal}
use Rattle.plcx_lex.specs.declared.token.TextToken.{TextToken}
use Rattle.plcx_lex.specs.declared.token.TokenKind.{TokenKind}
use Rattle.plcx_lex.specs.declared.token.TokenKind.TheVariants as kind
use Rattle.plcx_lex.specs.declared.runs.Class.{Class}
use Rattle.plcx_lex.specs.declared.runs.Class.TheVariants as class

-- the longest prefix of the form: n bytes
pub record LongestOf (Form : List ℕ → Type 0) (text : List ℕ) (n : ℕ) : Type 0 where
  pub within : n ≤ length text
  pub holds : Form (take n text)
  pub longest : (m : ℕ) → n < m → m ≤ length text → Form (take m text) → ⊥

-- no prefix is of the form
abbrev pub NoneOf : (List ℕ → Type 0) → List ℕ → Type 0
NoneOf Form text = (m : ℕ) → m ≤ length text → Form (take m text) → ⊥

-- how long the longest prefix of the form is, where there is one
abbrev pub Finds : (List ℕ → Type 0) → List ℕ → Option ℕ → Type 0
Finds Form text None = NoneOf Form text
Finds Form text (Some n) = LongestOf Form text n

-- the longer of two
abbrev pub longer : Option ℕ → Option ℕ → Option ℕ
longer None other = other
longer (Some n) None = Some n
longer (Some n) (Some m) = if nat_le n m then Some m else Some n

-- either form
abbrev pub Either : (List ℕ → Type 0) → (List ℕ → Type 0) → List ℕ → Type 0
Either Form Other text = Form text ⊎ Other text

-- the form behind a word
abbrev pub After : List ℕ → (List ℕ → Type 0) → List ℕ → Type 0
After word Form text = (rest : List ℕ) × (text ≡ word ++ rest) × Form rest

-- ---- runs of bytes

-- the bytes of a class
abbrev pub belongs : Class → ℕ → Bool
belongs class.Part b = is_next_byte b
belongs class.Decimal b = is_decimal b
belongs class.Time b = is_next_byte b || nat_eq b 46 || nat_eq b 45

-- n bytes at the front pass the test, and the next does not
pub record IsRun (passes : ℕ → Bool) (text : List ℕ) (n : ℕ) : Type 0 where
  pub within : n ≤ length text
  pub all : list_all passes (take n text) ≡ true
  pub ends : n < length text → passes (slice_index text n) ≡ false

-- ---- numbers, in lower case

-- a numeral of the base
abbrev pub Numeral : ℕ → List ℕ → Type 0
Numeral base text = (n : ℕ) × IsNumeral base text n

-- a whole number
abbrev pub Whole : List ℕ → Type 0
Whole text = (n : ℤ) × IsWholeNumber text n

-- TRUE or FALSE
abbrev pub Truth : List ℕ → Type 0
Truth text = (n : ℤ) × IsTruth text n

-- the last two bytes of a length of time: a unit behind a digit, or `ms`
abbrev pub is_end : ℕ → ℕ → Bool
is_end b c = (is_decimal b && is_one_of (codes "dhms") c) || (nat_eq b 109 && nat_eq c 115)

-- a number of the type
abbrev pub Number : Ty → List ℕ → Type 0
Number t text = (n : ℤ) × IsNumber t text n

-- a number behind the name of its type
abbrev pub Typed : List ℕ → Type 0
Typed text = (t : Ty) × (word : List ℕ) × (rest : List ℕ) × (text ≡ word ++ 35 ∷ rest) × (named word ≡ Some t) × Number t rest

-- ---- tokens

-- the form of a name
abbrev pub Word : List ℕ → Type 0
Word text = is_identifier text ≡ true

-- the signs of two bytes
abbrev pub is_pair : ℕ → ℕ → Bool
is_pair b c = (nat_eq b 58 && nat_eq c 61) || (nat_eq b 60 && nat_eq c 62) || (nat_eq b 60 && nat_eq c 61) || (nat_eq b 62 && nat_eq c 61)

-- a sign
abbrev pub Sign : List ℕ → Type 0
Sign text = IsToken kind.Sign text

-- a token of any kind
abbrev pub AnyToken : List ℕ → Type 0
AnyToken text = (k : TokenKind) × IsToken k text

-- ---- what tokens are in the grammar

-- what the table says of a word, where it has it
unfoldable pub told : Table → List ℕ → Option Terminal
told [] word = None
told (e ∷ es) word = if str_eq_ignore_ascii_case word e.0 then Some e.1 else told es word

-- a text is one token, which is this
pub record IsTold (text : List ℕ) (t : Terminal) : Type 0 where
  pub token : IsToken (kind_of t) text
  pub terminal : t ≡ terminal_of (kind_of t) text

-- the longest token at the front is this: n bytes
pub record LongestTold (bytes : List ℕ) (t : Terminal) (n : ℕ) : Type 0 where
  pub token : Longest bytes (kind_of t) n
  pub terminal : t ≡ terminal_of (kind_of t) (take n bytes)

-- a sign is this
pub record IsSign (t : Terminal) (text : List ℕ) : Type 0 where
  pub of_kind : kind_of t ≡ kind.Sign
  pub terminal : t ≡ terminal_of kind.Sign text

-- the longest sign at the front is this: n bytes
pub record LongestSign (text : List ℕ) (t : Terminal) (n : ℕ) : Type 0 where
  pub sign : LongestOf Sign text n
  pub is : IsSign t (take n text)

-- ---- pieces

-- a piece with what it is in the grammar
pub record PieceTold (bytes : List ℕ) (t : Option Terminal) (n : ℕ) : Type 0 where
  pub piece : IsPiece bytes (option_map kind_of t) n
  pub terminal : IfSome t (λ t. t ≡ terminal_of (kind_of t) (take n bytes))

-- nothing that a text is made of stands at the front
pub record NoPiece (bytes : List ℕ) : Type 0 where
  pub no_blank : (n : ℕ) → IsBlank bytes n → ⊥
  pub no_comment : NoComment bytes
  pub no_token : NoneOf AnyToken bytes

-- a piece as a token with its place, where it is one
abbrev pub placed : Option Terminal → ℕ → ℕ → List TextToken
placed None start end = []
placed (Some t) start end = record { terminal = t; span = record { start = start; end = end } } ∷ []
