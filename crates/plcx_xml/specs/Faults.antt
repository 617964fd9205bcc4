-- Where bytes stand for no tree that is read: the first fault, and its place.
use Rattle.std.specs.Prelude.{◌≡◌, ◌<◌, ◌+◌, ◌⊎◌, ℕ, false, Bool, List, [], ◌∷◌, ◌++◌, length, ⊤, None, Some}
use Rattle.std.specs.Str.{IsUtf8, IsValidUpTo}
use Rattle.plcx_xml.specs.Character.{front_of}
use Rattle.plcx_xml.specs.Grammar.{StandsAt}
use Rattle.plcx_xml.specs.Nesting.{Place, outset, settled, step, run, any_depth, below_limit}
use Rattle.plcx_xml.specs.StandsForTree.{BeginsWith, HasTokens}
use Rattle.plcx_xml.specs.declared.error.XmlError.{XmlError}
use Rattle.plcx_xml.specs.declared.error.XmlError.TheVariants as xml
use Rattle.plcx_xml.specs.declared.token.Token.{Token}

-- Up to this offset the file is made of tokens, and there none stands, within the characters that a file may hold.
pub record IsTokenPlace (bytes : List ℕ) (at : ℕ) : Type 0 where
  pub tokens : List Token
  pub rest : List ℕ
  pub front : BeginsWith (front_of bytes) tokens rest
  pub here : at + length rest ≡ length (front_of bytes)
  pub none : (t : Token) (after : List ℕ) → StandsAt at rest t after → ⊥
  pub inside : at < length bytes

-- the first of these tokens that may not follow those before it
pub record IsFirstRefused (allows : ℕ → Bool) (ts : List Token) (at : ℕ) : Type 0 where
  pub before : List Token
  pub token : Token
  pub after : List Token
  pub place : Place
  pub parted : ts ≡ before ++ (token ∷ after)
  pub ran : run allows before outset ≡ Some place
  pub refused : step allows place token.kind ≡ None
  pub start : at ≡ token.span.start

-- a name is open at the end, or no root came
pub record IsUnended (ts : List Token) : Type 0 where
  pub place : Place
  pub ran : run any_depth ts outset ≡ Some place
  pub open_ : place.closed ≡ false

-- each fault is looked at where those above it don't stand; want of memory says nothing
abbrev pub Fails : List ℕ → XmlError → Type 0
Fails bytes (xml.NotUtf8 at) = (IsUtf8 bytes → ⊥) × IsValidUpTo bytes at
Fails bytes (xml.Token at) = IsUtf8 bytes × IsTokenPlace bytes at
Fails bytes (xml.Nesting at) = (ts : List Token) × HasTokens bytes ts × (IsFirstRefused any_depth ts at ⊎ (IsUnended ts × (at ≡ length bytes)))
Fails bytes (xml.TooDeep at) = (ts : List Token) × HasTokens bytes ts × (run any_depth ts outset ≡ Some (settled [])) × IsFirstRefused below_limit ts at
Fails bytes xml.NoMemory = ⊤

-- Where tokens stop in these bytes, all of whose characters a file may hold. This serves proofs alone.
pub record StopsAt (front : List ℕ) (at : ℕ) : Type 0 where
  pub tokens : List Token
  pub rest : List ℕ
  pub begins : BeginsWith front tokens rest
  pub here : at + length rest ≡ length front
  pub none : (t : Token) (after : List ℕ) → StandsAt at rest t after → ⊥
  pub more : 0 < length rest

abbrev pub Stops : List ℕ → XmlError → Type 0
Stops front (xml.NotUtf8 at) = ⊥
Stops front (xml.Token at) = StopsAt front at
Stops front (xml.Nesting at) = ⊥
Stops front (xml.TooDeep at) = ⊥
Stops front xml.NoMemory = ⊤
