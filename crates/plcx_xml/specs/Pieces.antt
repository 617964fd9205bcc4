-- The bytes that a piece of a value stands for, and how far a value is read. This serves proofs alone.
use Rattle.std.specs.Prelude.{◌≡◌, ◌++◌, ℕ, List}
use Rattle.std.specs.List.{flat_map}
use Rattle.std.specs.Char.{encode_utf8}
use denote.Ref.{Bor}
use Rattle.plcx_xml.specs.declared.value.Piece.{Piece}
use Rattle.plcx_xml.specs.declared.value.Piece.TheVariants.{Plain, Character}

abbrev pub shown : Piece → List ℕ
shown (Plain bytes) = bytes.now
shown (Character c) = encode_utf8 c

abbrev pub shown_piece : Piece × Bor (List ℕ) → List ℕ × List ℕ
shown_piece p = (shown p.0, p.1.now)

-- with these bytes before it, what was found is the whole
pub record Pieced (value : List ℕ) (found whole : List (List ℕ) × List ℕ) : Type 0 where
  pub value_is : value ++ flat_map (λ (p : List ℕ). p) found.0 ≡ flat_map (λ (p : List ℕ). p) whole.0
  pub rest_is : found.1 ≡ whole.1
