-- What the reader of numbers answers: the type and the number. It splits a text at the end of the word at its front.
use Rattle.std.specs.Prelude.{ℕ, ℤ, List, [], ◌∷◌, Option, Some, None, nat_eq, codes, if◌then◌else◌}
use Rattle.std.specs.List.{find}
use Rattle.std.specs.Option.{option_map, option_and_then}
use Rattle.std.specs.Str.{bytes_eq}
use Rattle.plcx_types.specs.declared.ty.Ty.{Ty}
use Rattle.plcx_types.specs.declared.ty.Ty.TheVariants as ty
use Rattle.plcx_types.specs.Name.{in_lower_case, is_next_byte}
use Rattle.plcx_types.specs.TypeName.{all_types}
use Rattle.plcx_types.specs.Literal.{type_word}
use Rattle.plcx_types.specs.Reading.{front, back}
use Rattle.plcx_types.specs.ReadLiteral.{truth, number_behind}

-- the type that a word before `#` names, in lower case
abbrev pub named : List ℕ → Option Ty
named word = if bytes_eq word (codes "t") then Some ty.Time else find (λ t. bytes_eq word (type_word t)) all_types

-- a number with its type
abbrev pub of_type : Option ℤ → Ty → Option (Ty × ℤ)
of_type n t = option_map (λ n. (t, n)) n

-- a word, and what stands behind it
unfoldable pub behind_word : List ℕ → List ℕ → Option (Ty × ℤ)
behind_word word [] = of_type (truth word) ty.Bool
behind_word word (b ∷ rest) = if nat_eq b 35 then option_and_then (λ t. of_type (number_behind t rest) t) (named word) else None

-- a text in lower case
unfoldable pub typed_of : List ℕ → Option (Ty × ℤ)
typed_of text = behind_word (front is_next_byte text) (back is_next_byte text)

-- the same of a text in any case
abbrev pub literal_of : List ℕ → Option (Ty × ℤ)
literal_of text = typed_of (in_lower_case text)
