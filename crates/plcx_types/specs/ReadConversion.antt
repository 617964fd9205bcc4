-- For proofs alone: what the readers of conversions' names answer, over words in lower case.
use Rattle.std.specs.Prelude.{ℕ, List, Option, Some, None, codes, if◌then◌else◌}
use Rattle.std.specs.List.{find}
use Rattle.std.specs.Option.{option_and_then}
use Rattle.std.specs.Str.{bytes_eq}
use Rattle.plcx_types.specs.declared.ty.Ty.{Ty}
use Rattle.plcx_types.specs.Literal.{type_word}
use Rattle.plcx_types.specs.Reading.{behind, front, back, is_letter}
use Rattle.plcx_types.specs.TypeName.{all_types, same_ty}

-- the first of these types with that name
abbrev pub first_of : List Ty → List ℕ → Option Ty
first_of types word = find (λ t. bytes_eq word (type_word t)) types

-- the two types, where they differ
abbrev pub apart : Ty → Ty → Option (Ty × Ty)
apart from to = if same_ty from to then None else Some (from, to)

-- the conversion from the type of a name to that of a rest, where there are these
abbrev pub joined : Option (List ℕ) → List ℕ → Option (Ty × Ty)
joined rest name = option_and_then (λ to. option_and_then (λ from. option_and_then (apart from) (first_of all_types to)) (first_of all_types name)) rest

-- the letters at the front name a type, and what stands behind `_to_` another
unfoldable pub conversion_of : List ℕ → Option (Ty × Ty)
conversion_of word = joined (behind (codes "_to_") (back is_letter word)) (front is_letter word)
