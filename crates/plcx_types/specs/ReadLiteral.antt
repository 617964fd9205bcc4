-- For proofs alone: what the reader of literals answers, over texts in lower case.
use Rattle.std.specs.Prelude.{ℕ, ℤ, pos, Bool, ◌&&◌, ◌||◌, not, List, [], ◌∷◌, Option, Some, None, codes, if◌then◌else◌}
use Rattle.std.specs.Option.{option_or, option_map, option_and_then}
use Rattle.std.specs.Str.{bytes_eq}
use Rattle.plcx_types.specs.declared.ty.Ty.{Ty}
use Rattle.plcx_types.specs.declared.ty.Ty.TheVariants as ty
use Rattle.plcx_types.specs.declared.literal.Literal.{Literal}
use Rattle.plcx_types.specs.declared.literal.Literal.TheVariants.{Typed, Whole}
use Rattle.plcx_types.specs.Name.{in_lower_case}
use Rattle.plcx_types.specs.Range.{fits}
use Rattle.plcx_types.specs.Value.{Value}
use Rattle.plcx_types.specs.TypeName.{same_ty, all_types}
use Rattle.plcx_types.specs.Literal.{value, type_word}
use Rattle.plcx_types.specs.Reading.{behind, choose, whole, time}

-- the number of a word of BOOL
abbrev pub truth : List ℕ → Option ℤ
truth text = if bytes_eq text (codes "true") then Some (pos 1) else (if bytes_eq text (codes "false") then Some (pos 0) else None)

-- the number behind the name of a type
unfoldable pub number_behind : Ty → List ℕ → Option ℤ
number_behind t text = if same_ty t ty.Time then time text else (if same_ty t ty.Bool then option_or (truth text) (whole text) else whole text)

-- a number of a type, where it is one
unfoldable pub of_type : Ty → ℤ → Option Literal
of_type t n = if fits t n then Some (Typed (value t n)) else None

-- a literal of a type by what stands behind its name
abbrev pub typed : Ty → List ℕ → Option Literal
typed t text = option_and_then (of_type t) (number_behind t text)

-- what stands behind the name of a type and `#`
abbrev pub behind_name : Ty → List ℕ → Option (List ℕ)
behind_name t text = option_and_then (behind (codes "#")) (behind (type_word t) text)

-- a literal with the name of one of the types before it, or a whole one
unfoldable pub typed_or_whole : List Ty → List ℕ → Option Literal
typed_or_whole [] text = option_map Whole (whole text)
typed_or_whole (t ∷ ts) text = choose (behind_name t text) (typed t) (typed_or_whole ts text)

-- a literal with T before it, or another one but TRUE and FALSE
unfoldable pub timed_or_other : List ℕ → Option Literal
timed_or_other text = choose (behind (codes "t#") text) (typed ty.Time) (typed_or_whole all_types text)

-- a literal of BOOL where there is a word of it, or another one
abbrev pub truth_or : Option ℤ → Option Literal → Option Literal
truth_or None other = other
truth_or (Some n) other = of_type ty.Bool n

-- a literal
unfoldable pub literal_of : List ℕ → Option Literal
literal_of text = truth_or (truth text) (timed_or_other text)

-- a literal as a value of a type, where it is one
unfoldable pub as_value : Ty → Literal → Option Value
as_value t (Typed v) = if same_ty v.ty t then Some v else None
as_value t (Whole n) = if same_ty t ty.Time || not (fits t n) then None else Some (value t n)

-- the value of a type that a text stands for, in any case
abbrev pub value_of : Ty → List ℕ → Option Value
value_of t text = option_and_then (as_value t) (literal_of (in_lower_case text))
