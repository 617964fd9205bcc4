-- The names of the functions.
use Rattle.std.specs.Prelude.{◌≡◌, ℕ, List, [], ◌∷◌, Option, Some, None, Bool, true, not}
use Rattle.std.specs.List.{find}
use Rattle.std.specs.Option.{option_or, option_map}
use Rattle.std.specs.Str.{str_eq_ignore_ascii_case}
use Rattle.plcx_types.specs.Conversion.{conversion_name}
use Rattle.plcx_types.specs.Name.{in_lower_case}
use Rattle.plcx_types.specs.ReadConversion.{conversion_of}
use Rattle.plcx_types.specs.TypeName.{same_ty}
use Rattle.plcx_funcs.specs.declared.func.Func.{Func}
use Rattle.plcx_funcs.specs.declared.func.Func.TheVariants as f
use Rattle.plcx_funcs.specs.Table.{row_of}

-- the name in the table; a conversion has none there
abbrev pub plain_name : Func → List ℕ
plain_name g = (row_of g).name

-- the name of a function, as it is printed
abbrev pub function_name : Func → List ℕ
function_name (f.Conv from to) = conversion_name from to
function_name g = plain_name g

-- a conversion has two different types
abbrev pub is_function : Func → Bool
is_function (f.Conv from to) = not (same_ty from to)
is_function g = true

-- the word is the name of the function, whatever the case of its letters
pub record NamesFunction (word : List ℕ) (g : Func) : Type 0 where
  pub real : is_function g ≡ true
  pub spelled : in_lower_case word ≡ in_lower_case (function_name g)

-- the functions that are no conversions
abbrev pub plain_functions : List Func
plain_functions = f.Add ∷ f.Mul ∷ f.Sub ∷ f.Div ∷ f.Mod ∷ f.Abs ∷ f.Move ∷ f.And ∷ f.Or ∷ f.Xor ∷ f.Not ∷ f.Shl ∷ f.Shr ∷ f.Rol ∷ f.Ror
    ∷ f.Sel ∷ f.Max ∷ f.Min ∷ f.Limit ∷ f.Mux ∷ f.Gt ∷ f.Ge ∷ f.Eq ∷ f.Le ∷ f.Lt ∷ f.Ne ∷ []

-- the function of these whose name is the word, whatever the case of its letters
abbrev pub plain_among : List Func → List ℕ → Option Func
plain_among table word = find (λ g. str_eq_ignore_ascii_case word (plain_name g)) table

-- the conversion whose name is the word
abbrev pub conversion_named : List ℕ → Option Func
conversion_named word = option_map (λ types. f.Conv types.0 types.1) (conversion_of (in_lower_case word))

-- the function whose name is the word, whatever the case of its letters: `lookup` says that it is this one and no other
abbrev pub function_named : List ℕ → Option Func
function_named word = option_or (plain_among plain_functions word) (conversion_named word)
