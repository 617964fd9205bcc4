-- The names of the conversions between types.
use Rattle.std.specs.Prelude.{◌≡◌, ◌++◌, ℕ, false, List, codes}
use Rattle.plcx_types.specs.declared.ty.Ty.{Ty}
use Rattle.plcx_types.specs.Name.{in_lower_case}
use Rattle.plcx_types.specs.TypeName.{same_ty, type_name}

-- as INT_TO_DINT
abbrev pub conversion_name : Ty → Ty → List ℕ
conversion_name from to = type_name from ++ (codes "_TO_" ++ type_name to)

-- the word is the name of the conversion from a type to another one, whatever the case of its letters
pub record NamesConversion (word : List ℕ) (from to : Ty) : Type 0 where
  pub apart : same_ty from to ≡ false
  pub spelled : in_lower_case word ≡ in_lower_case (conversion_name from to)
