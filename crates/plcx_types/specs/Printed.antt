-- How a value is printed.
use Rattle.std.specs.Prelude.{◌++◌, ℕ, ℤ, pos, negsuc, zero, suc, List, codes, if◌then◌else◌}
use Rattle.std.specs.Fmt.{signed_decimal}
use Rattle.plcx_types.specs.declared.ty.Ty.{Ty}
use Rattle.plcx_types.specs.declared.ty.Ty.TheVariants as ty
use Rattle.plcx_types.specs.TypeName.{same_ty, type_name}
use Rattle.plcx_types.specs.Value.{Value}

-- the type's name, # and the number, as INT#-7
abbrev pub typed_number : Ty → ℤ → List ℕ
typed_number t n = type_name t ++ (codes "#" ++ signed_decimal n)

-- TRUE at 1 and FALSE at 0; no other number is in range
abbrev pub truth_word : ℤ → List ℕ
truth_word (pos zero) = codes "FALSE"
truth_word (pos (suc zero)) = codes "TRUE"
truth_word (pos (suc (suc n))) = typed_number ty.Bool (pos (suc (suc n)))
truth_word (negsuc n) = typed_number ty.Bool (negsuc n)

-- TRUE, FALSE, T#100ms, T#-5ms, and else the type's name with the number
abbrev pub printed : Value → List ℕ
printed v = if same_ty v.ty ty.Bool then truth_word v.n else (if same_ty v.ty ty.Time then codes "T#" ++ (signed_decimal v.n ++ codes "ms") else typed_number v.ty v.n)
