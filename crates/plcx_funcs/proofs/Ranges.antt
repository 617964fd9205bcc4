-- The numbers of the types as machine words.
use Rattle.std.proofs.Common.{◌≡◌, true, ℤ, pos, negsuc, ◌<◌, ◌^◌, arith}
use Rattle.std.specs.Int.{w128}
use Rattle.std.specs.Prelude.{FitsSigned, unsigned_abs}
use Rattle.std.proofs.lemmas.Int.{ints}
use Rattle.plcx_types.specs.declared.ty.Ty.{Ty}
use Rattle.plcx_types.specs.declared.ty.Ty.TheVariants as ty
use Rattle.plcx_types.specs.Range.{InRange, fits}

-- a number of a type is one of 128 bits
pub fits_wide : (t : Ty) (z : ℤ) → fits t z ≡ true → FitsSigned w128 z
fits_wide ty.Bool (pos n) h = grind (arith, ints)
fits_wide ty.Bool (negsuc n) h = grind (arith, ints)
fits_wide ty.Byte (pos n) h = grind (arith, ints)
fits_wide ty.Byte (negsuc n) h = grind (arith, ints)
fits_wide ty.Word (pos n) h = grind (arith, ints)
fits_wide ty.Word (negsuc n) h = grind (arith, ints)
fits_wide ty.Dword (pos n) h = grind (arith, ints)
fits_wide ty.Dword (negsuc n) h = grind (arith, ints)
fits_wide ty.Lword (pos n) h = grind (arith, ints)
fits_wide ty.Lword (negsuc n) h = grind (arith, ints)
fits_wide ty.Sint (pos n) h = grind (arith, ints)
fits_wide ty.Sint (negsuc n) h = grind (arith, ints)
fits_wide ty.Int (pos n) h = grind (arith, ints)
fits_wide ty.Int (negsuc n) h = grind (arith, ints)
fits_wide ty.Dint (pos n) h = grind (arith, ints)
fits_wide ty.Dint (negsuc n) h = grind (arith, ints)
fits_wide ty.Lint (pos n) h = grind (arith, ints)
fits_wide ty.Lint (negsuc n) h = grind (arith, ints)
fits_wide ty.Usint (pos n) h = grind (arith, ints)
fits_wide ty.Usint (negsuc n) h = grind (arith, ints)
fits_wide ty.Uint (pos n) h = grind (arith, ints)
fits_wide ty.Uint (negsuc n) h = grind (arith, ints)
fits_wide ty.Udint (pos n) h = grind (arith, ints)
fits_wide ty.Udint (negsuc n) h = grind (arith, ints)
fits_wide ty.Ulint (pos n) h = grind (arith, ints)
fits_wide ty.Ulint (negsuc n) h = grind (arith, ints)
fits_wide ty.Time (pos n) h = grind (arith, ints)
fits_wide ty.Time (negsuc n) h = grind (arith, ints)

-- a number of a type has at most 64 bits behind its sign
pub abs_below : (t : Ty) (z : ℤ) → InRange t z → unsigned_abs z < 2 ^ 64
abs_below ty.Bool (pos n) h = grind (arith, ints)
abs_below ty.Bool (negsuc n) h = grind (arith, ints)
abs_below ty.Byte (pos n) h = grind (arith, ints)
abs_below ty.Byte (negsuc n) h = grind (arith, ints)
abs_below ty.Word (pos n) h = grind (arith, ints)
abs_below ty.Word (negsuc n) h = grind (arith, ints)
abs_below ty.Dword (pos n) h = grind (arith, ints)
abs_below ty.Dword (negsuc n) h = grind (arith, ints)
abs_below ty.Lword (pos n) h = grind (arith, ints)
abs_below ty.Lword (negsuc n) h = grind (arith, ints)
abs_below ty.Sint (pos n) h = grind (arith, ints)
abs_below ty.Sint (negsuc n) h = grind (arith, ints)
abs_below ty.Int (pos n) h = grind (arith, ints)
abs_below ty.Int (negsuc n) h = grind (arith, ints)
abs_below ty.Dint (pos n) h = grind (arith, ints)
abs_below ty.Dint (negsuc n) h = grind (arith, ints)
abs_below ty.Lint (pos n) h = grind (arith, ints)
abs_below ty.Lint (negsuc n) h = grind (arith, ints)
abs_below ty.Usint (pos n) h = grind (arith, ints)
abs_below ty.Usint (negsuc n) h = grind (arith, ints)
abs_below ty.Uint (pos n) h = grind (arith, ints)
abs_below ty.Uint (negsuc n) h = grind (arith, ints)
abs_below ty.Udint (pos n) h = grind (arith, ints)
abs_below ty.Udint (negsuc n) h = grind (arith, ints)
abs_below ty.Ulint (pos n) h = grind (arith, ints)
abs_below ty.Ulint (negsuc n) h = grind (arith, ints)
abs_below ty.Time (pos n) h = grind (arith, ints)
abs_below ty.Time (negsuc n) h = grind (arith, ints)
