-- The sets of types that a group of pins may have.
use Rattle.std.specs.Prelude.{Bool, true, false, ◌||◌, not}
use Rattle.plcx_types.specs.declared.ty.Ty.{Ty}
use Rattle.plcx_types.specs.declared.ty.Ty.TheVariants as ty
use Rattle.plcx_funcs.specs.declared.allowed.Allowed.{Allowed}
use Rattle.plcx_funcs.specs.declared.allowed.Allowed.TheVariants as set

-- BOOL
abbrev pub is_bool : Ty → Bool
is_bool ty.Bool = true
is_bool _ = false

-- TIME
abbrev pub is_time : Ty → Bool
is_time ty.Time = true
is_time _ = false

-- a bit string
abbrev pub is_word : Ty → Bool
is_word ty.Byte = true
is_word ty.Word = true
is_word ty.Dword = true
is_word ty.Lword = true
is_word _ = false

-- a type of whole numbers: none of the others
abbrev pub is_whole : Ty → Bool
is_whole t = not (is_bool t || (is_word t || is_time t))

-- the set has the type
abbrev pub is_allowed : Allowed → Ty → Bool
is_allowed set.Whole t = is_whole t
is_allowed set.WholeTime t = is_whole t || is_time t
is_allowed set.Bits t = is_word t || is_bool t
is_allowed set.Words t = is_word t
is_allowed set.All t = true
is_allowed set.Nothing t = false
