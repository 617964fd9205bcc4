-- The numbers of each type.
use Rattle.std.specs.Prelude.{◌≤ℤ◌, ◌&&◌, ℤ, Bool, int_le}
use Rattle.plcx_types.specs.declared.ty.Ty.{Ty}
use Rattle.plcx_types.specs.declared.ty.Bounds.{Bounds}
use Rattle.plcx_types.specs.ElementaryTypes.{row_of}

-- the least and the greatest number of a type
abbrev pub bounds_of : Ty → Bounds
bounds_of t = (row_of t).bounds

-- the number is one of the type
abbrev pub InRange : Ty → ℤ → Type 0
InRange t n = ((bounds_of t).low ≤ℤ n) × (n ≤ℤ (bounds_of t).high)

-- the same as a test
abbrev pub fits : Ty → ℤ → Bool
fits t n = int_le (bounds_of t).low n && int_le n (bounds_of t).high
