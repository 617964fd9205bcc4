-- A value of a type, as contracts see it.
use Rattle.std.specs.Prelude.{ℕ, ℤ, pos, negsuc, Bool, false, true}
use Rattle.plcx_types.specs.declared.ty.Ty.{Ty}

-- a type and a number
pub record Value : Type 0 where
  pub ty : Ty
  pub n : ℤ

-- A number as a sign and an amount: one below 0 has the amount of its complement, so that each number is told in one way.
abbrev pub signed : Bool → ℕ → ℤ
signed false amount = pos amount
signed true amount = negsuc amount

-- the sign and the amount of a number
abbrev pub is_negative : ℤ → Bool
is_negative (pos amount) = false
is_negative (negsuc amount) = true

abbrev pub amount_of : ℤ → ℕ
amount_of (pos amount) = amount
amount_of (negsuc amount) = amount
