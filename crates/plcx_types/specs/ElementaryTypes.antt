-- The elementary types: how each is named, how many bits a number takes, and which numbers there are.
use Rattle.std.specs.Prelude.{◌-◌, ◌^◌, ℕ, pos, negsuc, List, codes}
use Rattle.plcx_types.specs.declared.ty.Ty.{Ty}
use Rattle.plcx_types.specs.declared.ty.Ty.TheVariants as ty
use Rattle.plcx_types.specs.declared.ty.Bounds.{Bounds}

-- the numbers of so many bits
abbrev pub unsigned_bounds : ℕ → Bounds
unsigned_bounds bits = record { low = pos 0; high = pos (2 ^ bits - 1) }

-- the numbers of so many bits, of which one is the sign
abbrev pub signed_bounds : ℕ → Bounds
signed_bounds bits = record { low = negsuc (2 ^ (bits - 1) - 1); high = pos (2 ^ (bits - 1) - 1) }

-- a row of the table: a name, how many bits a number takes, and the numbers there are
pub record TypeRow : Type 0 where
  -- as it is printed
  pub name : List ℕ
  pub bits : ℕ
  pub bounds : Bounds

-- a row by its name, its bits, and how the numbers go by the bits
abbrev pub row : List ℕ → ℕ → (ℕ → Bounds) → TypeRow
row name bits numbers = record { name = name; bits = bits; bounds = numbers bits }

-- a TIME counts milliseconds
abbrev pub row_of : Ty → TypeRow
row_of ty.Bool = row (codes "BOOL") 1 unsigned_bounds
row_of ty.Byte = row (codes "BYTE") 8 unsigned_bounds
row_of ty.Word = row (codes "WORD") 16 unsigned_bounds
row_of ty.Dword = row (codes "DWORD") 32 unsigned_bounds
row_of ty.Lword = row (codes "LWORD") 64 unsigned_bounds
row_of ty.Sint = row (codes "SINT") 8 signed_bounds
row_of ty.Int = row (codes "INT") 16 signed_bounds
row_of ty.Dint = row (codes "DINT") 32 signed_bounds
row_of ty.Lint = row (codes "LINT") 64 signed_bounds
row_of ty.Usint = row (codes "USINT") 8 unsigned_bounds
row_of ty.Uint = row (codes "UINT") 16 unsigned_bounds
row_of ty.Udint = row (codes "UDINT") 32 unsigned_bounds
row_of ty.Ulint = row (codes "ULINT") 64 unsigned_bounds
row_of ty.Time = row (codes "TIME") 64 signed_bounds
