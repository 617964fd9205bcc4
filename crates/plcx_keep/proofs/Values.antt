-- Numbers of one type as values of another.
use Rattle.std.proofs.Common.{◌≡◌, ℕ, Bool, true, false, Some, None, sym, ap}
use Rattle.std.specs.Prelude.{if◌then◌else◌}
use Rattle.std.proofs.lemmas.Option.{same_Some}
use Rattle.plcx_types.specs.Value.{Value}
use Rattle.plcx_keep.specs.declared.carry.Fate.TheVariants.{Changed}
use Rattle.plcx_keep.specs.declared.carry.CarryRow.{CarryRow}
use Rattle.plcx_keep.specs.Carries.{row}

-- the row of a value that was changed
pub changed_row : (n : ℕ) (b : Bool) (v w : Value) (other : CarryRow) → (if b then Some v else None) ≡ Some w → row n Changed w ≡ (if b then row n Changed v else other)
changed_row n true v w other e = ap (row n Changed) (sym (same_Some v w e))
changed_row n false v w other e = absurd (cc)
