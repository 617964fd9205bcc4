-- How many inputs functions have.
use Rattle.std.proofs.Common.{◌≡◌, ℕ, ◌≤◌, Bool, true, false, refl, arith}
use Rattle.plcx_funcs.specs.declared.func.Func.{Func}
use Rattle.plcx_funcs.specs.Pins.{can_have}
use Rattle.plcx_funcs.proofs.Counts.{has_most}

-- no function has 64 inputs or more
pub has_few : (g : Func) (n : ℕ) → 64 ≤ n → can_have g n ≡ false
has_few g n h = by (can_have g n) refl
  where
    by : (b : Bool) → can_have g n ≡ b → can_have g n ≡ false
    by true e = let few = has_most g n e in absurd (omega arith)
    by false e = e
