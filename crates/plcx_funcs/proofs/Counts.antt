-- Numbers of inputs.
use Rattle.std.proofs.Common.{◌≡◌, ℕ, ◌≤◌, ◌<◌, ◌+◌, Bool, true, arith}
use Rattle.plcx_funcs.specs.declared.func.Func.{Func}
use Rattle.plcx_funcs.specs.declared.func.Func.TheVariants as f
use Rattle.plcx_funcs.specs.Pins.{can_have, least_inputs}

-- a function has at least the least number of inputs
pub has_least : (g : Func) (n : ℕ) → can_have g n ≡ true → least_inputs g ≤ n
has_least g n h = grind arith

-- no function has more than 63
pub has_most : (g : Func) (n : ℕ) → can_have g n ≡ true → n ≤ 63
has_most f.Add n h = grind arith
has_most f.Mul n h = grind arith
has_most f.Sub n h = grind arith
has_most f.Div n h = grind arith
has_most f.Mod n h = grind arith
has_most f.Abs n h = grind arith
has_most f.Move n h = grind arith
has_most f.And n h = grind arith
has_most f.Or n h = grind arith
has_most f.Xor n h = grind arith
has_most f.Not n h = grind arith
has_most f.Shl n h = grind arith
has_most f.Shr n h = grind arith
has_most f.Rol n h = grind arith
has_most f.Ror n h = grind arith
has_most f.Sel n h = grind arith
has_most f.Max n h = grind arith
has_most f.Min n h = grind arith
has_most f.Limit n h = grind arith
has_most f.Mux n h = grind arith
has_most f.Gt n h = grind arith
has_most f.Ge n h = grind arith
has_most f.Eq n h = grind arith
has_most f.Le n h = grind arith
has_most f.Lt n h = grind arith
has_most f.Ne n h = grind arith
has_most (f.Conv from to) n h = grind arith

-- a test that passes below a place and at it
pub one_more : (p : ℕ → Bool) (i : ℕ) → ((k : ℕ) → k < i → p k ≡ true) → p i ≡ true → (k : ℕ) → k < i + 1 → p k ≡ true
one_more p i before now k below = grind (arith, before, now)
