-- Products of numbers of 64 bits.
use Rattle.std.proofs.Common.{ℕ, ◌+◌, ◌*◌, ◌-◌, ◌^◌, ◌<◌, ◌≤◌, arith, mul-le-mul}

-- two numbers of 64 bits have a product of 128
pub product_below : (a b : ℕ) → a < 2 ^ 64 → b ≤ 2 ^ 64 → a * b + 2 ^ 64 ≤ 2 ^ 128
product_below a b small most =
    let below : a ≤ 2 ^ 64 - 1 = omega arith in
    let bound : a * b ≤ (2 ^ 64 - 1) * 2 ^ 64 = mul-le-mul below most in
    omega (arith, bound)
