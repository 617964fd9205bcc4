-- Numbers that stay below a power of 2.
use Rattle.std.proofs.Common.{◌≡◌, ℕ, ◌+◌, ◌-◌, ◌*◌, ◌/◌, ◌%◌, ◌^◌, ◌<◌, ◌≤◌, subst, arith}
use Rattle.std.proofs.Math.Nat.{mod-lt, mul-mod_left}
use Rattle.std.proofs.Math.Pow.{shr_lt}
use Rattle.std.proofs.lemmas.Nat.{pow_pos, pow-add, mul-add-lt, mod-pow-add, shl-shr, shr_le, or_lt, xor_lt}
use Rattle.std.specs.Int.Bits.{and_lt}
use Rattle.plcx_funcs.specs.declared.func.Func.{Func}
use Rattle.plcx_funcs.specs.declared.func.Func.TheVariants as f
use Rattle.plcx_funcs.specs.Applied.{bit_by_bit, shifted_left, shifted_right, rotated_left, rotated_right}

-- two numbers, bit by bit
pub bit_by_bit_below : (g : Func) (bits a b : ℕ) → a < 2 ^ bits → b < 2 ^ bits → bit_by_bit g a b < 2 ^ bits
bit_by_bit_below f.And bits a b small_a small_b = and_lt bits a b small_a small_b
bit_by_bit_below f.Or bits a b small_a small_b = or_lt bits a b small_a small_b
bit_by_bit_below f.Xor bits a b small_a small_b = xor_lt bits a b small_a small_b
bit_by_bit_below _ bits a b small_a small_b = pow_pos bits

-- shifted
pub shifted_left_below : (bits n by : ℕ) → shifted_left bits n by < 2 ^ bits
shifted_left_below bits n by =
    let some : 0 < 2 ^ bits = pow_pos bits in
    let less : (n * 2 ^ by) % 2 ^ bits < 2 ^ bits = mod-lt (n * 2 ^ by) some in
    grind (arith, some, less)

pub shifted_right_below : (bits n by : ℕ) → n < 2 ^ bits → shifted_right bits n by < 2 ^ bits
shifted_right_below bits n by small =
    let some : 0 < 2 ^ bits = pow_pos bits in
    let less : n / 2 ^ by ≤ n = shr_le n by in
    grind (arith, some, less)

-- two numbers side by side
side_by_side : (i j high low : ℕ) → high < 2 ^ i → low < 2 ^ j → high * 2 ^ j + low < 2 ^ (i + j)
side_by_side i j high low small_high small_low =
    omega (arith, mul-add-lt high (2 ^ j) low (2 ^ i) small_high small_low, pow-add 2 i j)

-- what is moved to the left behind what is left of the number
moved_left : (i j n : ℕ) → n < 2 ^ (i + j) → (n * 2 ^ j) % 2 ^ (i + j) + n / 2 ^ i < 2 ^ (i + j)
moved_left i j n small =
    let front : (n * 2 ^ j) % 2 ^ (i + j) ≡ n % 2 ^ i * 2 ^ j =
    rw (mod-pow-add (n * 2 ^ j) i j, shl-shr n j, mul-mod_left n (2 ^ j)) (omega arith) in
    let low : n / 2 ^ i < 2 ^ j = shr_lt j i (let P : ℕ → Type 0 = λ w. n < 2 ^ w in subst P (omega arith) small) in
    omega (arith, front, side_by_side i j (n % 2 ^ i) (n / 2 ^ i) (mod-lt n (pow_pos i)) low)

moved_right : (i j n : ℕ) → n < 2 ^ (i + j) → n / 2 ^ j + (n % 2 ^ j) * 2 ^ i < 2 ^ (i + j)
moved_right i j n small =
    let whole : j + i ≡ i + j = omega arith in
    let P : ℕ → Type 0 = λ w. (n % 2 ^ j) * 2 ^ i + n / 2 ^ j < 2 ^ w in
    omega (arith, subst P whole (side_by_side j i (n % 2 ^ j) (n / 2 ^ j) (mod-lt n (pow_pos j)) (shr_lt i j small)))

-- rotated
pub rotated_left_below : (bits n by : ℕ) → 0 < bits → n < 2 ^ bits → rotated_left bits n by < 2 ^ bits
rotated_left_below bits n by some small =
    let less : by % bits < bits = mod-lt by some in
    let whole : (bits - by % bits) + by % bits ≡ bits = omega (arith, less) in
    let P : ℕ → Type 0 = λ w. n < 2 ^ w → (n * 2 ^ (by % bits)) % 2 ^ w + n / 2 ^ (bits - by % bits) < 2 ^ w in
    subst P whole (moved_left (bits - by % bits) (by % bits) n) small

pub rotated_right_below : (bits n by : ℕ) → 0 < bits → n < 2 ^ bits → rotated_right bits n by < 2 ^ bits
rotated_right_below bits n by some small =
    let less : by % bits < bits = mod-lt by some in
    let whole : (bits - by % bits) + by % bits ≡ bits = omega (arith, less) in
    let P : ℕ → Type 0 = λ w. n < 2 ^ w → n / 2 ^ (by % bits) + (n % 2 ^ (by % bits)) * 2 ^ (bits - by % bits) < 2 ^ w in
    subst P whole (moved_right (bits - by % bits) (by % bits) n) small
