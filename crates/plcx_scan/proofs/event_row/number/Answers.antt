use Rattle.std.proofs.Common.{arith}
use Rattle.plcx_scan.proofs.Digits.{next_step}
use Rattle.plcx_scan.proofs.event_row.number.Goals as goal

pub overflow_mul-n : goal.overflow_mul-n
overflow_mul-n c =
    let now = c.loop-byte.invariant in
    let fits = (next_step _ _ _ now.below c.requires.few c.loop-byte-test.true now.digits).fits in
    omega arith

pub overflow_add-n : goal.overflow_add-n
overflow_add-n c =
    let now = c.loop-byte.invariant in
    let fits = (next_step _ _ _ now.below c.requires.few c.loop-byte-test.true now.digits).fits in
    let is = c.from.ensures in
    omega arith
