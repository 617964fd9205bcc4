use Rattle.std.proofs.Common.{arith}
use Rattle.plcx_table.proofs.Digits.{behind-step, behind-end, digit-at, small-bound, bound-step}
use Rattle.plcx_table.proofs.decimal.small.Goals as goal

pub overflow_mul-value : goal.overflow_mul-value
overflow_mul-value c = omega (arith, small-bound _ _ c.loop-byte.invariant.bound (omega arith))

pub overflow_add-value : goal.overflow_add-value
overflow_add-value c = omega (arith, small-bound _ _ c.loop-byte.invariant.bound (omega arith))

pub loop-byte-preserved : goal.loop-byte-preserved
loop-byte-preserved c =
    let digits = c.args.digits.now in
    let digit = digit-at c.loop-byte.byte-index digits c.loop-byte-test.true c.loop-byte.invariant.rest in
    record {
      value = rw c.from.ensures (behind-step c.loop-byte.value c.loop-byte.byte-index digits _ c.loop-byte-test.true c.loop-byte.invariant.value);
      rest = digit.2;
      bound = rw c.from.ensures (bound-step c.loop-byte.value c.loop-byte.byte-index _ c.loop-byte.invariant.bound digit.1);
    }

pub returns-clause-value : goal.returns-clause-value
returns-clause-value c = behind-end c.loop-byte.value c.loop-byte.byte-index c.args.digits.now _ c.loop-byte-test.false c.loop-byte.invariant.value
