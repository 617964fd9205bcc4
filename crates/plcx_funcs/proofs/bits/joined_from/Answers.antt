use Rattle.std.proofs.Common.{arith}
use Rattle.plcx_funcs.proofs.Below.{bit_by_bit_below}
use Rattle.plcx_funcs.proofs.Kept.{one_joined}
use Rattle.plcx_funcs.proofs.bits.joined_from.Goals as goal

pub loop-value-preserved : goal.loop-value-preserved
loop-value-preserved c = record {
  value = rw c.bit_by_bit-bits.ensures (one_joined c.args.func c.args.first c.loop-value.bits c.bits_of.result c.args.rest.now c.loop-value.value-index c.value-item.result c.loop-value-test.true c.value-item.is c.bits_of.ensures.value c.loop-value.invariant.value);
  below = grind (arith, bit_by_bit_below, c.bit_by_bit-bits.ensures, c.bits_of.ensures.below, c.loop-value.invariant.below);
}
