use Rattle.std.proofs.Common.{◌≡◌, ◌<◌, ◌^◌, pos, take}
use Rattle.std.specs.List.{fold}
use Rattle.plcx_funcs.specs.Applied.{width, bit_by_bit, both_bits}
use Rattle.plcx_funcs.proofs.bits.joined_from.Given as goal

abbrev pub invariant-loop-value : goal.invariant-loop-value
invariant-loop-value l = record {
  value : pos l.bits ≡ fold (λ n v. both_bits (bit_by_bit l.func) n v.n) (pos l.first) (take l.value-index l.rest);
  below : l.bits < 2 ^ width l.ty;
}
