use Rattle.std.proofs.Common.{◌<◌, length, arith, to_z}
use Rattle.std.specs.Int.{w128}
use Rattle.std.proofs.lemmas.Int.{ints}
use Rattle.plcx_bench.specs.Sides.{sum_in}
use Rattle.plcx_bench.proofs.Sums.{next_sum}
use Rattle.plcx_bench.proofs.scanning.sum_in.Goals as goal

pub loop-i-preserved : goal.loop-i-preserved
loop-i-preserved c =
    let inv = c.loop-i.invariant in
    let low = inv.low in
    let high = inv.high in
    let few = c.requires.few in
    let least = c.number_in-sum.ensures.low in
    let most = c.number_in-sum.ensures.high in
    let within = c.loop-i-test.true in
    let long = c.requires.long in
    let is = c.loop-i.sum-is in
    let here : c.loop-i.i < length c.args.values.now = omega arith in
    record {
      left = next_sum c.args.leaves.now c.args.values.now c.loop-i.i c.index-leaves-i.result c.index-values-i.result (to_z w128 c.loop-i.sum-bits) c.number_in-sum.result _ (sum_in c.args.leaves.now c.args.values.now)
          within here c.index-leaves-i.is c.index-values-i.is c.number_in-sum.ensures.number (omega (arith, ints)) inv.left;
      low = omega (arith, ints);
      high = omega (arith, ints);
    }
