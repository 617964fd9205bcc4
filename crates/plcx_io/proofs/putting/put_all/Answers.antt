use Rattle.std.proofs.Common.{arith}
use Rattle.plcx_io.proofs.Fronts.{Appends-next}
use Rattle.plcx_io.proofs.putting.put_all.Goals as goal

pub loop-done-preserved : goal.loop-done-preserved
loop-done-preserved g c = record {
  within = omega (arith, c.in-Ok.ensures.bound);
  out = Appends-next _ _ _ _ _ _ c.loop-done.invariant.out c.in-Ok.ensures.bytes;
  later = omega (arith, c.loop-done.invariant.later, c.write.ensures.later);
}
