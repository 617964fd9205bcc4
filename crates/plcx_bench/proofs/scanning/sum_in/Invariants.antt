use Rattle.std.proofs.Common.{◌≡◌, ◌*◌, ◌^◌, ◌+ℤ◌, ◌≤ℤ◌, pos, neg_ℤ, drop}
use Rattle.plcx_bench.specs.Sides.{sum_in}
use Rattle.plcx_bench.proofs.scanning.sum_in.Given as goal

-- what is left makes the sum whole, which is small by now
abbrev pub invariant-loop-i : goal.invariant-loop-i
invariant-loop-i l = record {
  left : l.sum +ℤ sum_in (drop l.i l.leaves) (drop l.i l.values) ≡ sum_in l.leaves l.values;
  low : neg_ℤ (pos (2 ^ 64 * l.i)) ≤ℤ l.sum;
  high : l.sum ≤ℤ pos (2 ^ 64 * l.i);
}
