use Rattle.std.proofs.Common.{◌<◌, ◌≤◌, ℕ, length, slice_index}
use Rattle.plcx_order.proofs.walk.Walk.merge.Given as goal

abbrev pub invariant-loop-keep : goal.invariant-loop-keep
invariant-loop-keep l = record {
  some : 0 < l.keep;
  fewer : l.keep ≤ length l.self.starts.items;
  gone : (k : ℕ) → l.keep ≤ k → k < length l.self.starts.items → l.q < slice_index l.self.starts.items k;
}

abbrev pub decreases-loop-keep : goal.decreases-loop-keep
decreases-loop-keep l = l.keep
