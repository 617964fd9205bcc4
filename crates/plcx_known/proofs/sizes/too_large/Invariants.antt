use Rattle.std.proofs.Common.{◌≡◌, ◌++◌, drop, map}
use Rattle.std.specs.Prelude.{nat_lt}
use Rattle.plcx_types.specs.Limits.{max_text_leaves}
use Rattle.plcx_known.proofs.sizes.too_large.Given as goal

abbrev pub invariant-loop-size : goal.invariant-loop-size
invariant-loop-size l = l.marks.items ++ map (nat_lt max_text_leaves) (drop l.size-index l.sizes) ≡ map (nat_lt max_text_leaves) l.sizes
