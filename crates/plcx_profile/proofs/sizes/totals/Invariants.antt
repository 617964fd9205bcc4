use Rattle.std.proofs.Common.{◌≡◌, map}
use Rattle.plcx_profile.specs.Sizes.{total}
use Rattle.plcx_profile.proofs.sizes.totals.Given as goal

abbrev pub invariant-loop-level : goal.invariant-loop-level
invariant-loop-level l = l.counts.items ≡ map (total l.contents l.size l._level) l.contents
