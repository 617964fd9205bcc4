use Rattle.std.proofs.Common.{◌≡◌, ◌++◌, drop, map}
use Rattle.plcx_profile.specs.Rounds.{summed}
use Rattle.plcx_profile.proofs.sizes.larger.Given as goal

abbrev pub invariant-loop-content : goal.invariant-loop-content
invariant-loop-content l = l.all.items ++ map (summed l.size l.counts) (drop l.content-index l.contents) ≡ map (summed l.size l.counts) l.contents
