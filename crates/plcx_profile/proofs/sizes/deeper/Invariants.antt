use Rattle.std.proofs.Common.{◌≡◌, ◌++◌, drop, map}
use Rattle.plcx_profile.specs.Rounds.{reached}
use Rattle.plcx_profile.proofs.sizes.deeper.Given as goal

abbrev pub invariant-loop-content : goal.invariant-loop-content
invariant-loop-content l = l.all.items ++ map (reached l.flags) (drop l.content-index l.contents) ≡ map (reached l.flags) l.contents
