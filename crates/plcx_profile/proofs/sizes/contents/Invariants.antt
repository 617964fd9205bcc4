use Rattle.std.proofs.Common.{◌≡◌, ◌++◌, drop, map}
use Rattle.plcx_profile.specs.Sizes.{content_of, contents}
use Rattle.plcx_profile.proofs.sizes.contents.Given as goal

abbrev pub invariant-loop-pou : goal.invariant-loop-pou
invariant-loop-pou l = l.all.items ++ map (content_of l.blocks) (drop l.pou-index l.pous) ≡ contents l.blocks
