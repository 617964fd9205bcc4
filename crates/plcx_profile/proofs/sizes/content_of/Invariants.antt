use Rattle.std.proofs.Common.{◌≡◌, drop, fold}
use Rattle.plcx_profile.specs.Sizes.{with_list, content_of}
use Rattle.plcx_profile.proofs.sizes.content_of.Given as goal

abbrev pub invariant-loop-list : goal.invariant-loop-list
invariant-loop-list l = fold (with_list l.blocks) l.content (drop l.list-index l.list-items) ≡ content_of l.blocks l.pou
