use Rattle.std.proofs.Common.{◌≡◌, map}
use Rattle.plcx_known.specs.Sizes.{capped, sizes}
use Rattle.plcx_known.proofs.sizes.sizes.Given as goal

abbrev pub invariant-loop-depth : goal.invariant-loop-depth
invariant-loop-depth l = l.all.items ≡ map capped (sizes l.depth l.owners)
