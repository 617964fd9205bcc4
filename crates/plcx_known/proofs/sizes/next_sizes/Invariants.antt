use Rattle.std.proofs.Common.{◌≡◌, ◌++◌, List, drop, map}
use Rattle.std.specs.List.{sum_by}
use Rattle.plcx_known.specs.Owned.{Typed}
use Rattle.plcx_known.specs.Sizes.{capped, weight}
use Rattle.plcx_known.proofs.sizes.next_sizes.Given as goal

abbrev pub invariant-loop-owner : goal.invariant-loop-owner
invariant-loop-owner l =
    let told = λ (ts : List Typed). capped (sum_by (weight l.depth l.sizes) ts) in
    l.next.items ++ map told (drop l.owner-index l.owners) ≡ map told l.owners
