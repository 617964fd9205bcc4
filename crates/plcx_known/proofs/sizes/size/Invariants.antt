use Rattle.std.proofs.Common.{◌≡◌, ◌+◌, ◌≤◌, drop, map}
use Rattle.std.specs.List.{sum_by}
use Rattle.plcx_known.specs.Owned.{shown_own}
use Rattle.plcx_known.specs.Sizes.{most, capped, weight}
use Rattle.plcx_known.proofs.sizes.size.Given as goal

-- the size so far, with the variables that are left
abbrev pub invariant-loop-own : goal.invariant-loop-own
invariant-loop-own l =
    (capped (l.size + sum_by (weight l.depth l.sizes) (map shown_own (drop l.own-index l.variables))) ≡ capped (sum_by (weight l.depth l.sizes) (map shown_own l.variables))) × (l.size ≤ most)
