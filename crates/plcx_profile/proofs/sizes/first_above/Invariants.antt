use Rattle.std.proofs.Common.{◌≡◌, drop}
use Rattle.plcx_profile.specs.Rounds.{first_above}
use Rattle.plcx_profile.proofs.sizes.first_above.Given as goal

abbrev pub invariant-loop-place : goal.invariant-loop-place
invariant-loop-place l = first_above l.leaves l.parts l.place (drop l.place l.pous) ≡ first_above l.leaves l.parts 0 l.pous
