use Rattle.std.proofs.Common.{◌≡◌, ℕ, drop, fold, slice_get}
use Rattle.plcx_profile.specs.Rounds.{count_or}
use Rattle.plcx_profile.specs.Sizes.{plus}
use Rattle.plcx_profile.proofs.sizes.sum_of.Given as goal

abbrev pub invariant-loop-place : goal.invariant-loop-place
invariant-loop-place l = fold (λ m (b : ℕ). plus m (count_or (slice_get l.counts b))) l.n (drop l.place-index l.places) ≡ fold (λ m (b : ℕ). plus m (count_or (slice_get l.counts b))) l.start l.places
