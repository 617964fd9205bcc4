use Rattle.std.proofs.Common.{◌≡◌, map}
use Rattle.plcx_profile.specs.Sizes.{reaches}
use Rattle.plcx_profile.proofs.sizes.deep.Given as goal

abbrev pub invariant-loop-level : goal.invariant-loop-level
invariant-loop-level l = l.flags.items ≡ map (reaches l.contents l._level) l.contents
