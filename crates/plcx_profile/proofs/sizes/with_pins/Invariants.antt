use Rattle.std.proofs.Common.{◌≡◌, drop}
use Rattle.plcx_profile.specs.Sizes.{with_pins}
use Rattle.plcx_profile.proofs.sizes.with_pins.Given as goal

abbrev pub invariant-loop-pin : goal.invariant-loop-pin
invariant-loop-pin l = with_pins l.n (drop l.pin-index l.pins) ≡ with_pins l.initial.n l.pins
