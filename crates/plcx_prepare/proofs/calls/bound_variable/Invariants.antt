use Rattle.std.proofs.Common.{◌≡◌, drop, map}
use Rattle.plcx_drawn.specs.Shown.{shown_in_out_pin}
use Rattle.plcx_numbered.specs.Prepared.{bound_variable}
use Rattle.plcx_prepare.proofs.calls.bound_variable.Given as goal

abbrev pub invariant-loop-pin : goal.invariant-loop-pin
invariant-loop-pin l = bound_variable (map shown_in_out_pin (drop l.pin-index l.bound)) l.key ≡ bound_variable (map shown_in_out_pin l.bound) l.key
