use Rattle.std.proofs.Common.{◌≡◌, ℕ, ◌<◌, true}
use Rattle.plcx_funcs.specs.Pins.{input_class}
use Rattle.plcx_funcs.specs.Applied.{value_at, suits}
use Rattle.plcx_funcs.proofs.fitting.all_suit.Given as goal

abbrev pub invariant-loop-i : goal.invariant-loop-i
invariant-loop-i l = (k : ℕ) → k < l.i → suits (input_class l.func k) l.ty (value_at l.args k).ty ≡ true
