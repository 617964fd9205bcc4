use Rattle.std.proofs.Common.{ℕ, arith}
use Rattle.plcx_funcs.specs.Pins.{input_class}
use Rattle.plcx_funcs.specs.Applied.{value_at, suits}
use Rattle.plcx_funcs.proofs.Counts.{one_more}
use Rattle.plcx_funcs.proofs.fitting.all_suit.Goals as goal

pub loop-i-preserved : goal.loop-i-preserved
loop-i-preserved c =
    one_more (λ (k : ℕ). suits (input_class c.args.func k) c.args.ty (value_at c.args.args.now k).ty) c.loop-i.i c.loop-i.invariant (grind (arith, c.suits_at.ensures, c.if-not-suits_at))
