use Rattle.std.proofs.Common.{◌≡◌, drop}
use Rattle.plcx_view.specs.Blocks.{is_negated, beside}
use Rattle.plcx_draw.proofs.wired.is_negated.Given as goal

abbrev pub invariant-loop-output : goal.invariant-loop-output
invariant-loop-output l = is_negated (beside (drop l.output-index l.outputs)) ≡ is_negated (beside l.outputs)
