use Rattle.std.proofs.Common.{◌≡◌, drop}
use Rattle.plcx_text_steps.specs.Numbered.{choice}
use Rattle.plcx_text_steps.proofs.choosing.chosen.Given as goal

abbrev pub invariant-loop-arm : goal.invariant-loop-arm
invariant-loop-arm l = choice (drop l.arm-index l.arms) l.value.n ≡ choice l.arms l.value.n
