use Rattle.std.proofs.Common.{◌≡◌, ◌+◌, ◌++◌, drop, map}
use Rattle.plcx_drawn.specs.Shown.{shown_input_pin}
use Rattle.plcx_numbered.specs.Prepared.{input_steps}
use Rattle.plcx_prepare.proofs.calls.inputs.Given as goal

abbrev pub invariant-loop-input : goal.invariant-loop-input
invariant-loop-input g l =
    let c = g.N.Numbers.numbering l.numbers in
    (l.all.items ++ input_steps c l.instance (map shown_input_pin (drop l.input-index l.inputs)) ≡ l.fn.steps.items ++ input_steps c l.instance (map shown_input_pin l.inputs)) × (l.wire ≡ c.spare + 1)
