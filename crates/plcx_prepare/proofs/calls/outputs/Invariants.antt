use Rattle.std.proofs.Common.{◌≡◌, ◌++◌, drop, map}
use Rattle.plcx_drawn.specs.Shown.{shown_output_pin}
use Rattle.plcx_numbered.specs.Prepared.{output_steps}
use Rattle.plcx_prepare.proofs.calls.outputs.Given as goal

abbrev pub invariant-loop-one : goal.invariant-loop-one
invariant-loop-one g l =
    let c = g.N.Numbers.numbering l.numbers in
    l.all.items ++ output_steps c l.instance l.id (map shown_output_pin (drop l.one-index l.outputs)) ≡ l.fn.steps.items ++ output_steps c l.instance l.id (map shown_output_pin l.outputs)
