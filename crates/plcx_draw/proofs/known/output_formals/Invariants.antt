use Rattle.std.proofs.Common.{◌≡◌, map, take}
use Rattle.plcx_rules.specs.Callees.{output_formal}
use Rattle.plcx_draw.specs.Known.{shown_output}
use Rattle.plcx_draw.proofs.known.output_formals.Given as goal

abbrev pub invariant-loop-output : goal.invariant-loop-output
invariant-loop-output l = map shown_output l.all.items ≡ map (output_formal l.scope l.callee l.outputs) (take l.output-index l.outputs)
