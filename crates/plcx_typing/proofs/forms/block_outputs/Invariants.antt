use Rattle.std.proofs.Common.{◌≡◌, ◌++◌, map, drop}
use Rattle.plcx_typing.specs.Building.{listed_out}
use Rattle.plcx_typing.proofs.forms.block_outputs.Given as goal

abbrev pub invariant-loop-output : goal.invariant-loop-output
invariant-loop-output l = l.outs.items ++ map (listed_out l.scope l.callee l.outputs) (drop l.output-index l.outputs) ≡ map (listed_out l.scope l.callee l.outputs) l.outputs
