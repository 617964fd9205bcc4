use Rattle.std.proofs.Common.{◌≡◌, drop}
use Rattle.std.specs.List.{find}
use Rattle.plcx_rules.specs.Callees.{is_eno}
use Rattle.plcx_draw.proofs.wired.eno_of.Given as goal

abbrev pub invariant-loop-output : goal.invariant-loop-output
invariant-loop-output l = find is_eno (drop l.output-index l.outputs) ≡ find is_eno l.outputs
