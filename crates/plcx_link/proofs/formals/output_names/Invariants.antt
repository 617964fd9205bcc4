use Rattle.std.proofs.Common.{◌≡◌, ◌++◌, drop, map}
use Rattle.plcx_link.specs.Outputs.{is_only, output_name_by}
use Rattle.plcx_link.proofs.formals.output_names.Given as goal

abbrev pub invariant-loop-output : goal.invariant-loop-output
invariant-loop-output l = record {
  only : l.only ≡ is_only l.outputs;
  rest : map (λ n. n.now) l.names.items ++ map (output_name_by l.function (is_only l.outputs)) (drop l.output-index l.outputs) ≡ map (output_name_by l.function (is_only l.outputs)) l.outputs;
}
