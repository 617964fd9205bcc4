use Rattle.std.proofs.Common.{◌≡◌, ◌++◌, map, drop, not}
use Rattle.std.specs.List.{filter}
use Rattle.plcx_model.specs.declared.body.PinOut.{PinOut}
use Rattle.plcx_rules.specs.Callees.{is_eno}
use Rattle.plcx_typing.specs.Building.{output_wire}
use Rattle.plcx_typing.proofs.forms.Layout.put_outputs.Given as goal

abbrev pub invariant-loop-output : goal.invariant-loop-output
invariant-loop-output l = record {
  forms : l.self.forms ≡ l.fn.self.forms;
  pins : l.self.pins ≡ l.fn.self.pins;
  wires : l.self.wires.items ++ map (output_wire l.scope l.callee l.element l.outputs) (filter (λ (o : PinOut). not (is_eno o)) (drop l.output-index l.outputs)) ≡ l.fn.self.wires.items ++ map (output_wire l.scope l.callee l.element l.outputs) (filter (λ (o : PinOut). not (is_eno o)) l.outputs);
}
