use Rattle.std.proofs.Common.{◌≡◌, ◌++◌, map, drop}
use Rattle.plcx_typing.specs.Building.{input_pin}
use Rattle.plcx_typing.proofs.forms.Layout.put_inputs.Given as goal

abbrev pub invariant-loop-one : goal.invariant-loop-one
invariant-loop-one l = record {
  forms : l.self.forms ≡ l.fn.self.forms;
  wires : l.self.wires ≡ l.fn.self.wires;
  pins : l.self.pins.items ++ map (input_pin l.scope l.callee l.element l.inputs) (drop l.one-index l.inputs) ≡ l.fn.self.pins.items ++ map (input_pin l.scope l.callee l.element l.inputs) l.inputs;
}
