use Rattle.std.proofs.Common.{◌≡◌, ◌++◌, map, drop}
use Rattle.plcx_typing.specs.Building.{in_out_pin}
use Rattle.plcx_typing.proofs.forms.Layout.put_in_outs.Given as goal

abbrev pub invariant-loop-one : goal.invariant-loop-one
invariant-loop-one l = record {
  forms : l.self.forms ≡ l.fn.self.forms;
  wires : l.self.wires ≡ l.fn.self.wires;
  pins : l.self.pins.items ++ map (in_out_pin l.scope l.callee l.element) (drop l.one-index l.in_outs) ≡ l.fn.self.pins.items ++ map (in_out_pin l.scope l.callee l.element) l.in_outs;
}
