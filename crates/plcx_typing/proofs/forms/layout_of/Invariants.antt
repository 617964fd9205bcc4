use Rattle.std.proofs.Common.{◌≡◌, ◌++◌, map, drop}
use Rattle.plcx_model.specs.declared.body.BodyElement.{BodyElement}
use Rattle.plcx_rules.specs.Forms.{form_of, pins_from, wires_from}
use Rattle.plcx_typing.proofs.forms.layout_of.Given as goal

abbrev pub invariant-loop-element : goal.invariant-loop-element
invariant-loop-element l = record {
  forms : l.layout.forms.items ++ map (λ (x : BodyElement). form_of l.scope l.owner x.kind) (drop l.element l.elements) ≡ map (λ (x : BodyElement). form_of l.scope l.owner x.kind) l.elements;
  pins : l.layout.pins.items ++ pins_from l.scope l.owner l.element (drop l.element l.elements) ≡ pins_from l.scope l.owner 0 l.elements;
  wires : l.layout.wires.items ++ wires_from l.scope l.owner l.element (drop l.element l.elements) ≡ wires_from l.scope l.owner 0 l.elements;
}
