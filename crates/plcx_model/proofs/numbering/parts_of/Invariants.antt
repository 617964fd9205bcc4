use Rattle.std.proofs.Common.{◌≡◌, map, take}
use Rattle.plcx_model.specs.declared.body.BodyElement.{BodyElement}
use Rattle.plcx_model.specs.Numbering.{kind_takes_part}
use Rattle.plcx_model.proofs.numbering.parts_of.Given as goal

abbrev pub invariant-loop-element : goal.invariant-loop-element
invariant-loop-element l = l.parts.items ≡ map (λ (e : BodyElement). kind_takes_part e.kind) (take l.element-index l.elements)
