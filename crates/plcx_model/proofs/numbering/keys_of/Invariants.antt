use Rattle.std.proofs.Common.{◌≡◌, map, take}
use Rattle.plcx_model.specs.Numbering.{key_of}
use Rattle.plcx_model.proofs.numbering.keys_of.Given as goal

abbrev pub invariant-loop-element : goal.invariant-loop-element
invariant-loop-element l = l.keys.items ≡ map key_of (take l.element-index l.elements)
