use Rattle.std.proofs.Common.{◌≡◌, map, take}
use Rattle.plcx_draw.specs.Known.{shown_known, looked_up}
use Rattle.plcx_draw.proofs.sheet.known_of.Given as goal

abbrev pub invariant-loop-element : goal.invariant-loop-element
invariant-loop-element l = map shown_known l.all.items ≡ map (looked_up l.scope l.owner) (take l.element-index l.elements)
