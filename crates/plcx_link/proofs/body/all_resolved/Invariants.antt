use Rattle.std.proofs.Common.{◌≡◌, ◌++◌, drop, map}
use Rattle.plcx_link.specs.Bodies.{resolved}
use Rattle.plcx_link.proofs.body.all_resolved.Given as goal

abbrev pub invariant-loop-element : goal.invariant-loop-element
invariant-loop-element l = l.all.items ++ map (resolved l.scope l.owner) (drop l.element-index l.elements) ≡ map (resolved l.scope l.owner) l.elements
