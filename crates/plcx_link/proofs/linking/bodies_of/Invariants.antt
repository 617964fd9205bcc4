use Rattle.std.proofs.Common.{◌≡◌, ◌++◌, drop}
use Rattle.plcx_link.specs.Judged.{bodies_of}
use Rattle.plcx_link.proofs.linking.bodies_of.Given as goal

abbrev pub invariant-loop-owner : goal.invariant-loop-owner
invariant-loop-owner l = l.bodies.items ++ bodies_of l.scope (drop l.owner-index l.owners) ≡ bodies_of l.scope l.owners
