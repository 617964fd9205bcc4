use Rattle.std.proofs.Common.{take}
use Rattle.plcx_types.specs.Lists.{Each}
use Rattle.plcx_bodies.specs.Framed.{IsWithin}
use Rattle.plcx_bodies.proofs.networks.width.Given as goal

abbrev pub invariant-loop-network : goal.invariant-loop-network
invariant-loop-network l = Each (IsWithin l.most) (take l.network-index l.networks)
