use Rattle.std.proofs.Common.{take}
use Rattle.plcx_types.specs.Lists.{Each}
use Rattle.plcx_bodies.specs.Framed.{IsBelow}
use Rattle.plcx_bodies.proofs.frames.highest.Given as goal

abbrev pub invariant-loop-body : goal.invariant-loop-body
invariant-loop-body l = Each (IsBelow l.most) (take l.body-index l.bodies)
