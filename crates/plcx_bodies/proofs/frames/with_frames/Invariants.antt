use Rattle.std.proofs.Common.{◌≡◌, map}
use Rattle.plcx_bodies.specs.Framed.{framed}
use Rattle.plcx_bodies.proofs.frames.with_frames.Given as goal

abbrev pub invariant-loop-body : goal.invariant-loop-body
invariant-loop-body l = l.all.items ≡ map (framed l.starts.items) l.yielded
