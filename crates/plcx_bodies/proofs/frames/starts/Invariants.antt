use Rattle.std.proofs.Common.{◌≡◌, ◌+◌, length}
use Rattle.std.specs.Prelude.{Some, slice_get}
use Rattle.plcx_types.specs.Lists.{Each}
use Rattle.plcx_bodies.specs.Framed.{EndsBefore}
use Rattle.plcx_bodies.proofs.frames.starts.Given as goal

abbrev pub invariant-loop-level : goal.invariant-loop-level
invariant-loop-level l = record {
  long : length l.starts.items ≡ l.level + 1;
  last : slice_get l.starts.items l.level ≡ Some l.last;
  before : Each (EndsBefore l.starts.items) l.bodies;
}
