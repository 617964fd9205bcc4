use Rattle.std.proofs.Common.{◌≡◌, map, take, length}
use Rattle.plcx_types.specs.Name.{in_lower_case}
use Rattle.plcx_state.proofs.path.are_same.Given as goal

-- the names agree so far
abbrev pub invariant-loop-i : goal.invariant-loop-i
invariant-loop-i l = record {
  alike : map in_lower_case (take l.i l.left) ≡ map in_lower_case (take l.i l.right);
  lengths : length l.left ≡ length l.right;
}
