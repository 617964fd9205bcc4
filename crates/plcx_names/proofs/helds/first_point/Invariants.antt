use Rattle.std.proofs.Common.{◌≡◌, nat_eq, drop}
use Rattle.std.specs.List.{position_from}
use Rattle.plcx_names.proofs.helds.first_point.Given as goal

-- the first of those that are left is the first of all
abbrev pub invariant-loop-i : goal.invariant-loop-i
invariant-loop-i l = position_from (nat_eq 46) l.i (drop l.i l.text) ≡ position_from (nat_eq 46) 0 l.text
