use Rattle.std.proofs.Common.{◌≡◌, ℕ, List, drop, map}
use Rattle.plcx_types.specs.Name.{in_lower_case}
use Rattle.plcx_ticks.specs.ReadTicks.{Notes, are_new, are_once}
use Rattle.plcx_ticks.proofs.once.are_once.Given as goal

-- the set has the names that have come, and those that are left decide
abbrev pub invariant-loop-i : goal.invariant-loop-i
invariant-loop-i l = (before : List (List ℕ)) × Notes before l.seen.keys × (are_new before (map in_lower_case (drop l.i l.header)) ≡ are_once l.header)
