use Rattle.std.proofs.Common.{◌≡◌, ◌++◌, drop, map, filter}
use Rattle.plcx_known.specs.Owned.{shown_own, name_of, names_in_out, in_out_names}
use Rattle.plcx_known.proofs.owner.in_outs_of.Given as goal

-- the names so far, and those of the variables that are left
abbrev pub invariant-loop-own : goal.invariant-loop-own
invariant-loop-own l = map (λ s. s.now) l.found.items ++ map name_of (filter (names_in_out (map shown_own l.all)) (map shown_own (drop l.own-index l.all))) ≡ in_out_names (map shown_own l.all)
