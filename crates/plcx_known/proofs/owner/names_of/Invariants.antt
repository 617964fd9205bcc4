use Rattle.std.proofs.Common.{◌≡◌, ◌++◌, drop, map}
use Rattle.plcx_known.specs.Owned.{shown_own, name_of}
use Rattle.plcx_known.proofs.owner.names_of.Given as goal

abbrev pub invariant-loop-own : goal.invariant-loop-own
invariant-loop-own l = map (λ s. s.now) l.names.items ++ map name_of (map shown_own (drop l.own-index l.all)) ≡ map name_of (map shown_own l.all)
