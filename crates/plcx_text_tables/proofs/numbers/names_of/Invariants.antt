use Rattle.std.proofs.Common.{◌≡◌, ◌++◌, drop, map}
use Rattle.plcx_known.specs.Owned.{name_of, shown_own}
use Rattle.plcx_text_tables.proofs.numbers.names_of.Given as goal

abbrev pub invariant-loop-own : goal.invariant-loop-own
invariant-loop-own l = map (λ s. s.now) l.names.items ++ map name_of (map shown_own (drop l.own-index l.variables)) ≡ map name_of (map shown_own l.variables)
