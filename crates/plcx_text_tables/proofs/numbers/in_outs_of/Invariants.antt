use Rattle.std.proofs.Common.{◌≡◌, ◌++◌, drop, map, filter}
use Rattle.plcx_known.specs.Owned.{name_of, shown_own}
use Rattle.plcx_text_tables.specs.Tabled.{is_in_out}
use Rattle.plcx_text_tables.proofs.numbers.in_outs_of.Given as goal

abbrev pub invariant-loop-own : goal.invariant-loop-own
invariant-loop-own l = map (λ s. s.now) l.names.items ++ map name_of (filter is_in_out (map shown_own (drop l.own-index l.variables))) ≡ map name_of (filter is_in_out (map shown_own l.variables))
