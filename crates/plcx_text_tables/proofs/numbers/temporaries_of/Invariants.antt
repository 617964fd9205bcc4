use Rattle.std.proofs.Common.{◌≡◌, ◌++◌, drop, map, filter}
use Rattle.plcx_known.specs.Owned.{shown_own}
use Rattle.plcx_text_tables.specs.Tabled.{is_temporary, first_in}
use Rattle.plcx_text_tables.proofs.numbers.temporaries_of.Given as goal

abbrev pub invariant-loop-own : goal.invariant-loop-own
invariant-loop-own l = l.values.items ++ map first_in (filter is_temporary (map shown_own (drop l.own-index l.variables))) ≡ map first_in (filter is_temporary (map shown_own l.variables))
