use Rattle.std.proofs.Common.{◌≡◌, max, map, drop}
use Rattle.plcx_known.specs.Owned.{shown_own}
use Rattle.plcx_text_tables.specs.Counts.{tallest}
use Rattle.plcx_text_tables.proofs.counts.tallest.Given as goal

abbrev pub invariant-loop-own : goal.invariant-loop-own
invariant-loop-own l = max l.height (tallest l.heights (map shown_own (drop l.own-index l.variables))) ≡ tallest l.heights (map shown_own l.variables)
