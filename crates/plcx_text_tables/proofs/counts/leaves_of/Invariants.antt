use Rattle.std.proofs.Common.{◌≡◌, ◌+◌, map, drop}
use Rattle.std.specs.List.{sum_by}
use Rattle.plcx_known.specs.Owned.{shown_own}
use Rattle.plcx_text_tables.specs.Counts.{leaves_in}
use Rattle.plcx_text_tables.proofs.counts.leaves_of.Given as goal

abbrev pub invariant-loop-own : goal.invariant-loop-own
invariant-loop-own l = l.count + sum_by (leaves_in l.depth l.counts) (map shown_own (drop l.own-index l.variables)) ≡ sum_by (leaves_in l.depth l.counts) (map shown_own l.variables)
