use Rattle.std.proofs.Common.{◌≡◌, ◌+◌, ◌++◌, drop, map}
use Rattle.std.specs.List.{sum_by}
use Rattle.plcx_known.specs.Owned.{shown_own}
use Rattle.plcx_text_tables.specs.Counts.{leaves_in}
use Rattle.plcx_text_tables.specs.Tabled.{all_numbered, no_count, shown_number}
use Rattle.plcx_text_tables.specs.Laws.{shown_count}
use Rattle.plcx_text_tables.proofs.numbers.all_numbered.Given as goal

abbrev pub invariant-loop-own : goal.invariant-loop-own
invariant-loop-own l = record {
  numbers : map shown_number l.numbers.items ++ all_numbered l.counts (shown_count l.count) (map shown_own (drop l.own-index l.variables)) ≡ all_numbered l.counts no_count (map shown_own l.variables);
  leaves : l.count.leaves + sum_by (leaves_in 17 l.counts) (map shown_own (drop l.own-index l.variables)) ≡ sum_by (leaves_in 17 l.counts) (map shown_own l.variables);
}
