use Rattle.std.proofs.Common.{◌≡◌, List, [], drop, map, option_map}
use Rattle.plcx_model.specs.Verdict.{first_breaking}
use Rattle.plcx_table.specs.declared.row.FormatRule.TheVariants.{Limits}
use Rattle.plcx_table.specs.Flat.{shown_item}
use Rattle.plcx_table.specs.Format.{place_of}
use Rattle.plcx_table.specs.Limits.{counts_in, IsFew, breaks_limits}
use Rattle.plcx_table.specs.Walk.{Item}
use Rattle.plcx_table.proofs.limits.first_too_many.Given as goal

abbrev pub invariant-loop-item : goal.invariant-loop-item
invariant-loop-item l = record {
  few : IsFew l.counts;
  left : (before : List Item) × (l.counts ≡ counts_in before) × (option_map (place_of Limits) (first_breaking breaks_limits before (map shown_item (drop l.item-index l.items))) ≡ option_map (place_of Limits) (first_breaking breaks_limits [] (map shown_item l.items)));
}
