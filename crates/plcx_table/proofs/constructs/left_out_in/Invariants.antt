use Rattle.std.proofs.Common.{◌≡◌, ◌≤◌, List, [], drop, map, option_map}
use Rattle.plcx_model.specs.Verdict.{first_breaking}
use Rattle.plcx_table.specs.declared.row.FormatRule.TheVariants.{Constructs}
use Rattle.plcx_table.specs.Constructs.{referred, diagrams, breaks_constructs}
use Rattle.plcx_table.specs.Flat.{shown_item}
use Rattle.plcx_table.specs.Format.{place_of}
use Rattle.plcx_table.specs.Walk.{Item}
use Rattle.plcx_table.proofs.constructs.left_out_in.Given as goal

abbrev pub invariant-loop-item : goal.invariant-loop-item
invariant-loop-item l = record {
  few : l.diagrams ≤ l.item-index;
  left : (before : List Item) × (l.diagrams ≡ diagrams before) × (option_map (place_of Constructs) (first_breaking (breaks_constructs (referred 0 (map shown_item l.items))) before (map shown_item (drop l.item-index l.items))) ≡ option_map (place_of Constructs) (first_breaking (breaks_constructs (referred 0 (map shown_item l.items))) [] (map shown_item l.items)));
}
