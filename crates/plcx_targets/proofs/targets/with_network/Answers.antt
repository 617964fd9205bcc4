use Rattle.std.proofs.Common.{map, drop, ap, ◌∙◌, ◌+◌}
use Rattle.std.specs.List.{list_any}
use Rattle.plcx_names.specs.Told.{place_at, found_or, place_if}
use Rattle.plcx_drawn.specs.Shown.{shown_element}
use Rattle.plcx_targets.specs.Labels.{network_of, is_labelled}
use Rattle.plcx_targets.proofs.Jumps.{label_here, label_past}
use Rattle.plcx_targets.proofs.targets.with_network.Goals as goal
use Rattle.plcx_targets.proofs.targets.with_network.Goals.{in-Some+in_ok-table, in_default}

pub loop-place-preserved : goal.loop-place-preserved
loop-place-preserved c = λ q. elim c.match-element_at.branch [
  | in-Some+in_ok-table w ↦
      label_here (is_labelled q) (map shown_element c.args.elements.now) c.args.places.now c.loop-place.place-index (shown_element w.in-Some.element.now) c.args.number (place_at q c.loop-place.table.entries) _ _ c.loop-place-test.true w.in-Some.ensures
      (ap (λ t. place_at q t.entries) w.table-is ∙ w.in_ok-table.ensures q) (c.loop-place.invariant q)
  | in_default w ↦
      ap (λ t. found_or (place_at q t.entries) (place_if (list_any (is_labelled q) (network_of c.args.elements.now (drop (c.loop-place.place-index + 1) c.args.places.now))) c.args.number)) w.table-is
      ∙ label_past (is_labelled q) (map shown_element c.args.elements.now) c.args.places.now c.loop-place.place-index c.args.number (place_at q c.loop-place.table.entries) _ c.loop-place-test.true w.in_default.ensures (c.loop-place.invariant q)
]
