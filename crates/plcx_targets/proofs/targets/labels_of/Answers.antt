use Rattle.std.proofs.Common.{List, ℕ, ap, ◌∙◌}
use Rattle.std.specs.List.{list_any}
use Rattle.plcx_names.specs.Told.{place_at, found_or, place_if}
use Rattle.plcx_targets.specs.Labels.{network_of, is_labelled}
use Rattle.plcx_targets.proofs.Jumps.{network_here, network_last}
use Rattle.plcx_targets.proofs.targets.labels_of.Goals as goal

pub loop-number-preserved : goal.loop-number-preserved
loop-number-preserved c = λ q.
    let elements = c.args.elements.now in
    let before = place_at q c.loop-number.table.entries in
    let more = c.in_ok-table.ensures q ∙ ap (λ (places : List ℕ). found_or before (place_if (list_any (is_labelled q) (network_of elements places)) c.loop-number.number)) c.as_slice.ensures in
    network_here (list_any (is_labelled q)) (network_of elements) c.args.networks.now c.loop-number.number before _ c.index-networks-number.result (place_at q c.in_ok-table.table.entries)
    c.loop-number-test.true c.index-networks-number.is more (c.loop-number.invariant q)

pub returns : goal.returns
returns c = λ q. network_last (list_any (is_labelled q)) (network_of c.args.elements.now) c.args.networks.now c.loop-number.number (place_at q c.loop-number.table.entries) _ c.loop-number-test.false (c.loop-number.invariant q)
