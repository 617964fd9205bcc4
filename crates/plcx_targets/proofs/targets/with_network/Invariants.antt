use Rattle.std.proofs.Common.{◌≡◌, ℕ, List, drop}
use Rattle.std.specs.List.{list_any}
use Rattle.plcx_names.specs.Told.{place_at, found_or, place_if}
use Rattle.plcx_targets.specs.Labels.{network_of, is_labelled}
use Rattle.plcx_targets.proofs.targets.with_network.Given as goal

-- what has no place yet is among those that are left
abbrev pub invariant-loop-place : goal.invariant-loop-place
invariant-loop-place l = (q : List ℕ) → found_or (place_at q l.table.entries) (place_if (list_any (is_labelled q) (network_of l.elements (drop l.place-index l.places))) l.number)
    ≡ found_or (place_at q l.initial.table.entries) (place_if (list_any (is_labelled q) (network_of l.elements l.places)) l.number)
