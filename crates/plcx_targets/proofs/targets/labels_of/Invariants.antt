use Rattle.std.proofs.Common.{◌≡◌, ℕ, List, drop, map}
use Rattle.std.specs.List.{list_any, position_from}
use Rattle.plcx_names.specs.Told.{place_at, found_or}
use Rattle.plcx_targets.specs.Labels.{network_of, is_labelled}
use Rattle.plcx_targets.proofs.targets.labels_of.Given as goal

-- what has no place yet is among the networks that are left
abbrev pub invariant-loop-number : goal.invariant-loop-number
invariant-loop-number l = (q : List ℕ) → found_or (place_at q l.table.entries) (position_from (list_any (is_labelled q)) l.number (map (network_of l.elements) (drop l.number l.networks)))
    ≡ position_from (list_any (is_labelled q)) 0 (map (network_of l.elements) l.networks)
