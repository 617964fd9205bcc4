use Rattle.std.proofs.Common.{◌≡◌, ℕ, List, drop}
use Rattle.std.specs.List.{position_from}
use Rattle.plcx_names.specs.declared.pins.OwnPin.{OwnPin}
use Rattle.plcx_names.specs.Seen.{is_pin, shown_pin}
use Rattle.plcx_names.specs.Told.{place_at, found_or}
use Rattle.plcx_names.proofs.pins.places_of.Given as goal

-- what has no place yet is among those that are left
abbrev pub invariant-loop-place : goal.invariant-loop-place
invariant-loop-place l = (q : List ℕ) → found_or (place_at q l.table.entries) (position_from (λ (p : OwnPin). is_pin q (shown_pin p)) l.place (drop l.place l.pins)) ≡ position_from (λ (p : OwnPin). is_pin q (shown_pin p)) 0 l.pins
