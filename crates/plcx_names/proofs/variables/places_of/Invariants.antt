use Rattle.std.proofs.Common.{◌≡◌, ℕ, List, drop}
use Rattle.std.specs.List.{position_from}
use Rattle.plcx_names.specs.declared.variables.OwnVariable.{OwnVariable}
use Rattle.plcx_names.specs.Seen.{is_declared, shown_variable}
use Rattle.plcx_names.specs.Told.{place_at, found_or}
use Rattle.plcx_names.proofs.variables.places_of.Given as goal

-- what has no place yet is among those that are left
abbrev pub invariant-loop-place : goal.invariant-loop-place
invariant-loop-place l = (q : List ℕ) → found_or (place_at q l.table.entries) (position_from (λ (v : OwnVariable). is_declared q (shown_variable v)) l.place (drop l.place l.all)) ≡ position_from (λ (v : OwnVariable). is_declared q (shown_variable v)) 0 l.all
