use Rattle.std.proofs.Common.{◌≡◌, ℕ, nat_eq, drop}
use Rattle.std.specs.List.{position_from}
use Rattle.plcx_model.specs.declared.body.BodyElement.{BodyElement}
use Rattle.plcx_names.specs.Told.{place_of_number, found_or}
use Rattle.plcx_names.proofs.places.ids_of.Given as goal

-- what has no place yet is among those that are left
abbrev pub invariant-loop-place : goal.invariant-loop-place
invariant-loop-place l = (q : ℕ) → found_or (place_of_number q l.table.entries) (position_from (λ (e : BodyElement). nat_eq e.local_id q) l.place (drop l.place l.elements)) ≡ position_from (λ (e : BodyElement). nat_eq e.local_id q) 0 l.elements
