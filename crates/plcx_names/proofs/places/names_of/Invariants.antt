use Rattle.std.proofs.Common.{◌≡◌, ℕ, List, drop}
use Rattle.std.specs.List.{position_from}
use Rattle.plcx_names.specs.Bodies.{is_key_of}
use Rattle.plcx_names.specs.Told.{place_at, found_or}
use Rattle.plcx_names.proofs.places.names_of.Given as goal

-- what has no place yet is among those that are left
abbrev pub invariant-loop-place : goal.invariant-loop-place
invariant-loop-place l = (q : List ℕ) → found_or (place_at q l.table.entries) (position_from (is_key_of l.naming q) l.place (drop l.place l.elements)) ≡ position_from (is_key_of l.naming q) 0 l.elements
