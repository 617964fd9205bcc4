use Rattle.std.proofs.Common.{◌≡◌, ℕ, List, drop}
use Rattle.std.specs.List.{position_from}
use Rattle.plcx_state.specs.Tables.{number_at, found_or}
use Rattle.plcx_known.specs.Names.{has_key}
use Rattle.plcx_known.proofs.names.places_of.Given as goal

-- what has no place yet is among the names that are left
abbrev pub invariant-loop-place : goal.invariant-loop-place
invariant-loop-place l = (key : List ℕ) → found_or (number_at key l.table.entries) (position_from (λ n. has_key key n.now) l.place (drop l.place l.names)) ≡ position_from (λ n. has_key key n.now) 0 l.names
