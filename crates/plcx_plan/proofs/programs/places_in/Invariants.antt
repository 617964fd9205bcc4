use Rattle.std.proofs.Common.{◌≡◌, ℕ, List, drop}
use Rattle.std.specs.List.{position_from}
use Rattle.std.specs.Map.{lookup}
use Rattle.std.specs.Str.{bytes_eq}
use Rattle.plcx_plan.specs.Told.{found_or}
use Rattle.plcx_plan.specs.Conditions.{is_program_named}
use Rattle.plcx_plan.proofs.programs.places_in.Given as goal

-- what has no place yet is among those that are left
abbrev pub invariant-loop-place : goal.invariant-loop-place
invariant-loop-place l = (q : List ℕ) → found_or (lookup (λ k. bytes_eq q k.items) l.table.entries) (position_from (is_program_named q) l.place (drop l.place l.pous)) ≡ position_from (is_program_named q) 0 l.pous
