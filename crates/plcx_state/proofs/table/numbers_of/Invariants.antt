use Rattle.std.proofs.Common.{◌≡◌, ℕ, List, drop, take}
use Rattle.std.specs.List.{position_from}
use Rattle.std.specs.Map.{lookup}
use Rattle.std.specs.Str.{bytes_eq}
use Rattle.plcx_types.specs.Lists.{Each}
use Rattle.plcx_state.specs.Tables.{found_or, is_printed, HasPlainNames}
use Rattle.plcx_state.proofs.table.numbers_of.Given as goal

-- what has no number yet is among the leaves that are left
abbrev pub invariant-loop-number : goal.invariant-loop-number
invariant-loop-number l = record {
  tells : (q : List ℕ) → found_or (lookup (λ k. bytes_eq q k.items) l.numbers.entries) (position_from (is_printed q) l.number (drop l.number l.leaves)) ≡ position_from (is_printed q) 0 l.leaves;
  plain : Each HasPlainNames (take l.number l.leaves);
}
