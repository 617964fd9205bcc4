use Rattle.std.proofs.Common.{◌≡◌, ◌≤◌, ◌||◌, ℕ, drop, map}
use Rattle.std.specs.List.{list_any}
use Rattle.std.specs.HashSet.{contains_by}
use Rattle.plcx_table.specs.Flat.{shown_item}
use Rattle.plcx_table.specs.Constructs.{referred, is_pair}
use Rattle.plcx_table.proofs.constructs.references.Given as goal

-- what is noted so far, and what those that are left name
abbrev pub invariant-loop-item : goal.invariant-loop-item
invariant-loop-item l = record {
  few : l.diagrams ≤ l.item-index;
  named : (d n : ℕ) → (contains_by (is_pair d n) l.set || list_any (is_pair d n) (referred l.diagrams (map shown_item (drop l.item-index l.items)))) ≡ list_any (is_pair d n) (referred 0 (map shown_item l.items));
}
