use Rattle.std.proofs.Common.{◌≡◌, drop, map}
use Rattle.plcx_table.specs.Flat.{shown_item, first_place}
use Rattle.plcx_table.specs.Rules.{breaks_attributes}
use Rattle.plcx_table.specs.Walk.{Item}
use Rattle.plcx_table.proofs.verdict.first_malformed.Given as goal

-- the first of those that are left is the first of all
abbrev pub invariant-loop-item : goal.invariant-loop-item
invariant-loop-item l = first_place (λ (x : Item). breaks_attributes l.namespace x.fate x.element) (map shown_item (drop l.item-index l.items)) ≡ first_place (λ (x : Item). breaks_attributes l.namespace x.fate x.element) (map shown_item l.items)
