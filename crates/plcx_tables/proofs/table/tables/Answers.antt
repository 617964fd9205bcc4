use Rattle.std.proofs.Common.{◌≡◌, ℕ, true, List, ap, ◌∙◌}
use Rattle.std.specs.List.{AllZip}
use Rattle.plcx_tables.specs.declared.levels.Rule.TheVariants.{Leaves, Memories, Levels}
use Rattle.plcx_tables.specs.declared.own.Own.{Own}
use Rattle.plcx_tables.specs.declared.placed.Table.{Table}
use Rattle.plcx_tables.specs.Levels.{stepped, repeated}
use Rattle.plcx_tables.specs.Tabled.{IsPlaced, deep_leaves, deep_memories, deep_levels}
use Rattle.plcx_tables.proofs.table.tables.Goals as goal

placed_as : (a a' b b' c c' : List ℕ) (owns : List Own) (tables : List Table) → a ≡ a' → b ≡ b' → c ≡ c' → AllZip (IsPlaced a b c) owns tables → AllZip (IsPlaced a' b' c') owns tables
placed_as a a' b b' c c' owns tables p q r h = rw (p, q, r) at h

pub returns : goal.returns
returns c =
    let owns = c.args.owns.now in
    placed_as _ (deep_leaves owns) _ (deep_memories owns) _ (deep_levels owns) owns c.in_ok-tables_by.field-0.items
    (c.deref.ensures.value ∙ c.in_ok-leaves.ensures ∙ ap (repeated 16 (stepped (Leaves true) owns)) c.in_ok-first.ensures)
    (c.deref-2.ensures.value ∙ c.in_ok-memories.ensures ∙ ap (repeated 17 (stepped Memories owns)) c.new.ensures.items)
    (c.deref-3.ensures.value ∙ c.in_ok-levels.ensures ∙ ap (repeated 16 (stepped Levels owns)) c.new-2.ensures.items)
    c.in_ok-tables_by.ensures
