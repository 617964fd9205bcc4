-- The tables of POUs.
use Rattle.std.specs.Prelude.{◌≡◌, ℕ, true, false, List, [], Option, Some, None, option_and_then, slice_get}
use Rattle.std.specs.List.{AllZip}
use Rattle.plcx_rules.specs.Texts.{same_name}
use Rattle.plcx_tables.specs.declared.levels.Rule.TheVariants.{Leaves, Memories, Levels}
use Rattle.plcx_tables.specs.declared.own.Own.{Own}
use Rattle.plcx_tables.specs.declared.placed.Placed.{Placed}
use Rattle.plcx_tables.specs.declared.placed.Table.{Table}
use Rattle.plcx_tables.specs.Tables.{number_in}
use Rattle.plcx_tables.specs.Named.{text_of}
use Rattle.plcx_tables.specs.Levels.{leaves_of, memories_of, level_of, stepped, repeated}
use Rattle.plcx_tables.specs.Placing.{placed_from}

-- the table of a POU, by how many leaves, memories and levels POUs have
pub record IsPlaced (leaves memories levels : List ℕ) (own : Own) (table : Table) : Type 0 where
  pub is_own : table.own.now ≡ own
  pub placed : table.placed.items ≡ placed_from leaves memories 0 own.memories.count 0 own.variables.items
  pub all_leaves : table.leaves ≡ leaves_of true own leaves
  pub all_memories : table.memories ≡ memories_of own memories
  pub its_level : table.level ≡ level_of own levels

-- how many leaves POUs have, 17 levels deep, how many memories, and how many levels of blocks below them, 16 at most
abbrev pub deep_leaves : List Own → List ℕ
deep_leaves owns = repeated 16 (stepped (Leaves true) owns) (stepped (Leaves false) owns [])

abbrev pub deep_memories : List Own → List ℕ
deep_memories owns = repeated 17 (stepped Memories owns) []

abbrev pub deep_levels : List Own → List ℕ
deep_levels owns = repeated 16 (stepped Levels owns) []

-- the tables of POUs
abbrev pub ArePlaced : List Own → List Table → Type 0
ArePlaced owns tables = AllZip (IsPlaced (deep_leaves owns) (deep_memories owns) (deep_levels owns)) owns tables

-- the variable of a name
abbrev pub found : Table → List ℕ → Option Placed
found table name = option_and_then (slice_get table.placed.items) (number_in text_of same_name table.own.now.names.numbers.entries name)

-- the offset of its first leaf
abbrev pub leaf_named : Table → List ℕ → ℕ
leaf_named table name = elim (found table name) [ Some p ↦ p.leaf | None ↦ table.leaves ]
