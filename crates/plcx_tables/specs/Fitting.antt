-- Leaves at the places of POUs.
use Rattle.std.specs.Prelude.{◌≡◌, ℕ, List, Some, None, map, slice_get, slice_index}
use Rattle.plcx_tables.specs.declared.placed.Table.{Table}
use Rattle.plcx_tables.specs.Tabled.{leaf_named}
use Rattle.plcx_tables.specs.Numbering.{FitsIn}

-- how many leaves the POU at a place has, if there is one
abbrev pub leaves_at : List Table → ℕ → ℕ
leaves_at tables place = slice_index (map (λ (t : Table). t.leaves) tables) place

-- the offset of a leaf within it, by its name
abbrev pub leaf_at : List Table → ℕ → List ℕ → ℕ
leaf_at tables place name = elim (slice_get tables place) [ Some u ↦ leaf_named u name | None ↦ 0 ]

-- each POU's leaves have numbers of 32 bits
abbrev pub AllFit : List Table → Type 0
AllFit tables = (k : ℕ) (t : Table) → slice_get tables k ≡ Some t → FitsIn tables t
