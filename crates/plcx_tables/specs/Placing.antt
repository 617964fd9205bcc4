-- Where the leaves, memories and in-outs of a POU are, by its table.
use Rattle.std.specs.Prelude.{ℕ, ◌+◌, true, List, [], ◌∷◌, Some, None, length, unwrap_or, slice_index, if◌then◌else◌}
use Rattle.std.specs.List.{position_from}
use Rattle.plcx_std.specs.declared.kind.StdKind.{StdKind}
use Rattle.plcx_std.specs.Pins.{Pin, pins}
use Rattle.plcx_rules.specs.Texts.{same_name}
use Rattle.plcx_tables.specs.declared.placed.Placed.{Placed}
use Rattle.plcx_tables.specs.declared.variables.Declared.{Declared}
use Rattle.plcx_tables.specs.Telling.{Told, shown}
use Rattle.plcx_tables.specs.Levels.{leaf_weight, memory_weight}

-- variables in their order, from so many leaves, memories and in-outs on, by how many leaves and memories POUs have
abbrev pub placed_from : (leaves memories : List ℕ) → (leaf memory in_outs : ℕ) → List Declared → List Placed
placed_from leaves memories l m j [] = []
placed_from leaves memories l m j (d ∷ ds) =
    record { variable = d; leaf = l; memory = m; in_out = j }
    ∷ placed_from leaves memories (l + leaf_weight true leaves (shown d)) (m + memory_weight memories (shown d)) (j + (if d.in_out then 1 else 0)) ds

-- the place of a leaf among those of a standard block, by its name; that behind the last where there is none
abbrev pub pin_place : StdKind → List ℕ → ℕ
pin_place k name = unwrap_or (position_from (λ (p : Pin). same_name p.name name) 0 (pins k)) (length (pins k))

-- how many leaves are within a variable, by how many POUs have
abbrev pub span : List ℕ → Told → ℕ
span totals t = if t.elementary then 0 else (elim t.standard [ Some k ↦ length (pins k) | None ↦ elim t.block [ Some place ↦ slice_index totals place | None ↦ 0 ] ])
