-- The numbers that a network of a POU uses, by the tables of all POUs and that of its wires.
use Rattle.std.specs.Prelude.{◌≡◌, ◌+◌, ◌<◌, ◌^◌, ℕ, List, [], Option, Some, None, map, unwrap_or, slice_get, if◌then◌else◌}
use Rattle.std.specs.List.{flat_map}
use Rattle.plcx_std.specs.declared.kind.StdKind.TheVariants as kind
use Rattle.plcx_meaning.specs.Base.{Memory, AtOutput, same_memory}
use Rattle.plcx_meaning.specs.Diagram.{DiagramElement, ports}
use Rattle.plcx_steps.specs.declared.program.Operand.{Operand}
use Rattle.plcx_steps.specs.declared.program.Operand.TheVariants.{Leaf, InOut}
use Rattle.plcx_numbered.specs.Prepared.{Numbering, Callee, Block, User}
use Rattle.plcx_prepare.specs.Called.{key_of}
use Rattle.plcx_tables.specs.declared.keys.Key.{Key}
use Rattle.plcx_tables.specs.declared.placed.Placed.{Placed}
use Rattle.plcx_tables.specs.declared.placed.Table.{Table}
use Rattle.plcx_tables.specs.Tables.{number_in}
use Rattle.plcx_tables.specs.Named.{memory_of}
use Rattle.plcx_tables.specs.Telling.{Told, shown}
use Rattle.plcx_tables.specs.Owned.{outputs_of}
use Rattle.plcx_tables.specs.Placing.{pin_place, span}
use Rattle.plcx_tables.specs.Tabled.{found, leaf_named}

-- the outputs of elements, which are the first wires of a network
abbrev pub outputs : List DiagramElement → List Memory
outputs es = flat_map (λ (e : DiagramElement). outputs_of e.id (ports e.kind)) es

-- the offset of a leaf within a variable, by its name
abbrev pub within : List Table → Told → List ℕ → ℕ
within tables t x = if t.elementary then 0 else (elim t.standard [
  | Some k ↦ pin_place k x
  | None ↦ elim t.block [ Some place ↦ elim (slice_get tables place) [ Some u ↦ leaf_named u x | None ↦ 0 ] | None ↦ 0 ]
])

-- where a variable of that name is
abbrev pub operand_named : Table → List ℕ → Operand
operand_named own x = elim (found own x) [ Some p ↦ if p.variable.in_out then InOut p.in_out else Leaf p.leaf | None ↦ Leaf own.leaves ]

-- the leaf of a variable within an instance
abbrev pub inner_named : List Table → Table → (instance x : List ℕ) → ℕ
inner_named tables own instance x = elim (found own instance) [ Some p ↦ p.leaf + within tables (shown p.variable) x | None ↦ own.leaves ]

-- the names of the in-outs of a block
abbrev pub in_outs_at : List Table → Option ℕ → List (List ℕ)
in_outs_at tables block = elim block [ Some place ↦ elim (slice_get tables place) [ Some u ↦ map key_of u.own.now.in_outs.items | None ↦ [] ] | None ↦ [] ]

-- what an instance calls
abbrev pub callee_named : List Table → Table → List ℕ → Callee
callee_named tables own instance = elim (found own instance) [
  | Some p ↦ elim p.variable.standard [ Some k ↦ Block k p.leaf | None ↦ User p.variable.pou p.leaf p.memory (in_outs_at tables p.variable.block) ]
  | None ↦ Block kind.Ton 0
]

-- the numbers of a network of the POU of this table, whose outputs have these numbers, so many in all
abbrev pub numbering_by : List Table → Table → List (Key × ℕ) → ℕ → Numbering
numbering_by tables own entries count = record {
  wire = λ id pin. unwrap_or (number_in memory_of same_memory entries (AtOutput id pin)) count;
  spare = count;
  operand = operand_named own;
  inner = inner_named tables own;
  memory = λ k. unwrap_or (number_in memory_of same_memory own.own.now.memories.numbers.entries k) own.own.now.memories.count;
  callee = callee_named tables own;
}

-- no sum of a first leaf and an offset within its variable leaves 32 bits
abbrev pub FitsIn : List Table → Table → Type 0
FitsIn tables own = (i : ℕ) (p : Placed) → slice_get own.placed.items i ≡ Some p → p.leaf + span (map (λ (t : Table). t.leaves) tables) (shown p.variable) < 2 ^ 32
