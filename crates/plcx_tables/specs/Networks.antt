-- The numbers of a network, as the code keeps them.
use Rattle.std.specs.Prelude.{◌≡◌, ℕ, List, Some, slice_get}
use Rattle.plcx_meaning.specs.Diagram.{DiagramElement}
use Rattle.plcx_numbered.specs.Prepared.{Numbering}
use Rattle.plcx_tables.specs.declared.placed.Table.{Table}
use Rattle.plcx_tables.specs.declared.network.NetworkNumbers.{NetworkNumbers}
use Rattle.plcx_tables.specs.Named.{MemoriesTold}
use Rattle.plcx_tables.specs.Owned.{places_of}
use Rattle.plcx_tables.specs.Numbering.{outputs, numbering_by}

-- what they are
abbrev pub numbering_of : NetworkNumbers → Numbering
numbering_of n = numbering_by n.tables.now n.own.now n.outputs.numbers.entries n.outputs.count

-- those of a network of these elements, of the POU whose table stands at that place
pub record IsNetwork (tables : List Table) (place : ℕ) (es : List DiagramElement) (n : NetworkNumbers) : Type 0 where
  pub all : n.tables.now ≡ tables
  pub own : slice_get tables place ≡ Some n.own.now
  pub outputs : MemoriesTold n.outputs.numbers.entries n.outputs.count (places_of (outputs es))
