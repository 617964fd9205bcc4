-- What the tables of a project tell of a POU.
use Rattle.std.proofs.Common.{◌≡◌, ◌∙◌, ℕ, List, length, Some, ap}
use Rattle.std.specs.Prelude.{slice_get}
use Rattle.plcx_meaning.specs.Diagram.{DiagramElement, Pou, Project}
use Rattle.plcx_meaning.specs.Layout.{variables_of}
use Rattle.plcx_numbered.specs.Numbers.{level, inner_depth, places_of, cells, depth, in_out_names, numbering}
use Rattle.plcx_drawn.specs.declared.drawing.Drawing.{Drawing}
use Rattle.plcx_tables.specs.declared.placed.Table.{Table}
use Rattle.plcx_tables.specs.declared.network.NetworkNumbers.{NetworkNumbers}
use Rattle.plcx_tables.specs.Numbering.{numbering_by}
use Rattle.plcx_tables.specs.Networks.{numbering_of, IsNetwork}
use Rattle.plcx_tables.proofs.Meaning.{counts_are, numbering_is}
use Rattle.plcx_program.specs.Bodies.{IsDrawn}

-- how many levels are below it, and how many leaves, memories and in-outs it has
pub record AreCounts (project : Project) (p : Pou) (table : Table) : Type 0 where
  pub level : table.level ≡ level inner_depth project p
  pub leaves : table.leaves ≡ length (places_of project (variables_of p.lists))
  pub memories : table.memories ≡ length (cells depth project p)
  pub in_outs : length table.own.now.in_outs.items ≡ length (in_out_names (variables_of p.lists))

pub counted : (project : Project) (tables : List Table) (place : ℕ) (drawing : Drawing) (p : Pou) → IsDrawn project tables place drawing p → (table : Table) → slice_get tables place ≡ Some table → AreCounts project p table
counted project tables place drawing p drawn table there =
    let counts = counts_are project drawn.told.owns drawn.told.own tables drawn.told.placed place p table drawn.there there in
    record { level = counts.0; leaves = counts.1; memories = counts.2; in_outs = counts.3 }

-- the numbers of a network
pub numbers_are : (project : Project) (tables : List Table) (place : ℕ) (drawing : Drawing) (p : Pou) → IsDrawn project tables place drawing p → (es : List DiagramElement) (n : NetworkNumbers) → IsNetwork tables place es n → numbering_of n ≡ numbering project p es
numbers_are project tables place drawing p drawn es n is =
    ap (λ (ts : List Table). numbering_by ts n.own.now n.outputs.numbers.entries n.outputs.count) is.all
    ∙ numbering_is project drawn.told.owns drawn.told.own tables drawn.told.placed place p n.own.now drawn.there is.own es n.outputs.numbers.entries n.outputs.count is.outputs
