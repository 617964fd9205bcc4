use Rattle.std.proofs.Common.{map, take}
use Rattle.plcx_drawn.specs.declared.drawing.Drawing.{Drawing}
use Rattle.plcx_tables.specs.Named.{NamesTold}
use Rattle.plcx_tables.specs.Telling.{block_name}
use Rattle.plcx_tables.proofs.variables.named_blocks.Given as goal

abbrev pub invariant-loop-drawing : goal.invariant-loop-drawing
invariant-loop-drawing l = NamesTold l.names.numbers.entries l.names.count (map (λ (d : Drawing). block_name d.pou.now) (take l.drawing-index l.drawings))
