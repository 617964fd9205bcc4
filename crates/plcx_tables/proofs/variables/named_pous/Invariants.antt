use Rattle.std.proofs.Common.{map, take}
use Rattle.plcx_tables.specs.Named.{NamesTold}
use Rattle.plcx_tables.specs.Telling.{pou_name}
use Rattle.plcx_tables.proofs.variables.named_pous.Given as goal

abbrev pub invariant-loop-drawing : goal.invariant-loop-drawing
invariant-loop-drawing l = NamesTold l.names.numbers.entries l.names.count (map pou_name (take l.drawing-index l.drawings))
