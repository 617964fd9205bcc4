use Rattle.std.proofs.Common.{map, take}
use Rattle.std.specs.List.{AllZip}
use Rattle.plcx_drawn.specs.Pous.{shown_pou}
use Rattle.plcx_tables.specs.Owned.{IsOwn}
use Rattle.plcx_tables.proofs.own.owns.Given as goal

abbrev pub invariant-loop-drawing : goal.invariant-loop-drawing
invariant-loop-drawing l = AllZip (IsOwn (map (shown_pou l.pous) l.drawings)) (map (shown_pou l.pous) (take l.drawing-index l.drawings)) l.owns.items
