use Rattle.std.proofs.Common.{◌-◌, length}
use Rattle.plcx_xml.specs.Pieces.{Pieced}
use Rattle.plcx_xml.specs.Reads.{piece_at, many}
use Rattle.plcx_xml.proofs.value.pieces_of.Given as goal

abbrev pub invariant-loop-turn : goal.invariant-loop-turn
invariant-loop-turn l = Pieced l.value.items (many piece_at (length l.written - l.turn) l.rest) (many piece_at (length l.written) l.written)
