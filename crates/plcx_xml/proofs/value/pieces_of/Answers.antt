use Rattle.std.proofs.Common.{◌≡◌, ◌++◌}
use Rattle.plcx_xml.specs.Pieces.{shown}
use Rattle.plcx_xml.proofs.PiecesRead.{pieces-end, pieces-turn}
use Rattle.plcx_xml.proofs.value.pieces_of.Goals as goal

pub returns-in-None : goal.returns-in-None
returns-in-None c = pieces-end _ _ _ _ (rw c.in-None.is at c.piece_of.ensures) c.loop-turn.invariant

pub loop-turn-preserved : goal.loop-turn-preserved
loop-turn-preserved c =
    let more : c.put.new.value.items ≡ c.loop-turn.value.items ++ shown c.in-Some.piece = c.in_ok-put-in-Some.ensures in
    rw more (pieces-turn _ _ _ _ _ _ c.loop-turn-test.true (rw c.in-Some.is at c.piece_of.ensures) c.loop-turn.invariant)
