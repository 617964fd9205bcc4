use Rattle.plcx_text_pieces.proofs.Statements as statements
use Rattle.plcx_text_pieces.proofs.laws.pieces_stand.Goals as goal

pub returns : goal.returns
returns c = statements.pieces_stand
