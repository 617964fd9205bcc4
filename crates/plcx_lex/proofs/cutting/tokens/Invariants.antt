use Rattle.std.proofs.Common.{◌≡◌, ◌≤◌, ◌-◌, List, length, map}
use Rattle.plcx_lex.specs.Lexis.{Piece, Covers, total, tokens_from, spelt}
use Rattle.std.specs.Prelude.{All}
use Rattle.plcx_lex.proofs.MadeLaws.{IsToldIn}
use Rattle.plcx_lex.proofs.cutting.tokens.Given as goal

abbrev pub invariant-loop-at : goal.invariant-loop-at
invariant-loop-at l = record {
  within : l.at ≤ length l.bytes;
  made : (ps : List Piece) × Covers l.bytes ps × (total ps ≡ l.at) × (map (spelt l.bytes) l.out.items ≡ tokens_from 0 l.bytes ps);
  told : All (IsToldIn l.bytes) l.out.items;
}

abbrev pub decreases-loop-at : goal.decreases-loop-at
decreases-loop-at l = length l.initial.bytes - l.at
