use Rattle.std.proofs.Common.{◌≤◌, ◌<◌, ℕ}
use Rattle.plcx_lex.specs.Lexis.{ClosesAt}
use Rattle.plcx_lex.proofs.pieces.bracketed_len.Given as goal

abbrev pub invariant-loop-at : goal.invariant-loop-at
invariant-loop-at l = (m : ℕ) → 2 ≤ m → m < l.at → ClosesAt l.bytes m → ⊥
