use Rattle.std.proofs.Common.{◌≤◌, ◌+◌, ℕ, length}
use Rattle.plcx_lex.specs.Lexis.{ClosesAt}
use Rattle.plcx_lex.proofs.pieces.closes_before.Given as goal

abbrev pub invariant-loop-end : goal.invariant-loop-end
invariant-loop-end l = record {
  within : l.end ≤ length l.bytes;
  none : (m : ℕ) → l.end ≤ m + 1 → ClosesAt l.bytes m → ⊥;
}

abbrev pub decreases-loop-end : goal.decreases-loop-end
decreases-loop-end l = l.end
