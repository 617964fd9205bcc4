use Rattle.std.proofs.Common.{◌≡◌, ◌≤◌, ◌<◌, ℕ, get_or}
use Rattle.plcx_lex.proofs.pieces.line_len.Given as goal

abbrev pub invariant-loop-n : goal.invariant-loop-n
invariant-loop-n l = (m : ℕ) → 2 ≤ m → m < l.n → get_or l.bytes m 0 ≡ 10 → ⊥
