use Rattle.std.proofs.Common.{ℕ, ◌<◌}
use Rattle.plcx_typing.specs.Judgings.{flags_of, judged_at, NoFlag}
use Rattle.plcx_typing.proofs.answering.first_spot.Given as goal

abbrev pub invariant-loop-pou : goal.invariant-loop-pou
invariant-loop-pou l = (q : ℕ) → q < l.pou → NoFlag (flags_of l.rule (judged_at l.judged q))
