use Rattle.std.proofs.Common.{◌≡◌, ℕ, ◌<◌, false}
use Rattle.plcx_typing.specs.Faults.{flag}
use Rattle.plcx_typing.proofs.answering.first_flag.Given as goal

abbrev pub invariant-loop-place : goal.invariant-loop-place
invariant-loop-place l = (x : ℕ) → x < l.place → flag l.flags x ≡ false
