use Rattle.std.proofs.Common.{◌≡◌, ℕ}
use Rattle.plcx_link.specs.Judged.{first_from}
use Rattle.plcx_link.proofs.judging.first_in_body.Given as goal

-- the first of those that are left is the first of all
abbrev pub invariant-loop-place : goal.invariant-loop-place
invariant-loop-place l = (pou : ℕ) → first_from l.body l.rule pou l.place ≡ first_from l.body l.rule pou 0
