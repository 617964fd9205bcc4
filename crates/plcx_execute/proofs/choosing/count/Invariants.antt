use Rattle.std.proofs.Common.{◌≡◌, ◌≤◌, take}
use Rattle.plcx_execute.specs.Choosing.{count}
use Rattle.plcx_execute.proofs.choosing.count.Given as goal

-- the programs so far
abbrev pub invariant-loop-pou : goal.invariant-loop-pou
invariant-loop-pou l = (l.count ≡ count (take l.pou-index l.pous)) × (l.count ≤ l.pou-index)
