use Rattle.std.proofs.Common.{◌≡◌, ◌++◌, drop}
use Rattle.plcx_names.proofs.scope.owners_of.Given as goal

abbrev pub invariant-loop-pou : goal.invariant-loop-pou
invariant-loop-pou l = l.owners.items ++ drop l.pou-index l.pous ≡ l.pous
