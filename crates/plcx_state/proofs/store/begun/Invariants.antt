use Rattle.std.proofs.Common.{◌≡◌, ◌++◌, drop}
use Rattle.plcx_state.specs.Retains.{each_with}
use Rattle.plcx_state.specs.Stores.{begun, all_begun}
use Rattle.plcx_state.proofs.store.begun.Given as goal

abbrev pub invariant-loop-i : goal.invariant-loop-i
invariant-loop-i l = l.values.items ++ each_with begun (drop l.i l.leaves) (drop l.i l.kept) ≡ all_begun l.leaves l.kept
