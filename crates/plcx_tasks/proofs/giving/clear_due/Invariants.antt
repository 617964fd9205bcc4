use Rattle.std.proofs.Common.{◌≡◌, ℕ, List, Some, length, take}
use Rattle.std.specs.Prelude.{slice_get}
use Rattle.plcx_scan.specs.declared.event.Input.{Input}
use Rattle.plcx_tasks.specs.Steps.{left_behind}
use Rattle.plcx_tasks.proofs.giving.clear_due.Given as goal

-- what is left once the instances so far are cleared
abbrev pub invariant-loop-rank : goal.invariant-loop-rank
invariant-loop-rank l = record {
  long : length l.pending.items ≡ length l.fn.pending.items;
  left : (i : ℕ) (past : List Input) → slice_get l.fn.pending.items i ≡ Some past → slice_get l.pending.items i ≡ Some (left_behind l.due i past (take l.rank-index l.ranks));
}
