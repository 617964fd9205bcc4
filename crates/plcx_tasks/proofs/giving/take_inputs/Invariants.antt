use Rattle.std.proofs.Common.{◌≡◌, ℕ, List, Some, length, take}
use Rattle.std.specs.Prelude.{slice_get}
use Rattle.plcx_scan.specs.declared.event.Input.{Input}
use Rattle.plcx_tasks.specs.Tasks.{given}
use Rattle.plcx_tasks.proofs.giving.take_inputs.Given as goal

-- what is kept once the inputs so far are taken
abbrev pub invariant-loop-input : goal.invariant-loop-input
invariant-loop-input l = record {
  long : length l.pending.items ≡ length l.fn.pending.items;
  given : (i : ℕ) (past : List Input) → slice_get l.fn.pending.items i ≡ Some past → slice_get l.pending.items i ≡ Some (given i past (take l.input-index l.inputs));
}
