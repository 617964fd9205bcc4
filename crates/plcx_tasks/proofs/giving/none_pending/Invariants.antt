use Rattle.std.proofs.Common.{◌≡◌, ◌<◌, ℕ, [], Some, length}
use Rattle.std.specs.Prelude.{slice_get}
use Rattle.plcx_tasks.proofs.giving.none_pending.Given as goal

abbrev pub invariant-loop : goal.invariant-loop
invariant-loop l = record {
  long : length l.all.items ≡ l.counter;
  none : (i : ℕ) → i < l.counter → slice_get l.all.items i ≡ Some [];
}
