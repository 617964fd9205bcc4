use Rattle.std.proofs.Common.{◌≡◌, ℕ, ◌+◌, ◌<◌, length, get_or}
use Rattle.plcx_std.specs.State.{kind_of, values}
use Rattle.plcx_steps.specs.Numbered.{no_value}
use Rattle.plcx_steps.proofs.acting.load.Given as goal

abbrev pub invariant-loop-i : goal.invariant-loop-i
invariant-loop-i l = record {
  count : length (values l.state) ≡ l.count;
  kind : kind_of l.state ≡ kind_of l.fn.state;
  typed : (k : ℕ) → k < l.count → (get_or (values l.state) k no_value).ty ≡ (get_or l.store.values (l.leaf + k) no_value).ty;
  done : (k : ℕ) → k < l.i → get_or (values l.state) k no_value ≡ get_or l.store.values (l.leaf + k) no_value;
}
