use Rattle.std.proofs.Common.{◌≡◌, ℕ, ◌<◌, length, get_or}
use Rattle.plcx_steps.specs.Numbered.{no_value, cells, argument_at}
use Rattle.plcx_steps.specs.Acting.{here_of, no_argument}
use Rattle.plcx_steps.proofs.acting.gather.Given as goal

abbrev pub invariant-loop-i : goal.invariant-loop-i
invariant-loop-i l = record {
  same : length l.inputs.items ≡ length l.fn.inputs.items;
  done : (k : ℕ) → k < l.i → get_or l.inputs.items k no_value ≡ argument_at (here_of l.spot) (cells l.store.values l.store.memories l.own) (get_or l.arguments k no_argument);
}
