use Rattle.std.proofs.Common.{◌≡◌, ℕ, [], length, get_or}
use Rattle.plcx_typing.proofs.flow.still.Given as goal

abbrev pub invariant-loop : goal.invariant-loop
invariant-loop l = record {
  count : length l.next.items ≡ l.counter;
  empty : (k : ℕ) → get_or l.next.items k [] ≡ [];
}
