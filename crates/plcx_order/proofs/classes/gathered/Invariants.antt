use Rattle.std.proofs.Common.{◌≡◌, ◌<◌, ℕ, [], length, get_or}
use Rattle.plcx_order.specs.Classes.{class_below}
use Rattle.plcx_order.proofs.classes.gathered.Given as goal

abbrev pub invariant-loop-v : goal.invariant-loop-v
invariant-loop-v l = record {
  count : length l.lists.items ≡ length l.classes.firsts.items;
  at : (k : ℕ) → k < length l.classes.firsts.items → get_or l.lists.items k [] ≡ class_below l.classes.number.items k l.v;
}
