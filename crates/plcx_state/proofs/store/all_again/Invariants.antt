use Rattle.std.proofs.Common.{◌≡◌, ◌++◌, take, drop, length}
use Rattle.plcx_state.specs.Retains.{each_with}
use Rattle.plcx_state.specs.Stores.{again}
use Rattle.plcx_state.proofs.store.all_again.Given as goal

abbrev pub invariant-loop-i : goal.invariant-loop-i
invariant-loop-i l = record {
  values : take l.i l.values.items ++ each_with (again l.keeps) (drop l.i l.starts) (drop l.i l.values.items) ≡ each_with (again l.keeps) l.starts l.fn.values.items;
  lengths : length l.starts ≡ length l.values.items;
}
