use Rattle.std.proofs.Common.{◌≡◌, ◌++◌, take, drop, length}
use Rattle.plcx_state.specs.Retains.{each_with, kept_of}
use Rattle.plcx_state.proofs.lines.fill.Given as goal

abbrev pub invariant-loop-i : goal.invariant-loop-i
invariant-loop-i l = record {
  draft : take l.i l.draft.items ++ each_with kept_of (drop l.i l.leaves) (drop l.i l.draft.items) ≡ each_with kept_of l.leaves l.fn.draft.items;
  lengths : length l.leaves ≡ length l.draft.items;
}
