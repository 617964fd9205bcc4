use Rattle.std.proofs.Common.{◌≡◌, ◌≤◌, ◌-◌, ◌+◌, ℕ, List, vec_len}
use Rattle.plcx_io.proofs.Fronts.{Begins}
use Rattle.plcx_io.proofs.loading.load.Given as goal

-- a front has come in, and the desk tells what it told
abbrev pub invariant-loop-buf : goal.invariant-loop-buf
invariant-loop-buf g l = record {
  front : Begins (g.D.Desk.file l.fn.desk l.name) l.bytes.items;
  room : vec_len l.bytes ≤ l.most + 1;
  most : l.most ≡ l.limit;
  files : (other : List ℕ) → g.D.Desk.file l.desk other ≡ g.D.Desk.file l.fn.desk other;
  later : (other : List ℕ) → g.D.Desk.faults l.fn.desk other ≤ g.D.Desk.faults l.desk other;
}

abbrev pub decreases-loop-buf : goal.decreases-loop-buf
decreases-loop-buf g l = l.limit + 1 - vec_len l.bytes
