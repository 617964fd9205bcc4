use Rattle.std.proofs.Common.{◌≡◌, ◌≤◌}
use Rattle.plcx_scan.specs.Sides.{BringsAll}
use Rattle.plcx_bench.specs.Summary.{turns}
use Rattle.plcx_bench.proofs.Scans.{scans}
use Rattle.plcx_bench.proofs.scanning.scan_ten.Given as goal

-- the scans so far are over
abbrev pub invariant-loop-time : goal.invariant-loop-time
invariant-loop-time g l = record {
  last : g.S.Side.last l.side ≤ l.time;
  machine : g.S.Side.machine l.side ≡ g.S.Side.machine l.fn.side;
  meaning : BringsAll (g.S.Side.machine l.fn.side) turns (scans l.time) (g.S.Side.stands_for l.fn.side) (g.S.Side.stands_for l.side);
}
