use Rattle.std.proofs.Common.{◌≡◌, ◌++◌, take}
use Rattle.std.specs.List.{flat_map}
use Rattle.plcx_tasks.specs.Steps.{scan_of}
use Rattle.plcx_tasks.proofs.scheduling.push_scans.Given as goal

abbrev pub invariant-loop-rank : goal.invariant-loop-rank
invariant-loop-rank l = l.steps.items ≡ l.initial.steps.items ++ flat_map (scan_of l.due l.pending l.moment.event l.moment.time) (take l.rank-index l.order)
