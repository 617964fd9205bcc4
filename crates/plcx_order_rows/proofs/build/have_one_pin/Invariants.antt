use Rattle.std.proofs.Common.{◌≤◌, ◌<◌, drop, length}
use Rattle.plcx_types.specs.Lists.{Each}
use Rattle.plcx_model.specs.declared.source.Source.{Source}
use Rattle.plcx_model.specs.Numbering.{LocalIdsDiffer}
use Rattle.plcx_order_rows.specs.Tested.{HasOnePin, OtherId, AreBelow}
use Rattle.plcx_order_rows.proofs.build.have_one_pin.Given as goal

abbrev pub invariant-loop-k : goal.invariant-loop-k
invariant-loop-k l = record {
  bound : l.k ≤ length l.elements;
  each : Each HasOnePin (drop l.k l.elements);
}

abbrev pub decreases-loop-k : goal.decreases-loop-k
decreases-loop-k l = l.k
