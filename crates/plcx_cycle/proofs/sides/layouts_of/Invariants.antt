use Rattle.std.proofs.Common.{take}
use Rattle.plcx_state.specs.Retains.{Pairwise}
use Rattle.plcx_simulate.specs.Programs.{diagrams_in}
use Rattle.plcx_cycle.specs.Sides.{IsLaidOut}
use Rattle.plcx_cycle.proofs.sides.layouts_of.Given as goal

abbrev pub invariant-loop-instance : goal.invariant-loop-instance
invariant-loop-instance l = Pairwise (IsLaidOut (diagrams_in l.checked)) (take l.instance-index l.instances) l.layouts.items
