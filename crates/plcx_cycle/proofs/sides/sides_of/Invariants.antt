use Rattle.plcx_simulate.specs.Programs.{diagrams_in}
use Rattle.plcx_cycle.proofs.Loops.{AreOpenedTo}
use Rattle.plcx_cycle.proofs.sides.sides_of.Given as goal

abbrev pub invariant-loop-i : goal.invariant-loop-i
invariant-loop-i l = AreOpenedTo (diagrams_in l.checked) l.instances l.layouts l.i l.sides.items
