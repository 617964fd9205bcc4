use Rattle.plcx_order.specs.Walks.{IsTable, AreLast}
use Rattle.plcx_order.proofs.links.neighbours.Given as goal

abbrev pub invariant-loop-i : goal.invariant-loop-i
invariant-loop-i l = record {
  last : AreLast l.count l.links l.i l.last.items;
  table : IsTable l.links l.i l.before.items l.to.items;
}
