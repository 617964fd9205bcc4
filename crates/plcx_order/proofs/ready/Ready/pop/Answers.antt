use Rattle.std.specs.BinaryHeap.{heap_items}
use Rattle.std.proofs.lemmas.List.Sorted.{IsPermutation-map}
use Rattle.plcx_order.proofs.Least.{none_less}
use Rattle.plcx_order.proofs.ready.Ready.pop.Goals as goal

pub returns-clause-least : goal.returns-clause-least
returns-clause-least c = record {
  same = rw (← c.self.view_is) (IsPermutation-map (λ r. r.0) _ _ c.in-Some.ensures.permutation);
  least = none_less c.in-Some.top (heap_items c.pop.new.self) (c.in-Some.ensures.below_top c.self.invariant);
}
